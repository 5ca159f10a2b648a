-- Values by their numbers, and the smallest box around two.
use Rattle.std.proofs.Common.{◌≡◌, ℕ, ◌≤◌, Bool, true, false, ◌&&◌, ℤ, nat_abs, ◌≤ℤ◌, Ok, sym, refl, ap, ◌∙◌, ⊎_elim, arith}
use Rattle.std.specs.Int.{int_min, int_max}
use Rattle.std.proofs.lemmas.Int.{ints, clamps}
use Rattle.std.proofs.lemmas.Bool.{both_ways, cases_Bool, cond-true, cond-false}
use Rattle.std.proofs.lemmas.Bool.Decides.{nat_tests}
use Rattle.geometry.specs.declared.place.Place.{Place}
use Rattle.geometry.specs.declared.label.Label.{Label}
use Rattle.geometry.specs.declared.rect.Rect.{Rect}
use Rattle.geometry.specs.Plane.{in_range, numbered, on_map, place_from, label_from, rect_from, place_at, label_at, rect_at, span, spanning, Smallest}
use Rattle.geometry.proofs.Same.{same_place, same-label, same-rect}

pub and_both : (a b : Bool) → (a && b) ≡ true → (a ≡ true) × (b ≡ true)
and_both true b h = (refl, h)
and_both false b h = absurd (both_ways false refl h)

pub and-made : (a b : Bool) → a ≡ true → b ≡ true → (a && b) ≡ true
and-made true b p q = q
and-made false b p q = p

-- what a span tells of its ends
pub spanned : (low high : ℤ) → span low high ≡ true → (low ≤ℤ high) × (nat_abs low ≤ 1000000) × (nat_abs high ≤ 1000000)
spanned low high h = (grind (arith, ints, nat_tests), grind (arith, ints, nat_tests), grind (arith, ints, nat_tests))

-- coordinates on the map stay as they are
pub on-map-same : (z : ℤ) → nat_abs z ≤ 1000000 → on_map z ≡ z
on-map-same z h = omega (arith, ints, clamps)

far-same : (low high : ℤ) → low ≤ℤ high → nat_abs low ≤ 1000000 → nat_abs high ≤ 1000000 → int_max (on_map low) (on_map high) ≡ high
far-same low high h k l = omega (arith, ints, clamps)

-- a box by its sides
pub rect-is : (r : Rect) (w s e n : ℤ) → r.west ≡ w → r.south ≡ s → r.east ≡ e → r.north ≡ n → r ≡ rect_at w s e n
unfolding rect_at
rect-is r w s e n p q x y = same-rect r (rect_at w s e n)
    (sym (on-map-same r.west r.near.0) ∙ ap on_map p)
    (sym (on-map-same r.south r.near.1) ∙ ap on_map q)
    (sym (far-same r.west r.east r.upright.0 r.near.0 r.near.2) ∙ (λ i. int_max (on_map (p i)) (on_map (x i))))
    (sym (far-same r.south r.north r.upright.1 r.near.1 r.near.3) ∙ (λ i. int_max (on_map (q i)) (on_map (y i))))

-- a place by its coordinates
pub place_is : (p : Place) (x y : ℤ) → p.x ≡ x → p.y ≡ y → p ≡ place_at x y
unfolding place_at
place_is p x y a b = same_place p (place_at x y) (sym (on-map-same p.x p.near.0) ∙ ap on_map a) (sym (on-map-same p.y p.near.1) ∙ ap on_map b)

-- a label by its number and coordinates
pub label_is : (l : Label) (n : ℕ) (x y : ℤ) → l.number ≡ n → l.place ≡ place_at x y → l ≡ label_at n x y
unfolding label_at
label_is l n x y a b = same-label l (label_at n x y) (let w = l.numbered in omega arith) b

-- what makes a place, a box or a label accepts its numbers
pub in-range : (z : ℤ) → nat_abs z ≤ 1000000 → in_range z ≡ true
in-range z h = grind (arith, nat_tests)

pub place-from : (p : Place) (x y : ℤ) → p.x ≡ x → p.y ≡ y → Ok p ≡ place_from x y
place-from p x y a b =
    let fits : (in_range x && in_range y) ≡ true = and-made _ _ (ap in_range (sym a) ∙ in-range p.x p.near.0) (ap in_range (sym b) ∙ in-range p.y p.near.1) in
    ap (λ q. Ok q) (place_is p x y a b) ∙ sym (cond-true (in_range x && in_range y) _ _ fits)

pub place-told : (p : Place) (x y : ℤ) → Ok p ≡ place_from x y → ((in_range x && in_range y) ≡ true) × (p ≡ place_at x y)
place-told p x y h = ⊎_elim
    (λ (t : (in_range x && in_range y) ≡ true). let e = h ∙ cond-true (in_range x && in_range y) _ _ t in (t, cc))
    (λ (f : (in_range x && in_range y) ≡ false). let e = h ∙ cond-false (in_range x && in_range y) _ _ f in let z : ◌≡◌ {A = ℕ} 0 1 = cc in absurd (omega arith))
    (cases_Bool (in_range x && in_range y))

pub label-from : (l : Label) (n : ℕ) (x y : ℤ) → l.number ≡ n → Ok l.place ≡ place_from x y → Ok l ≡ label_from n x y
label-from l n x y a b =
    let told = place-told l.place x y b in
    let w = l.numbered in
    let fits : numbered n ≡ true = grind (arith, nat_tests) in
    ap (λ m. Ok m) (label_is l n x y a told.1) ∙ sym (cond-true (in_range x && in_range y) _ _ told.0) ∙ sym (cond-true (numbered n) _ _ fits)

-- a label that was made from numbers has the number
pub label-told : (l : Label) (n : ℕ) (x y : ℤ) → Ok l ≡ label_from n x y → l.number ≡ n
unfolding label_at
label-told l n x y h = ⊎_elim
    (λ (t : numbered n ≡ true). ⊎_elim
    (λ (u : (in_range x && in_range y) ≡ true).
    let e = h ∙ cond-true (numbered n) _ _ t ∙ cond-true (in_range x && in_range y) _ _ u in
    let same : l.number ≡ (label_at n x y).number = cc in
    let plain : (label_at n x y).number ≡ n = grind (arith, nat_tests) in same ∙ plain)
    (λ (f : (in_range x && in_range y) ≡ false). let e = h ∙ cond-true (numbered n) _ _ t ∙ cond-false (in_range x && in_range y) _ _ f in let z : ◌≡◌ {A = ℕ} 0 1 = cc in absurd (omega arith))
    (cases_Bool (in_range x && in_range y)))
    (λ (f : numbered n ≡ false). let e = h ∙ cond-false (numbered n) _ _ f in let z : ◌≡◌ {A = ℕ} 0 1 = cc in absurd (omega arith))
    (cases_Bool (numbered n))

spans : (low high : ℤ) → low ≤ℤ high → nat_abs low ≤ 1000000 → nat_abs high ≤ 1000000 → span low high ≡ true
spans low high h k l = grind (arith, ints, nat_tests)

pub rect-from : (r : Rect) (w s e n : ℤ) → r.west ≡ w → r.south ≡ s → r.east ≡ e → r.north ≡ n → Ok r ≡ rect_from w s e n
rect-from r w s e n p q x y =
    let across = spans r.west r.east r.upright.0 r.near.0 r.near.2 in
    let along = spans r.south r.north r.upright.1 r.near.1 r.near.3 in
    let same : (span r.west r.east && span r.south r.north) ≡ (span w e && span s n) = λ i. span (p i) (x i) && span (q i) (y i) in
    ap (λ b. Ok b) (rect-is r w s e n p q x y) ∙ sym (cond-true (span w e && span s n) _ _ (sym same ∙ and-made _ _ across along))

-- what is in range is taken as it is
pub rect-at : (w s e n : ℤ) → span w e ≡ true → span s n ≡ true → ((rect_at w s e n).west ≡ w) × ((rect_at w s e n).south ≡ s) × ((rect_at w s e n).east ≡ e) × ((rect_at w s e n).north ≡ n)
unfolding rect_at
rect-at w s e n h k =
    let a = spanned w e h in
    let b = spanned s n k in
    (on-map-same w a.1, on-map-same s b.1, far-same w e a.0 a.1 a.2, far-same s n b.0 b.1 b.2)

pub label-at : (n : ℕ) (x y : ℤ) → numbered n ≡ true → nat_abs x ≤ 1000000 → nat_abs y ≤ 1000000 → ((label_at n x y).number ≡ n) × ((label_at n x y).place.x ≡ x) × ((label_at n x y).place.y ≡ y)
unfolding label_at place_at
label-at n x y h k l = (grind (arith, nat_tests), on-map-same x k, on-map-same y l)

-- the same along one axis
axis-first : (a b c d low high : ℤ) → low ≡ int_min a c → high ≡ int_max b d → spanning low high a b ≡ true
axis-first a b c d low high p q = grind (arith, ints, clamps)

axis-second : (a b c d low high : ℤ) → low ≡ int_min a c → high ≡ int_max b d → spanning low high c d ≡ true
axis-second a b c d low high p q = grind (arith, ints, clamps)

axis-least : (a b c d low high u v : ℤ) → low ≡ int_min a c → high ≡ int_max b d → spanning u v a b ≡ true → spanning u v c d ≡ true → spanning u v low high ≡ true
axis-least a b c d low high u v p q h k = grind (arith, ints, clamps)

-- a box with the outer sides of two is the smallest around them
pub smallest : (r b c : Rect) → r.west ≡ int_min b.west c.west → r.south ≡ int_min b.south c.south → r.east ≡ int_max b.east c.east → r.north ≡ int_max b.north c.north → Smallest r b c
smallest r b c w s x n = record {
  first = and-made _ _ (axis-first _ _ c.west c.east _ _ w x) (axis-first _ _ c.south c.north _ _ s n);
  second = and-made _ _ (axis-second b.west b.east _ _ _ _ w x) (axis-second b.south b.north _ _ _ _ s n);
  least = λ a h k.
      let h' = and_both _ _ h in
      let k' = and_both _ _ k in
      and-made _ _ (axis-least b.west b.east c.west c.east _ _ a.west a.east w x h'.0 k'.0) (axis-least b.south b.north c.south c.north _ _ a.south a.north s n h'.1 k'.1);
}
