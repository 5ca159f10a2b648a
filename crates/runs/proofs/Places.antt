-- The place of a number among labels.
use Rattle.std.proofs.Common.{◌≡◌, ℕ, zero, suc, Bool, true, false, cond, ◌||◌, eqb, List, [], ◌∷◌, ◌++◌, Some, None, filter, Option, sym, refl, ap, ◌∙◌, ⊎_elim, arith}
use Rattle.std.specs.List.{find, ContainsAt as Has}
use Rattle.std.specs.Option.{option_map, option_or, is_some}
use Rattle.std.proofs.lemmas.Bool.{cases_Bool, both_ways, cond-true, cond-false, eq-eqb, eqb-true, or_left, or_right}
use Rattle.queue.proofs.Keeping.{keeps, leaves}
use Rattle.geometry.specs.declared.place.Place.{Place}
use Rattle.geometry.specs.declared.label.Label.{Label}
use Rattle.geometry.specs.Numbers.{present, distinct}
use Rattle.neighbours.proofs.Answering.{distinct-parts}
use Rattle.runs.specs.Pages.{place_of}

pub place-first : (n : ℕ) (l : Label) (ls : List Label) → place_of n (l ∷ ls) ≡ cond (eqb l.number n) (Some l.place) (place_of n ls)
unfolding place_of
place-first n l ls = elim (eqb l.number n) as (λ b. option_map (λ l. l.place) (cond b (Some l) (find (λ l. eqb l.number n) ls)) ≡ cond b (Some l.place) (option_map (λ l. l.place) (find (λ l. eqb l.number n) ls))) [
  | true ↦ refl
  | false ↦ refl
]

pub place-none : (n : ℕ) → place_of n [] ≡ None
unfolding place_of
place-none n = refl

pub place-append : (n : ℕ) (ls ms : List Label) → place_of n (ls ++ ms) ≡ option_or (place_of n ls) (place_of n ms)
place-append n [] ms = ap (λ o. option_or o (place_of n ms)) (sym (place-none n))
place-append n (l ∷ ls) ms = place-first n l (ls ++ ms) ∙ ap (cond (eqb l.number n) (Some l.place)) (place-append n ls ms)
    ∙ choose (eqb l.number n) ∙ ap (λ o. option_or o (place_of n ms)) (sym (place-first n l ls))
  where
    choose : (b : Bool) → cond b (Some l.place) (option_or (place_of n ls) (place_of n ms)) ≡ option_or (cond b (Some l.place) (place_of n ls)) (place_of n ms)
    choose true = refl
    choose false = refl

-- of the labels whose number passes a test
pub place-kept : (f : ℕ → Bool) (n : ℕ) (ls : List Label) → place_of n (filter (λ l. f l.number) ls) ≡ cond (f n) (place_of n ls) None
place-kept f n [] = place-none n ∙ elim (f n) as (λ b. None ≡ cond b (place_of n []) None) [ true ↦ sym (place-none n) | false ↦ refl ]
place-kept f n (l ∷ ls) =
    let same : eqb l.number n ≡ true → f n ≡ f l.number = λ t. ap f (sym (eqb-true l.number n t)) in
    let more = ap (λ o. cond (f n) o None) (sym (place-first n l ls)) in
    ⊎_elim
    (λ (t : f l.number ≡ true). ap (place_of n) (keeps (λ l. f l.number) l ls t) ∙ place-first n l (filter (λ l. f l.number) ls) ∙ ap (cond (eqb l.number n) (Some l.place)) (place-kept f n ls)
    ∙ stays (eqb l.number n) (f n) (λ u. same u ∙ t) ∙ more)
    (λ (e : f l.number ≡ false). ap (place_of n) (leaves (λ l. f l.number) l ls e) ∙ place-kept f n ls ∙ goes (eqb l.number n) (f n) (λ u. same u ∙ e) ∙ more)
    (cases_Bool (f l.number))
  where
    stays : (b c : Bool) → (b ≡ true → c ≡ true) → cond b (Some l.place) (cond c (place_of n ls) None) ≡ cond c (cond b (Some l.place) (place_of n ls)) None
    stays true c h = sym (cond-true c (Some l.place) None (h refl))
    stays false c h = refl

    goes : (b c : Bool) → (b ≡ true → c ≡ false) → cond c (place_of n ls) None ≡ cond c (cond b (Some l.place) (place_of n ls)) None
    goes true c h = cond-false c (place_of n ls) None (h refl) ∙ sym (cond-false c (Some l.place) None (h refl))
    goes false c h = refl

pub present-place : (n : ℕ) (ls : List Label) → present n ls ≡ is_some (place_of n ls)
present-place n [] = ap is_some (sym (place-none n))
present-place n (l ∷ ls) = ap (λ b. eqb l.number n || b) (present-place n ls) ∙ choose (eqb l.number n) ∙ ap is_some (sym (place-first n l ls))
  where
    choose : (b : Bool) → (b || is_some (place_of n ls)) ≡ is_some (cond b (Some l.place) (place_of n ls))
    choose true = refl
    choose false = refl

pub absent-place : (n : ℕ) (ls : List Label) → present n ls ≡ false → place_of n ls ≡ None
absent-place n ls h = none-of (place_of n ls) (sym (present-place n ls) ∙ h)
  where
    none-of : (o : Option Place) → is_some o ≡ false → o ≡ None
    none-of None e = refl
    none-of (Some a) e = absurd (both_ways true e refl)

pub place-absent : (n : ℕ) (ls : List Label) → place_of n ls ≡ None → present n ls ≡ false
place-absent n ls h = present-place n ls ∙ ap is_some h

pub has-present : (l : Label) (ls : List Label) → Has ls l → present l.number ls ≡ true
has-present l [] h = absurd (omega (arith, h.1))
has-present l (m ∷ ls) (zero, in', here) = or_left (eqb m.number l.number) (present l.number ls) (eq-eqb m.number l.number (ap (λ k. k.number) (here l)))
has-present l (m ∷ ls) (suc k, in', later) = or_right (eqb m.number l.number) (present l.number ls) (has-present l ls (k, omega arith, later))

-- among labels of which no two have the same number, each stands where it is
pub has-place : (l : Label) (ls : List Label) → distinct ls ≡ true → Has ls l → place_of l.number ls ≡ Some l.place
has-place l [] d h = absurd (omega (arith, h.1))
has-place l (m ∷ ls) d (zero, in', here) = place-first l.number m ls ∙ cond-true (eqb m.number l.number) (Some m.place) (place_of l.number ls) (eq-eqb m.number l.number (ap (λ k. k.number) (here l))) ∙ ap (λ k. Some k.place) (here l)
has-place l (m ∷ ls) d (suc k, in', later) =
    let e = distinct-parts m ls d in
    let has : Has ls l = (k, omega arith, later) in
    ⊎_elim
    (λ (t : eqb m.number l.number ≡ true). absurd (both_ways (present m.number ls) e.0 (ap (λ n. present n ls) (eqb-true m.number l.number t) ∙ has-present l ls has)))
    (λ (f : eqb m.number l.number ≡ false). place-first l.number m ls ∙ cond-false (eqb m.number l.number) (Some m.place) (place_of l.number ls) f ∙ has-place l ls e.1 has)
    (cases_Bool (eqb m.number l.number))

-- where a number has a place, a label has the two
pub place-has : (n : ℕ) (a : Place) (ls : List Label) → place_of n ls ≡ Some a → (l : Label) × Has ls l × (l.number ≡ n) × (l.place ≡ a)
place-has n a [] h = let e : None ≡ Some a = sym (place-none n) ∙ h in absurd (cc)
place-has n a (l ∷ ls) h =
    let e = sym (place-first n l ls) ∙ h in
    ⊎_elim
    (λ (t : eqb l.number n ≡ true). let f : Some l.place ≡ Some a = sym (cond-true (eqb l.number n) (Some l.place) (place_of n ls) t) ∙ e in (l, (zero, omega arith, λ d. refl), eqb-true l.number n t, (cc)))
    (λ (f : eqb l.number n ≡ false). let m = place-has n a ls (sym (cond-false (eqb l.number n) (Some l.place) (place_of n ls) f) ∙ e) in (m.0, (suc m.1.0, omega (arith, m.1.1), m.1.2), m.2, m.3))
    (cases_Bool (eqb l.number n))
