-- The order of answers: the label items of distinct labels come by distance and then by number.
use Rattle.std.proofs.Common.{◌≡◌, ℕ, Bool, true, false, cond, not, eqb, ltb, List, [], ◌∷◌, map, length, None, filter, Option, sym, refl, ap, ◌∙◌, arith}
use Rattle.std.specs.List.{AllByRecursion}
use Rattle.std.proofs.lemmas.Bool.{cond_both, or_parts, or_from, and_parts, and_from, not-true, not_from_false}
use Rattle.std.proofs.ByRecursion.{All-weaker}
use Rattle.std.proofs.lemmas.Bool.Decides.{nat_tests}
use Rattle.queue.specs.Order.{Order, sorted}
use Rattle.queue.proofs.Ascending.{sorted-kept}
use Rattle.geometry.specs.declared.place.Place.{Place}
use Rattle.geometry.specs.declared.rect.Rect.{Rect}
use Rattle.geometry.specs.declared.label.Label.{Label}
use Rattle.geometry.specs.Numbers.{present, distinct}
use Rattle.neighbours.specs.declared.item.Subject.TheVariants.{OfLabel}
use Rattle.neighbours.specs.declared.view.View.{View}
use Rattle.neighbours.specs.Ranking.{Ranking, ranking}
use Rattle.neighbours.specs.Neighbours.{others, closer}
use Rattle.neighbours.specs.Items.{label_before, ahead}
use Rattle.neighbours.specs.Scene.{label_item, shown}
use Rattle.neighbours.specs.Ordering.{item-order}
use Rattle.neighbours.proofs.Arranging.{Agree, sorted-alike, sorted-map, count-arranged}

-- a number that is not there is none of those that are
pub absent-all : (n : ℕ) (ls : List Label) → present n ls ≡ false → AllByRecursion (λ m. eqb m.number n ≡ false) ls
absent-all n [] h = tt
absent-all n (l ∷ ls) h = let e = or_parts (eqb l.number n) (present n ls) h in (e.0, absent-all n ls e.1)

absent-kept : (f : Label → Bool) (n : ℕ) (ls : List Label) → present n ls ≡ false → present n (filter f ls) ≡ false
absent-kept f n [] h = refl
absent-kept f n (l ∷ ls) h =
    let e = or_parts (eqb l.number n) (present n ls) h in
    cond_both (f l) (l ∷ filter f ls) (filter f ls) (λ k. present n k ≡ false) (λ t. or_from (eqb l.number n) _ e.0 (absent-kept f n ls e.1)) (λ g. absent-kept f n ls e.1)

-- a label of distinct ones, and the rest
pub distinct-parts : (l : Label) (ls : List Label) → distinct (l ∷ ls) ≡ true → (present l.number ls ≡ false) × (distinct ls ≡ true)
distinct-parts l ls h = let e = and_parts (not (present l.number ls)) (distinct ls) h in (not-true _ e.0, e.1)

pub distinct-kept : (f : Label → Bool) (ls : List Label) → distinct ls ≡ true → distinct (filter f ls) ≡ true
distinct-kept f [] h = refl
distinct-kept f (l ∷ ls) h =
    let e = distinct-parts l ls h in
    cond_both (f l) (l ∷ filter f ls) (filter f ls) (λ k. distinct k ≡ true)
    (λ t. and_from _ _ (not_from_false (present l.number (filter f ls)) (absent-kept f l.number ls e.0)) (distinct-kept f ls e.1))
    (λ g. distinct-kept f ls e.1)

pub distinct-others : (own : Option ℕ) (ls : List Label) → distinct ls ≡ true → distinct (others own ls) ≡ true
unfolding others
distinct-others own ls h = distinct-kept _ ls h

pub distinct-shown : (v : View) (ls : List Label) → distinct ls ≡ true → distinct (shown v ls) ≡ true
unfolding shown
distinct-shown v ls h = distinct-others v.candidate (others v.own ls) (distinct-others v.own ls h)

-- with no number to leave out all stay
pub others-none : (ls : List Label) → others None ls ≡ ls
unfolding others
others-none [] = refl
others-none (l ∷ ls) = ap (λ k. l ∷ k) (others-none ls)

pub shown-own : (from : Place) (own : Option ℕ) (ls : List Label) → shown (record { from = from; own = own; candidate = None }) ls ≡ others own ls
unfolding shown
shown-own from own ls = others-none (others own ls)

module _ {D : Type 0} {lt : D → D → Bool} (o : Order lt) (dist : Place → Place → D) (bound : Place → Rect → D) (q : Place) where
  -- labels as their items come
  abbrev whole : Label → Label → Bool
  whole a b = ahead lt (label_item (dist q) a) (label_item (dist q) b)

  whole-order : Order whole
  whole-order = record {
    never = λ a. (item-order o).never (label_item (dist q) a);
    chain = λ a b c. (item-order o).chain (label_item (dist q) a) (label_item (dist q) b) (label_item (dist q) c);
    decides = λ a b h k. let e = ap (λ i. i.subject) ((item-order o).decides (label_item (dist q) a) (label_item (dist q) b) h k) in same a b e;
  }
    where
      same : (a b : Label) → OfLabel a ≡ OfLabel b → a ≡ b
      same a b e = cc

  agree : (ls : List Label) → distinct ls ≡ true → Agree whole (closer (ranking lt dist bound) q) ls
  agree [] h = tt
  agree (l ∷ ls) h =
      let e = distinct-parts l ls h in
      (All-weaker (λ m. eqb m.number l.number ≡ false) (λ m. whole m l ≡ closer (ranking lt dist bound) q m l) (λ m d. ap (λ b. cond (lt (dist q m.place) (dist q l.place)) true (cond (lt (dist q l.place) (dist q m.place)) false b)) (by_number m l d)) ls (absent-all l.number ls e.0), agree ls e.1)
    where
      by_number : (m l : Label) → eqb m.number l.number ≡ false → label_before m l ≡ ltb m.number l.number
      by_number m l d = grind (arith, nat_tests)

  pub labels-in-order : (ls : List Label) → distinct ls ≡ true → sorted (ahead lt) (map (label_item (dist q)) ls) ≡ map (label_item (dist q)) (sorted (closer (ranking lt dist bound) q) ls)
  labels-in-order ls h = sorted-map (ahead lt) (label_item (dist q)) ls ∙ ap (map (label_item (dist q))) (sorted-alike _ _ ls (agree ls h))

  pub kept-in-order : (f : Label → Bool) (ls : List Label) → distinct ls ≡ true → filter f (sorted (closer (ranking lt dist bound) q) ls) ≡ sorted (closer (ranking lt dist bound) q) (filter f ls)
  kept-in-order f ls h = ap (filter f) (sym (sorted-alike _ _ ls (agree ls h))) ∙ sym (sorted-kept whole-order f ls) ∙ sorted-alike _ _ (filter f ls) (agree (filter f ls) (distinct-kept f ls h))

-- a test passes as many of labels in order
pub count-in-order : (near : Ranking) (q : Place) (f : Label → Bool) (ls : List Label) → length (filter f (sorted (closer near q) ls)) ≡ length (filter f ls)
count-in-order near q f ls = count-arranged (closer near q) f ls
