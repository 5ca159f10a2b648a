-- Labels that are distinct and have none of the numbers of others are distinct from them.
use Rattle.std.specs.Prelude.{◌≡◌, ℕ, true, false, List, [], ◌∷◌, ◌++◌, ◌==◌, refl}
use Rattle.std.proofs.Common.{sym}
use Rattle.std.specs.List.{AllByRecursion}
use Rattle.std.proofs.ByRecursion.{All-weaker}
use Rattle.std.proofs.lemmas.Bool.{and_from, or_parts, or_from, not_from_false, ne_eqb, eqb-false}
use Rattle.geometry.specs.declared.label.Label.{Label}
use Rattle.geometry.specs.Numbers.{present, distinct}
use Rattle.neighbours.proofs.Answering.{distinct-parts}

absent-append : (n : ℕ) (xs ys : List Label) → present n xs ≡ false → present n ys ≡ false → present n (xs ++ ys) ≡ false
absent-append n [] ys h k = k
absent-append n (x ∷ xs) ys h k = let e = or_parts (x.number == n) (present n xs) h in or_from (x.number == n) (present n (xs ++ ys)) e.0 (absent-append n xs ys e.1 k)

absent-from_all : (n : ℕ) (ys : List Label) → AllByRecursion (λ y. (n == y.number) ≡ false) ys → present n ys ≡ false
absent-from_all n [] h = refl
absent-from_all n (y ∷ ys) h = or_from (y.number == n) (present n ys) (ne_eqb y.number n (λ e. eqb-false n y.number h.0 (sym e))) (absent-from_all n ys h.1)

pub distinct-append : (xs ys : List Label) → distinct xs ≡ true → distinct ys ≡ true → AllByRecursion (λ y. present y.number xs ≡ false) ys → distinct (xs ++ ys) ≡ true
distinct-append [] ys p q h = q
distinct-append (x ∷ xs) ys p q h =
    let e = distinct-parts x xs p in
    let first = All-weaker (λ y. present y.number (x ∷ xs) ≡ false) (λ y. (x.number == y.number) ≡ false) (λ y k. (or_parts (x.number == y.number) (present y.number xs) k).0) ys h in
    let rest = All-weaker (λ y. present y.number (x ∷ xs) ≡ false) (λ y. present y.number xs ≡ false) (λ y k. (or_parts (x.number == y.number) (present y.number xs) k).1) ys h in
    and_from _ _ (not_from_false (present x.number (xs ++ ys)) (absent-append x.number xs ys e.0 (absent-from_all x.number ys first))) (distinct-append xs ys e.1 q rest)
