-- Whether a number is present, label by label.
use Rattle.std.proofs.Common.{◌≡◌, ℕ, true, false, not, ◌&&◌, ◌||◌, eqb, List, [], ◌∷◌, ◌++◌, refl, ap, ◌∙◌, arith}
use Rattle.std.proofs.Math.Bool.{or-false}
use Rattle.std.proofs.lemmas.Bool.{and_parts, or_parts}
use Rattle.std.proofs.lemmas.Bool.Decides.{nat_tests}
use Rattle.std.proofs.lemmas.List.Recursion.{or_push}
use Rattle.geometry.specs.declared.label.Label.{Label}
use Rattle.geometry.specs.Numbers.{present, distinct}

present-push : (n : ℕ) (ls : List Label) (l : Label) → present n (ls ++ l ∷ []) ≡ (present n ls || eqb l.number n)
present-push n = or_push (present n) (λ l. eqb l.number n) refl (λ l ls. refl)

pub distinct_push : (ls : List Label) (l : Label) → present l.number ls ≡ false → distinct ls ≡ true → distinct (ls ++ l ∷ []) ≡ true
distinct_push [] l h d = refl
distinct_push (k ∷ ls) l h d =
    let here = or_parts (eqb k.number l.number) (present l.number ls) h in
    let both = and_parts (not (present k.number ls)) (distinct ls) d in
    let other : eqb l.number k.number ≡ false = grind (arith, nat_tests) in
    let still : not (present k.number (ls ++ l ∷ [])) ≡ true = ap not (present-push k.number ls l ∙ ap (λ b. present k.number ls || b) other ∙ or-false (present k.number ls)) ∙ both.0 in
    ap (λ b. b && distinct (ls ++ l ∷ [])) still ∙ distinct_push ls l here.1 both.1
