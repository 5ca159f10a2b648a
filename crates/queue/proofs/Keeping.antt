-- What a test keeps of a list.
use Rattle.std.proofs.Common.{◌≡◌, ◌≤◌, Bool, true, false, List, [], ◌∷◌, length, filter, refl, ap, ◌∙◌, ⊎_elim, arith}
use Rattle.std.specs.List.{AllByRecursion}
use Rattle.std.proofs.lemmas.Bool.{cases_Bool, cond-true, cond-false}

module _ {X : Type 0} (p : X → Bool) where
  pub keeps : (x : X) (ys : List X) → p x ≡ true → filter p (x ∷ ys) ≡ x ∷ filter p ys
  keeps x ys t = cond-true (p x) _ _ t

  pub leaves : (x : X) (ys : List X) → p x ≡ false → filter p (x ∷ ys) ≡ filter p ys
  leaves x ys f = cond-false (p x) _ _ f

  pub keeps-none : (ys : List X) → AllByRecursion (λ y. p y ≡ false) ys → filter p ys ≡ []
  keeps-none [] h = refl
  keeps-none (y ∷ ys) h = leaves y ys h.0 ∙ keeps-none ys h.1

-- a test that passes more keeps more
pub keeps-more : {X : Type 0} (p q : X → Bool) → ((x : X) → p x ≡ true → q x ≡ true) → (xs : List X) → length (filter p xs) ≤ length (filter q xs)
keeps-more p q h [] = omega arith
keeps-more p q h (x ∷ xs) = ⊎_elim
    (λ (t : p x ≡ true). omega (arith, keeps-more p q h xs, ap length (keeps p x xs t), ap length (keeps q x xs (h x t))))
    (λ (f : p x ≡ false). ⊎_elim
    (λ (t : q x ≡ true). omega (arith, keeps-more p q h xs, ap length (leaves p x xs f), ap length (keeps q x xs t)))
    (λ (g : q x ≡ false). omega (arith, keeps-more p q h xs, ap length (leaves p x xs f), ap length (leaves q x xs g)))
    (cases_Bool (q x)))
    (cases_Bool (p x))
