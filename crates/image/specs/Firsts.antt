-- The first index that fails a test, and the first refusal of a list of checks.
use Rattle.std.specs.Prelude.{◌≡◌, ℕ, zero, suc, ◌<◌, Bool, true, cond, Some, None, Option}
use Rattle.std.proofs.Math.Path.{refl, ap}
use Rattle.std.proofs.Common.{sym, ◌∙◌, arith}
use Rattle.std.proofs.Math.Logic.{⊎_elim}
use Rattle.std.proofs.lemmas.Bool.{cases_eq, cases_Bool, cond-true, cond-false}
use Rattle.image.specs.Checks.{first_bad}

module _ (f : ℕ → Bool) where
  -- none fails below n
  pub none-bad : (n : ℕ) → ((i : ℕ) → i < n → f i ≡ true) → first_bad f n ≡ None
  unfolding first_bad
  none-bad zero h = refl
  none-bad (suc n) h = rw (none-bad n (λ i l. h i (omega arith))) (cond-true (f n) None (Some n) (h n (omega arith)))

  some-none : (o : Option ℕ) (n : ℕ) → elim o as (λ _. Option ℕ) [ Some i ↦ Some i | None ↦ cond (f n) None (Some n) ] ≡ None → (o ≡ None) × (f n ≡ true)
  some-none (Some i) n h = let z : ◌≡◌ {A = ℕ} 0 1 = cc in absurd (omega arith)
  some-none None n h = (refl, ⊎_elim (λ t. t) (λ e. let w = sym (cond-false (f n) None (Some n) e) ∙ h in let z : ◌≡◌ {A = ℕ} 0 1 = cc in absurd (omega arith)) (cases_Bool (f n)))

  pub all-good : (n : ℕ) → first_bad f n ≡ None → (i : ℕ) → i < n → f i ≡ true
  unfolding first_bad
  all-good zero h i l = absurd (omega arith)
  all-good (suc n) h i l =
      let parts = some-none (first_bad f n) n h in
      ⊎_elim (λ (e : i ≡ n). ap f e ∙ parts.1) (λ (u : i ≡ n → ⊥). all-good n parts.0 i (omega (arith, u))) (cases_eq i n)
