-- Which node an entry belongs to.
use Rattle.std.specs.Prelude.{◌≡◌, ℕ, zero, suc, ◌+◌, ◌<◌, ◌≤◌, nat_le}
use Rattle.std.proofs.Math.Path.{refl, sym, ap, subst}
use Rattle.std.proofs.Common.{◌∙◌}
use Rattle.std.proofs.Math.Logic.{⊎_elim}
use native.Mathlib.Omega.{arith}
use Rattle.std.proofs.lemmas.Bool.{cases_eq, cases_lt, cond-true, cond-false}
use Rattle.std.proofs.lemmas.Bool.Decides.{nat_tests}
use Rattle.image.specs.Layout.{Image}
use Rattle.image.specs.Nodes.{start, owner_below}

module _ (d : Image) where
  pub start-zero : start d 0 ≡ 1
  unfolding start
  start-zero = refl

  pub start-more : (i : ℕ) → start d (suc i) ≡ start d i + d.count i
  unfolding start
  start-more i = refl

  pub start-some : (i : ℕ) → 1 ≤ start d i
  unfolding start
  start-some zero = omega arith
  start-some (suc i) = omega (arith, start-some i)

  pub start-rises : (i n : ℕ) → i ≤ n → start d i ≤ start d n
  unfolding start
  start-rises i zero h = omega (arith, ap (start d) (let z : i ≡ 0 = omega arith in z))
  start-rises i (suc n) h = ⊎_elim
      (λ (e : i ≡ suc n). omega (arith, ap (start d) e))
      (λ (u : i ≡ suc n → ⊥). omega (arith, start-rises i n (omega (arith, u))))
      (cases_eq i (suc n))

  -- the node whose entries reach from its start over e is the owner of e
  pub owner-is : (n i e : ℕ) → i < n → start d i ≤ e → e < start d (suc i) → owner_below d n e ≡ i
  unfolding owner_below
  owner-is zero i e h a b = absurd (omega arith)
  owner-is (suc n) i e h a b = ⊎_elim
      (λ (q : i ≡ n). cond-true (nat_le (start d n) e) n (owner_below d n e) (let w : start d n ≤ e = subst (λ k. start d k ≤ e) q a in grind (arith, nat_tests)) ∙ sym q)
      (λ (q : i ≡ n → ⊥). cond-false (nat_le (start d n) e) n (owner_below d n e) (let w = start-rises (suc i) n (omega (arith, q)) in let v : e < start d n = omega (arith, w) in grind (arith, nat_tests)) ∙ owner-is n i e (omega (arith, q)) a b)
      (cases_eq i n)

  -- every entry from 1 on has one
  pub owner-in : (n e : ℕ) → 1 ≤ e → e < start d n → (owner_below d n e < n) × (start d (owner_below d n e) ≤ e) × (e < start d (suc (owner_below d n e)))
  unfolding owner_below start
  owner-in zero e h k = absurd (omega arith)
  owner-in (suc n) e h k = ⊎_elim
      (λ (low : e < start d n).
      let same = cond-false (nat_le (start d n) e) n (owner_below d n e) (grind (arith, nat_tests)) in
      let in-it = owner-in n e h low in
      subst (λ o. (o < suc n) × (start d o ≤ e) × (e < start d (suc o))) (sym same) (omega (arith, in-it.0), in-it.1, in-it.2))
      (λ (high : start d n ≤ e).
      let same = cond-true (nat_le (start d n) e) n (owner_below d n e) (grind (arith, nat_tests)) in
      subst (λ o. (o < suc n) × (start d o ≤ e) × (e < start d (suc o))) (sym same) (omega arith, high, k))
      (cases_lt e (start d n))
