-- When a lattice is refused, and what holds when it is not.
use Rattle.std.proofs.Common.{◌≡◌, ℕ, Bool, true, false, cond, ◌&&◌, ℤ, nat_abs, Some, None, sym, refl, ◌∙◌, arith}
use Rattle.std.proofs.lemmas.Bool.{leb-true, and_parts, and_from, cond-true, cond-false}
use Rattle.std.proofs.lemmas.Bool.Decides.{nat_tests}
use Rattle.geometry.specs.declared.refusal.Refusal.{Refusal}
use Rattle.geometry.specs.declared.refusal.Reason.TheVariants.{BadNumber, BadPlace}
use Rattle.geometry.specs.Refusals.{refusal}
use Rattle.geometry.specs.Plane.{in_range}
use Rattle.lattice.specs.Grid.{is_sized, is_reach, is_numbered, refused_grid, Lines, Stepped, Reach, Numbered}

module _ (rows columns step : ℕ) (x y : ℤ) (first : ℕ) where
  abbrev placed : Bool
  placed = is_reach x step columns && is_reach y step rows

  pub refuses-places : true ≡ is_sized rows columns step → placed ≡ false → Some (refusal BadPlace 0) ≡ refused_grid rows columns step x y first
  refuses-places s p = sym (cond-true (is_sized rows columns step) _ _ (sym s) ∙ cond-false placed _ _ p)

  pub refuses-numbers : true ≡ is_sized rows columns step → true ≡ is_reach x step columns → true ≡ is_reach y step rows → false ≡ is_numbered rows columns first → Some (refusal BadNumber 0) ≡ refused_grid rows columns step x y first
  refuses-numbers s p q n = sym (cond-true (is_sized rows columns step) _ _ (sym s) ∙ cond-true placed _ _ (and_from _ _ (sym p) (sym q)) ∙ cond-false (is_numbered rows columns first) _ _ (sym n))

  pub refuses-none : true ≡ is_sized rows columns step → true ≡ is_reach x step columns → true ≡ is_reach y step rows → true ≡ is_numbered rows columns first → None ≡ refused_grid rows columns step x y first
  refuses-none s p q n = sym (cond-true (is_sized rows columns step) _ _ (sym s) ∙ cond-true placed _ _ (and_from _ _ (sym p) (sym q)) ∙ cond-true (is_numbered rows columns first) _ _ (sym n))

-- equal places are refused alike
pub none-moved : (rows columns step : ℕ) (x x' y y' : ℤ) (first : ℕ) → x ≡ x' → y ≡ y' → None ≡ refused_grid rows columns step x y first → None ≡ refused_grid rows columns step x' y' first
none-moved rows columns step x x' y y' first p q h = h ∙ (λ i. refused_grid rows columns step (p i) (q i) first)

-- what was not refused passed every test
none_passes : (s p n : Bool) (a b c : Refusal) → None ≡ cond s (cond p (cond n None (Some a)) (Some b)) (Some c) → (s ≡ true) × (p ≡ true) × (n ≡ true)
none_passes true true true a b c h = (refl, refl, refl)
none_passes true true false a b c h = absurd (cc)
none_passes true false n a b c h = absurd (cc)
none_passes false p n a b c h = absurd (cc)

reach : (z : ℤ) (step n : ℕ) → is_reach z step n ≡ true → Reach z step n
reach z step n h = let both = and_parts (in_range z) _ h in (leb-true (nat_abs z) 1000000 both.0, leb-true _ 1000000 both.1)

-- the facts of a lattice that was not refused
pub record Accepted (rows columns step : ℕ) (x y : ℤ) (first : ℕ) : Type 0 where
  pub lined : Lines rows columns
  pub stepped : Stepped step
  pub across : Reach x step columns
  pub upward : Reach y step rows
  pub numbered : Numbered rows columns first

pub accepted : (rows columns step : ℕ) (x y : ℤ) (first : ℕ) → None ≡ refused_grid rows columns step x y first → Accepted rows columns step x y first
accepted rows columns step x y first h =
    let all = none_passes (is_sized rows columns step) (is_reach x step columns && is_reach y step rows) (is_numbered rows columns first) _ _ _ h in
    let places = and_parts (is_reach x step columns) _ all.1 in
    record {
      lined = (grind (arith, nat_tests), grind (arith, nat_tests), grind (arith, nat_tests), grind (arith, nat_tests));
      stepped = (grind (arith, nat_tests), grind (arith, nat_tests));
      across = reach x step columns places.0;
      upward = reach y step rows places.1;
      numbered = (grind (arith, nat_tests), grind (arith, nat_tests));
    }
