-- Coordinates along a line of the lattice.
use Rattle.std.specs.Prelude.{◌≡◌, ℕ, ◌-◌, ◌*◌, ◌<◌, ◌≤◌, true, ℤ, pos, ◌+ℤ◌, ◌≤ℤ◌, unsigned_abs}
use Rattle.std.proofs.Common.{ap, ◌∙◌, mul-le-mul_right, arith, to_z, of_z}
use Rattle.std.specs.Int.{int_max, w32}
use Rattle.std.proofs.lemmas.Int.{ints, clamps}
use Rattle.std.proofs.lemmas.Bool.Decides.{nat_tests}
use Rattle.std.proofs.lemmas.Bool.{and_from}
use Rattle.geometry.specs.Plane.{on_map, place_at, label_at, rect_at, span, spanning, holds, covering}
use Rattle.lattice.specs.Grid.{along, Reach}

pub le_refl : (z : ℤ) → z ≤ℤ z
le_refl z = omega (arith, ints)

-- fewer steps do not lead farther
further : (z : ℤ) (a b : ℕ) → a ≤ b → (z +ℤ pos a) ≤ℤ (z +ℤ pos b)
further z a b h = omega (arith, ints)

pub along-rises : (z : ℤ) (step i k : ℕ) → i ≤ k → along z step i ≤ℤ along z step k
along-rises z step i k h = further z (i * step) (k * step) (mul-le-mul_right step h)

pub along-starts : (z : ℤ) (step k : ℕ) → z ≤ℤ along z step k
along-starts z step k = omega (arith, ints)

between : (z u v : ℤ) → z ≤ℤ u → u ≤ℤ v → unsigned_abs z ≤ 1000000 → unsigned_abs v ≤ 1000000 → unsigned_abs u ≤ 1000000
between z u v p q h k = omega (arith, ints)

-- each place of a reach lies on the map
pub along-near : (z : ℤ) (step n k : ℕ) → Reach z step n → k < n → unsigned_abs (along z step k) ≤ 1000000
along-near z step n k r h = between z (along z step k) (along z step (n - 1)) (along-starts z step k) (along-rises z step k (n - 1) (omega arith)) r.0 r.1

-- what a call is passed, and what advancing gives
pub passed : (z : ℤ) → unsigned_abs z ≤ 1000000 → to_z w32 (of_z w32 z) ≡ z
passed z h = omega (arith, ints)

pub advanced : (z r : ℤ) (step k : ℕ) → unsigned_abs z ≤ 1000000 → unsigned_abs (along z step k) ≤ 1000000 → r ≡ along (to_z w32 (of_z w32 z)) step k → to_z w32 (of_z w32 r) ≡ along z step k
advanced z r step k h l e = ap (λ u. to_z w32 (of_z w32 u)) (e ∙ ap (λ u. along u step k) (passed z h)) ∙ passed (along z step k) l

pub spans : (low high : ℤ) → low ≤ℤ high → unsigned_abs low ≤ 1000000 → unsigned_abs high ≤ 1000000 → span low high ≡ true
spans low high h k l = grind (arith, ints, nat_tests)

-- between two sides of a box, along one axis
point-between : (low high z : ℤ) → low ≤ℤ z → z ≤ℤ high → spanning (on_map low) (int_max (on_map low) (on_map high)) (on_map z) (on_map z) ≡ true
point-between low high z p q = grind (arith, ints, clamps)

side-between : (low high a b : ℤ) → low ≤ℤ a → a ≤ℤ b → b ≤ℤ high → spanning (on_map low) (int_max (on_map low) (on_map high)) (on_map a) (int_max (on_map a) (on_map b)) ≡ true
side-between low high a b p q r = grind (arith, ints, clamps)

-- a box holds a label between its sides, and covers a box between them
pub box-holds : (w s e n x y : ℤ) (k : ℕ) → w ≤ℤ x → x ≤ℤ e → s ≤ℤ y → y ≤ℤ n → holds (rect_at w s e n) (label_at k x y).place ≡ true
unfolding rect_at label_at place_at
box-holds w s e n x y k p q t u = and_from _ _ (point-between w e x p q) (point-between s n y t u)

pub box-covers : (w s e n w' s' e' n' : ℤ) → w ≤ℤ w' → w' ≤ℤ e' → e' ≤ℤ e → s ≤ℤ s' → s' ≤ℤ n' → n' ≤ℤ n → covering (rect_at w s e n) (rect_at w' s' e' n') ≡ true
unfolding rect_at
box-covers w s e n w' s' e' n' p q r t u v = and_from _ _ (side-between w e w' e' p q r) (side-between s n s' n' t u v)

-- a label has the number that it is made with
pub number_is : (k : ℕ) (x y : ℤ) → 1 ≤ k → k ≤ 999999999 → (label_at k x y).number ≡ k
unfolding label_at
number_is k x y p q = omega arith
