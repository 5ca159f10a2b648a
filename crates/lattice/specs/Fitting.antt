-- What a lattice is made of is in range.
use Rattle.std.specs.Prelude.{◌≡◌, ℕ, ◌+◌, ◌-◌, ◌*◌, ◌≤◌, true, ◌&&◌, ℤ, Ok, Err, Result, ◌≢◌, unsigned_abs}
use Rattle.std.proofs.Common.{◌∙◌, arith}
use Rattle.std.proofs.lemmas.Bool.{le-leb, and_from, cond-true}
use Rattle.geometry.specs.Plane.{in_range, numbered, span, label_at, rect_at, label_from, rect_from}
use Rattle.lattice.specs.Grid.{along, grid_table, Lines, Reach, Numbered, Exact}
use Rattle.lattice.specs.Ranges.{le_refl, along-near, along-starts, spans}

-- of two results that are equal, one of which is accepted
pub accepted-same : {X E : Type 0} (v w : X) (r : Result X E) → Ok v ≡ r → r ≡ Ok w → v ≡ w
accepted-same v w r h e = cc

pub accepted-never : {X E : Type 0} (d : E) (w : X) (r : Result X E) → Err d ≡ r → r ≢ Ok w
accepted-never d w r h e = let z : ◌≡◌ {A = ℕ} 0 1 = cc in omega arith

-- a box and a label are made from numbers in range
pub rect-fits : (w s e n : ℤ) → span w e ≡ true → span s n ≡ true → rect_from w s e n ≡ Ok (rect_at w s e n)
rect-fits w s e n p q = cond-true (span w e && span s n) _ _ (and_from _ _ p q)

label-fits : (k : ℕ) (x y : ℤ) → 1 ≤ k → k ≤ 999999999 → unsigned_abs x ≤ 1000000 → unsigned_abs y ≤ 1000000 → label_from k x y ≡ Ok (label_at k x y)
label-fits k x y low high p q = cond-true (numbered k) _ _ (and_from _ _ (le-leb 1 k low) (le-leb k 999999999 high)) ∙ cond-true (in_range x && in_range y) _ _ (and_from _ _ (le-leb (unsigned_abs x) 1000000 p) (le-leb (unsigned_abs y) 1000000 q))

pub reach-spans : (z : ℤ) (step n : ℕ) → Reach z step n → span z (along z step (n - 1)) ≡ true
reach-spans z step n r = spans z (along z step (n - 1)) (along-starts z step (n - 1)) r.0 r.1

pub point-spans : (z : ℤ) → unsigned_abs z ≤ 1000000 → span z z ≡ true
point-spans z h = spans z z (le_refl z) h h

module _ (rows columns step : ℕ) (x y : ℤ) (first : ℕ) (lines : Lines rows columns) (across : Reach x step columns) (upward : Reach y step rows) (numbers : Numbered rows columns first) where
  pub exact : Exact rows columns step x y first
  unfolding grid_table
  exact = record {
    labels = λ i j h k. label-fits (first + 12 * i + j) (along x step j) (along y step i) (omega arith) (omega arith) (along-near x step columns j across k) (along-near y step rows i upward h);
    boxes = λ i h. rect-fits x (along y step i) (along x step (columns - 1)) (along y step i) (reach-spans x step columns across) (point-spans (along y step i) (along-near y step rows i upward h));
    whole = rect-fits x y (along x step (columns - 1)) (along y step (rows - 1)) (reach-spans x step columns across) (reach-spans y step rows upward);
  }
