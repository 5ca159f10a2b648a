-- The labels of a lattice by their numbers.
use Rattle.std.specs.Prelude.{◌≡◌, ℕ, zero, suc, ◌+◌, ◌*◌, ◌<◌, ◌≤◌, true, false, List, [], ◌∷◌, ◌++◌, map, ℤ, ◌==◌, refl}
use Rattle.std.proofs.Common.{arith}
use Rattle.std.specs.List.{range_with_len, flat_map}
use Rattle.std.proofs.lemmas.Bool.{and_from, or_from, ne_eqb, not_from_false}
use Rattle.geometry.specs.declared.label.Label.{Label}
use Rattle.geometry.specs.Numbers.{present, distinct}
use Rattle.lattice.specs.Grid.{grid_label, along, Lines, Numbered}
use Rattle.lattice.specs.Ranges.{number_is}

-- the numbers rise from n on
abbrev pub Rising : ℕ → List Label → Type 0
Rising n [] = Unit {0}
Rising n (l ∷ ls) = (n ≤ l.number) × Rising (suc l.number) ls

rising-from : (m n : ℕ) (ls : List Label) → m ≤ n → Rising n ls → Rising m ls
rising-from m n [] h r = tt
rising-from m n (l ∷ ls) h r = (omega (arith, r.0), r.1)

absent : (k n : ℕ) (ls : List Label) → k < n → Rising n ls → present k ls ≡ false
absent k n [] h r = refl
absent k n (l ∷ ls) h r = or_from (l.number == k) (present k ls) (ne_eqb l.number k (λ e. omega (arith, r.0))) (absent k (suc l.number) ls (omega (arith, r.0)) r.1)

pub rising-distinct : (n : ℕ) (ls : List Label) → Rising n ls → distinct ls ≡ true
rising-distinct n [] r = refl
rising-distinct n (l ∷ ls) r = and_from _ _ (not_from_false (present l.number ls) (absent l.number (suc l.number) ls (omega arith) r.1)) (rising-distinct (suc l.number) ls r.1)

module _ (rows columns step : ℕ) (x y : ℤ) (first : ℕ) (lines : Lines rows columns) (numbers : Numbered rows columns first) where
  -- the labels of row i
  abbrev pub row_labels : ℕ → List Label
  row_labels i = map (grid_label step x y first i) (range_with_len 0 columns)

  rising-row : (i a n : ℕ) (rest : List Label) → i < rows → a + n ≡ columns → Rising (first + 12 * (i + 1)) rest → Rising (first + 12 * i + a) (map (grid_label step x y first i) (range_with_len a n) ++ rest)
  rising-row i a zero rest h e r = rising-from (first + 12 * i + a) (first + 12 * (i + 1)) rest (omega arith) r
  rising-row i a (suc n) rest h e r =
      let same : (grid_label step x y first i a).number ≡ first + 12 * i + a = number_is (first + 12 * i + a) (along x step a) (along y step i) (omega arith) (omega arith) in
      (omega arith, rising-from (suc (grid_label step x y first i a).number) (first + 12 * i + (a + 1)) _ (omega arith) (rising-row i (a + 1) n rest h (omega arith) r))

  pub rising-rows : (i n : ℕ) → i + n ≡ rows → Rising (first + 12 * i) (flat_map row_labels (range_with_len i n))
  rising-rows i zero e = tt
  rising-rows i (suc n) e = rising-from (first + 12 * i) (first + 12 * i + 0) _ (omega arith) (rising-row i 0 columns (flat_map row_labels (range_with_len (i + 1) n)) (omega arith) (omega arith) (rising-rows (i + 1) n (omega arith)))
