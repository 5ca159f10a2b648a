-- A lattice by its numbers: labels where rows and columns cross, one leaf for each row.
use Rattle.std.specs.Prelude.{◌≡◌, ℕ, ◌+◌, ◌-◌, ◌*◌, ◌<◌, ◌≤◌, Bool, true, cond, ◌&&◌, List, ◌∷◌, map, ℤ, pos, ◌+ℤ◌, Some, None, Ok, Option, nat_le, nat_lt, unsigned_abs}
use Rattle.std.specs.List.{range_with_len}
use Rattle.geometry.specs.declared.label.Label.{Label}
use Rattle.geometry.specs.declared.rect.Rect.{Rect}
use Rattle.geometry.specs.declared.refusal.Refusal.{Refusal}
use Rattle.geometry.specs.declared.refusal.Reason.TheVariants.{BadSize, BadNumber, BadPlace}
use Rattle.geometry.specs.Refusals.{refusal}
use Rattle.geometry.specs.Plane.{in_range, numbered, label_at, rect_at, label_from, rect_from}
use Rattle.index.specs.declared.slot.Slot.{Slot}
use Rattle.index.specs.declared.slot.Slot.TheVariants.{Empty, Holds, Leads}
use Rattle.index.specs.Table.{Table}

-- the coordinate k steps on from z
abbrev pub along : ℤ → ℕ → ℕ → ℤ
along z step k = z +ℤ pos (k * step)

-- the label in row i and column j
abbrev pub grid_label : (step : ℕ) (x y : ℤ) (first i j : ℕ) → Label
grid_label step x y first i j = label_at (first + 12 * i + j) (along x step j) (along y step i)

-- the box around all columns from south to north
abbrev pub grid_box : (columns step : ℕ) (x south north : ℤ) → Rect
grid_box columns step x south north = rect_at x south (along x step (columns - 1)) north

-- the box of row i
abbrev pub grid_row : (columns step : ℕ) (x y : ℤ) (i : ℕ) → Rect
grid_row columns step x y i = grid_box columns step x (along y step i) (along y step i)

-- twelve slots: slot j is f j for the first n, and the others are empty
unfoldable pub first_slots : ℕ → (ℕ → Slot) → List Slot
first_slots n f = map (λ j. cond (nat_lt j n) (f j) Empty) (range_with_len 0 12)

-- the leaf of row i: the labels of its columns
abbrev pub grid_leaf : (columns step : ℕ) (x y : ℤ) (first i : ℕ) → List Slot
grid_leaf columns step x y first i = first_slots columns (λ j. Holds (grid_label step x y first i j))

-- the root: slot i leads to the leaf of row i, which is node i + 1
abbrev pub grid_root : (rows columns step : ℕ) (x y : ℤ) → List Slot
grid_root rows columns step x y = first_slots rows (λ i. Leads (grid_row columns step x y i) (i + 1))

-- the root box, the root and the leaves
unfoldable pub grid_table : (rows columns step : ℕ) (x y : ℤ) (first : ℕ) → Table
grid_table rows columns step x y first = record {
  box = grid_box columns step x y (along y step (rows - 1));
  nodes = grid_root rows columns step x y ∷ map (grid_leaf columns step x y first) (range_with_len 0 rows);
}

-- n is from 1 to most
abbrev pub is_up_to : ℕ → ℕ → Bool
is_up_to most n = nat_le 1 n && nat_le n most

-- the sizes are in range: at most twelve rows and columns, and a step of at most 100,000
abbrev pub is_sized : (rows columns step : ℕ) → Bool
is_sized rows columns step = is_up_to 12 rows && is_up_to 12 columns && is_up_to 100000 step

-- the first and the last of n places from z on lie on the map
abbrev pub is_reach : ℤ → ℕ → ℕ → Bool
is_reach z step n = in_range z && in_range (along z step (n - 1))

-- the number of the last label
abbrev pub last_number : (rows columns first : ℕ) → ℕ
last_number rows columns first = first + 12 * (rows - 1) + (columns - 1)

-- the first and the last number are label numbers
abbrev pub is_numbered : (rows columns first : ℕ) → Bool
is_numbered rows columns first = numbered first && numbered (last_number rows columns first)

-- the refusal of a lattice, if it is refused: of the sizes first, then of the places, then of the numbers
abbrev pub refused_grid : (rows columns step : ℕ) (x y : ℤ) (first : ℕ) → Option Refusal
refused_grid rows columns step x y first = cond (is_sized rows columns step) (cond (is_reach x step columns && is_reach y step rows) (cond (is_numbered rows columns first) None (Some (refusal BadNumber 0))) (Some (refusal BadPlace 0))) (Some (refusal BadSize 0))

-- the ranges as facts: of rows and columns, of the step, of the places from z on, and of the numbers
abbrev pub Lines : (rows columns : ℕ) → Type 0
Lines rows columns = (1 ≤ rows) × (rows ≤ 12) × (1 ≤ columns) × (columns ≤ 12)

abbrev pub Stepped : ℕ → Type 0
Stepped step = (1 ≤ step) × (step ≤ 100000)

abbrev pub Reach : ℤ → ℕ → ℕ → Type 0
Reach z step n = (unsigned_abs z ≤ 1000000) × (unsigned_abs (along z step (n - 1)) ≤ 1000000)

abbrev pub Numbered : (rows columns first : ℕ) → Type 0
Numbered rows columns first = (1 ≤ first) × (last_number rows columns first ≤ 999999999)

-- the open node, if there is one, is the root or the leaf of a row
abbrev pub is_node : ℕ → Option ℕ → Bool
is_node rows None = true
is_node rows (Some i) = nat_le i rows

-- every label and every box is in range, so that each has the numbers it is made from
pub record Exact (rows columns step : ℕ) (x y : ℤ) (first : ℕ) : Type 0 where
  pub labels : (i j : ℕ) → i < rows → j < columns → label_from (first + 12 * i + j) (along x step j) (along y step i) ≡ Ok (grid_label step x y first i j)
  pub boxes : (i : ℕ) → i < rows → rect_from x (along y step i) (along x step (columns - 1)) (along y step i) ≡ Ok (grid_row columns step x y i)
  pub whole : rect_from x y (along x step (columns - 1)) (along y step (rows - 1)) ≡ Ok (grid_table rows columns step x y first).box
