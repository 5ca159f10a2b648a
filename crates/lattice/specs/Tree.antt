-- The table of a lattice is lawful.
use Rattle.std.specs.Prelude.{◌≡◌, ℕ, zero, suc, ◌+◌, ◌-◌, ◌*◌, ◌<◌, true, ◌||◌, List, [], ◌++◌, map, length, get_or, ℤ, ◌≤ℤ◌, Some, None, filter, Option, nat_eq, slice_index_or}
use Rattle.std.proofs.Math.Path.{refl, sym, ap, subst}
use Rattle.std.proofs.Common.{◌∙◌, add-one}
use native.Mathlib.Omega.{arith}
use Rattle.std.specs.List.{range_with_len, flat_map, AllByRecursion}
use Rattle.std.proofs.lemmas.Bool.{leb-true, or_left, or_right}
use Rattle.std.proofs.lemmas.List.{append-nil}
use Rattle.std.proofs.lemmas.List.FromFn.{length-map-range_with_len, get_or-map-range_with_len}
use Rattle.geometry.specs.declared.label.Label.{Label}
use Rattle.geometry.specs.declared.rect.Rect.{Rect}
use Rattle.geometry.specs.Numbers.{distinct}
use Rattle.index.specs.declared.slot.Slot.{Slot}
use Rattle.index.specs.declared.slot.Slot.TheVariants.{Empty, Holds, Leads}
use Rattle.index.specs.Table.{Table, node_count, node_at, slot_at, label_in, branch_in, labels_in, branches_in, plan, branches, boxed}
use Rattle.index.specs.Laws.{Lawful, Inside, is_leaf, is_inner, lies_in, times_led_to}
use Rattle.lattice.specs.Grid.{along, grid_label, grid_row, grid_box, grid_leaf, grid_root, grid_table, is_node, Lines, Numbered}
use Rattle.lattice.specs.Counting.{all-counted, joined-counted, joined-none, one-begins}
use Rattle.lattice.specs.Slots.{first-length, first-filled, first-all, first-none, first_one}
use Rattle.lattice.specs.Ranges.{along-rises, along-starts, le_refl, box-holds, box-covers}
use Rattle.lattice.specs.Numbering.{rising-rows, rising-distinct}

module _ (rows columns step : ℕ) (x y : ℤ) (first : ℕ) (lines : Lines rows columns) where
  abbrev grid : Table
  grid = grid_table rows columns step x y first

  abbrev root : List Slot
  root = grid_root rows columns step x y

  abbrev leaf : ℕ → List Slot
  leaf i = grid_leaf columns step x y first i

  abbrev branch : ℕ → ℕ × Rect
  branch i = (i + 1, grid_row columns step x y i)

  -- the nodes: the root, and a leaf for each row
  pub count : node_count grid ≡ rows + 1
  unfolding grid_table
  count = ap suc (length-map-range_with_len leaf 0 rows) ∙ sym (add-one rows)

  pub leaf-at : (i : ℕ) → i < rows → node_at grid (i + 1) ≡ leaf i
  unfolding grid_table
  leaf-at i h = ap (node_at grid) (add-one i) ∙ get_or-map-range_with_len leaf 0 rows i i [] h (omega arith)

  -- the labels and branches of the root and of a leaf, and of all nodes
  root-labels : labels_in root ≡ []
  unfolding labels_in
  root-labels = first-none label_in rows (λ i. Leads (grid_row columns step x y i) (i + 1)) refl (λ _. refl) lines.1

  root-branches : branches_in root ≡ map branch (range_with_len 0 rows)
  unfolding branches_in
  root-branches = first_one branch_in rows (λ i. Leads (grid_row columns step x y i) (i + 1)) branch refl (λ _. refl) lines.1

  leaf-labels : (i : ℕ) → labels_in (leaf i) ≡ map (grid_label step x y first i) (range_with_len 0 columns)
  unfolding labels_in
  leaf-labels i = first_one label_in columns (λ j. Holds (grid_label step x y first i j)) (grid_label step x y first i) refl (λ _. refl) lines.3

  leaf-branches : (i : ℕ) → branches_in (leaf i) ≡ []
  unfolding branches_in
  leaf-branches i = first-none branch_in columns (λ j. Holds (grid_label step x y first i j)) refl (λ _. refl) lines.3

  all-labels : plan grid ≡ flat_map (λ i. map (grid_label step x y first i) (range_with_len 0 columns)) (range_with_len 0 rows)
  unfolding plan grid_table
  all-labels = ap (λ l. l ++ flat_map labels_in (map leaf (range_with_len 0 rows))) root-labels ∙ joined-counted labels_in leaf (λ i. map (grid_label step x y first i) (range_with_len 0 columns)) leaf-labels 0 rows

  all-branches : branches grid ≡ map branch (range_with_len 0 rows)
  unfolding branches grid_table
  all-branches = ap (λ l. branches_in root ++ l) (joined-counted branches_in leaf (λ _. []) leaf-branches 0 rows ∙ joined-none {A = ℕ × Rect} 0 rows) ∙ append-nil (branches_in root) ∙ root-branches

  -- the laws one by one
  twelve : AllByRecursion (λ slots. length slots ≡ 12) grid.nodes
  unfolding grid_table
  twelve = (first-length _ _, all-counted (λ slots. length slots ≡ 12) leaf 0 rows (λ i h. first-length _ _))

  kinds : AllByRecursion (λ slots. (is_leaf slots || is_inner slots) ≡ true) grid.nodes
  unfolding grid_table
  kinds = (
    or_right (is_leaf root) (is_inner root) (ap (λ l. nat_eq (length l) 0) root-labels),
    all-counted (λ slots. (is_leaf slots || is_inner slots) ≡ true) leaf 0 rows (λ i h. or_left (is_leaf (leaf i)) (is_inner (leaf i)) (ap (λ l. nat_eq (length l) 0) (leaf-branches i))),
  )

  down : (i : ℕ) → i < node_count grid → AllByRecursion (λ b. (i < b.0) × (b.0 < node_count grid)) (branches_in (node_at grid i))
  unfolding grid_table
  down zero h = subst (AllByRecursion (λ b. (0 < b.0) × (b.0 < node_count grid))) (sym root-branches) (all-counted (λ b. (0 < b.0) × (b.0 < node_count grid)) branch 0 rows (λ i h. (omega arith, omega (arith, count))))
  down (suc i) h =
      let node : node_at grid (suc i) ≡ leaf i = get_or-map-range_with_len leaf 0 rows i i [] (omega (arith, count)) (omega arith) in
      subst (AllByRecursion (λ b. (suc i < b.0) × (b.0 < node_count grid))) (sym (ap branches_in node ∙ leaf-branches i)) tt

  once : (k : ℕ) → 0 < k → k < node_count grid → times_led_to grid k ≡ 1
  once k p q = ap (λ bs. length (filter (λ b. nat_eq b.0 k) bs)) all-branches ∙ one-begins (grid_row columns step x y) k 0 rows p (omega (arith, count))

  -- a column is not past the last
  east : (j : ℕ) → j < columns → along x step j ≤ℤ along x step (columns - 1)
  east j h = along-rises x step j (columns - 1) (omega arith)

  root-inside : AllByRecursion (λ s. lies_in grid.box s ≡ true) root
  unfolding grid_table
  root-inside = first-all (λ s. lies_in grid.box s ≡ true) rows (λ i. Leads (grid_row columns step x y i) (i + 1)) refl (λ i h.
      box-covers x y (along x step (columns - 1)) (along y step (rows - 1)) x (along y step i) (along x step (columns - 1)) (along y step i) (le_refl x) (along-starts x step (columns - 1)) (le_refl _) (along-starts y step i) (le_refl _) (along-rises y step i (rows - 1) (omega arith)))

  leaf-inside : (i : ℕ) → AllByRecursion (λ s. lies_in (grid_row columns step x y i) s ≡ true) (leaf i)
  leaf-inside i = first-all (λ s. lies_in (grid_row columns step x y i) s ≡ true) columns (λ j. Holds (grid_label step x y first i j)) refl (λ j h.
      box-holds x (along y step i) (along x step (columns - 1)) (along y step i) (along x step j) (along y step i) (first + 12 * i + j) (along-starts x step j) (east j h) (le_refl _) (le_refl _))

  -- what a node has lies in its box
  abbrev Held : ℕ × Rect → Type 0
  Held b = AllByRecursion (λ s. lies_in b.1 s ≡ true) (node_at grid b.0)

  root-held : Held (0, grid.box)
  unfolding grid_table
  root-held = root-inside

  row-held : (i : ℕ) → i < rows → Held (branch i)
  row-held i h = subst (AllByRecursion (λ s. lies_in (grid_row columns step x y i) s ≡ true)) (sym (leaf-at i h)) (leaf-inside i)

  inside : AllByRecursion Held (boxed grid)
  inside = (root-held, subst (AllByRecursion Held) (sym all-branches) (all-counted Held branch 0 rows (λ i h. row-held i (omega arith))))

  pub lawful : Numbered rows columns first → Lawful grid
  lawful numbers = record {
    some = omega (arith, count);
    few = omega (arith, count);
    twelve = twelve;
    kinds = kinds;
    down = down;
    once = once;
    inside = inside;
    apart = ap distinct all-labels ∙ rising-distinct (first + 12 * 0) _ (rising-rows rows columns step x y first lines numbers 0 rows (omega arith));
  }

  -- an open node is one of the table
  pub node-inside : (o : Option ℕ) → is_node rows o ≡ true → Inside grid o
  node-inside None h = tt
  node-inside (Some i) h = omega (arith, count, leb-true i rows h)

  -- slot j of the root, of a leaf and of the open node
  pub root-leads : (b : Rect) (z : ℤ) (j : ℕ) → j < rows → b ≡ grid_box columns step x z z → z ≡ along y step j → Leads b (j + 1) ≡ slice_index_or root j Empty
  root-leads b z j h e p = ap (λ c. Leads c (j + 1)) (e ∙ ap (λ z. grid_box columns step x z z) p) ∙ first-filled rows (λ i. Leads (grid_row columns step x y i) (i + 1)) j lines.1 h

  pub leaf-holds : (l : Label) (i j : ℕ) → j < columns → l ≡ grid_label step x y first i j → Holds l ≡ slice_index_or (leaf i) j Empty
  leaf-holds l i j h e = ap (λ m. Holds m) e ∙ first-filled columns (λ j. Holds (grid_label step x y first i j)) j lines.3 h

  pub opened-root : (s : Slot) (o : Option ℕ) (j : ℕ) → o ≡ Some 0 → s ≡ slice_index_or root j Empty → s ≡ slot_at grid o j
  unfolding grid_table
  opened-root s o j e t = t ∙ ap (λ p. slot_at grid p j) (sym e)

  pub opened-leaf : (s : Slot) (o : Option ℕ) (i j : ℕ) → o ≡ Some (i + 1) → i < rows → s ≡ slice_index_or (leaf i) j Empty → s ≡ slot_at grid o j
  opened-leaf s o i j e h t = t ∙ ap (λ n. get_or n j Empty) (sym (leaf-at i h)) ∙ ap (λ p. slot_at grid p j) (sym e)
