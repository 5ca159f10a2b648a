-- What the program prints of a node.
use Rattle.std.specs.Prelude.{ℕ, not, List, ◌++◌}
use Rattle.std.specs.List.{flat_map, enumerate_from}
use Rattle.geometry.specs.declared.rect.Rect.{Rect}
use Rattle.index.specs.declared.slot.Slot.{Slot}
use Rattle.index.specs.Laws.{is_leaf}
use Rattle.script.specs.Report.{node_line, slot_entry}

-- a node's number, kind and box, and then what each of its slots has
abbrev pub node_text : ℕ → List Slot → Rect → List ℕ
node_text n slots b = node_line n (not (is_leaf slots)) b ++ flat_map (λ e. slot_entry e.0 e.1) (enumerate_from 0 slots)
