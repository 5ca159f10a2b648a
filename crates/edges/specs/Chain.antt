-- A chain of nodes, each leading to the next, and a label in the last.
use Rattle.std.specs.Prelude.{ℕ, ◌+◌, Bool, true, ◌&&◌, List, [], ◌∷◌, ◌++◌, map, replicate, Some, None, Option, nat_le}
use Rattle.std.specs.List.{range_with_len}
use Rattle.geometry.specs.declared.label.Label.{Label}
use Rattle.geometry.specs.Plane.{spot}
use Rattle.index.specs.declared.slot.Slot.{Slot}
use Rattle.index.specs.declared.slot.Slot.TheVariants.{Empty, Holds, Leads}
use Rattle.index.specs.Table.{Table}

-- a chain has from 1 to 300 nodes
abbrev pub is_size : ℕ → Bool
is_size n = nat_le 1 n && nat_le n 300

-- node i, which leads to the next
abbrev pub link : Label → ℕ → List Slot
link l i = Leads (spot l.place) (i + 1) ∷ replicate 11 Empty

-- the last node
abbrev pub leaf : Label → List Slot
leaf l = Holds l ∷ replicate 11 Empty

-- every box is the label's place
unfoldable pub chain_table : ℕ → Label → Table
chain_table last l = record {
  box = spot l.place;
  nodes = map (link l) (range_with_len 0 last) ++ leaf l ∷ [];
}

-- the open node, if there is one, is up to the last
abbrev pub is_node : ℕ → Option ℕ → Bool
is_node last None = true
is_node last (Some i) = nat_le i last
