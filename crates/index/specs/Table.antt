-- The table of a store: its root box and its nodes.
use Rattle.std.specs.Prelude.{ℕ, List, [], ◌∷◌, length, Some, None, Option, slice_index_or}
use Rattle.std.specs.List.{flat_map}
use Rattle.geometry.specs.declared.label.Label.{Label}
use Rattle.geometry.specs.declared.rect.Rect.{Rect}
use Rattle.index.specs.declared.slot.Slot.{Slot}
use Rattle.index.specs.declared.slot.Slot.TheVariants.{Empty, Holds, Leads}

-- the root box, and the nodes from the root, node 0, on; a node is its twelve slots
pub record Table : Type 0 where
  pub box : Rect
  pub nodes : List (List Slot)

abbrev pub node_count : Table → ℕ
node_count t = length t.nodes

-- the slots of node i
abbrev pub node_at : Table → ℕ → List Slot
node_at t i = slice_index_or t.nodes i []

-- slot j of the open node; empty past the twelfth, and where no node is open
abbrev pub slot_at : Table → Option ℕ → ℕ → Slot
slot_at t None j = Empty
slot_at t (Some i) j = slice_index_or (node_at t i) j Empty

-- the label of a slot, if it has one
abbrev pub label_in : Slot → List Label
label_in Empty = []
label_in (Holds l) = l ∷ []
label_in (Leads b k) = []

-- the branch of a slot, if it has one: the node it leads to, and its box
abbrev pub branch_in : Slot → List (ℕ × Rect)
branch_in Empty = []
branch_in (Holds l) = []
branch_in (Leads b k) = (k, b) ∷ []

-- the labels and the branches of a node
unfoldable pub labels_in : List Slot → List Label
labels_in slots = flat_map label_in slots

unfoldable pub branches_in : List Slot → List (ℕ × Rect)
branches_in slots = flat_map branch_in slots

-- the plan: all labels of the table
unfoldable pub plan : Table → List Label
plan t = flat_map labels_in t.nodes

-- all branches of the table
unfoldable pub branches : Table → List (ℕ × Rect)
branches t = flat_map branches_in t.nodes

-- the nodes with their boxes: the root with the root box, and what each branch leads to with the branch's box
abbrev pub boxed : Table → List (ℕ × Rect)
boxed t = (0, t.box) ∷ branches t
