-- What a layer of changes shows over a table.
use Rattle.std.specs.Prelude.{ℕ, ◌+◌, ◌-◌, Bool, cond, ◌||◌, List, [], ◌∷◌, ◌++◌, map, length, replicate, nat_eq, nat_lt}
use Rattle.std.specs.List.{list_any}
use Rattle.geometry.specs.declared.label.Label.{Label}
use Rattle.geometry.specs.declared.rect.Rect.{Rect}
use Rattle.geometry.specs.Plane.{around, spot}
use Rattle.geometry.specs.Numbers.{present}
use Rattle.index.specs.declared.slot.Slot.{Slot}
use Rattle.index.specs.declared.slot.Slot.TheVariants.{Empty, Holds, Leads}
use Rattle.index.specs.Table.{Table, node_count}
use Rattle.index.specs.Frames.{Layer, Frame}

-- a layer without changes
abbrev pub bare : Layer
bare = record { added = []; withdrawn = [] }

abbrev pub frame : Layer → Table → Frame
frame l t = record { layer = l; under = t }

-- the number is withdrawn by the layer
abbrev pub withdrawn : ℕ → Layer → Bool
withdrawn n l = list_any (nat_eq n) l.withdrawn

-- the layer hides the label of that number below: it is withdrawn, or stands among the added
abbrev pub hides : Layer → ℕ → Bool
hides l n = withdrawn n l || present n l.added

-- the smallest box around a box and labels
unfoldable pub around_labels : Rect → List Label → Rect
around_labels b [] = b
around_labels b (l ∷ ls) = around_labels (around b (spot l.place)) ls

-- the box of the added labels: the smallest around them, or the root box below if there are none
abbrev pub added_box : List Label → Rect → Rect
added_box [] below = below
added_box (l ∷ ls) below = around_labels (spot l.place) ls

-- what a slot below shows through the layer: a label that is hidden as nothing, and a branch to node k as one to k + 2
abbrev pub through : Layer → Slot → Slot
through l Empty = Empty
through l (Holds p) = cond (hides l p.number) Empty (Holds p)
through l (Leads b k) = Leads b (k + 2)

-- the slots of the new root: slot 0 leads to the root below, slot 1 to the added labels
abbrev pub root_slots : Rect → Rect → List Slot
root_slots below added = Leads below 2 ∷ Leads added 1 ∷ replicate 10 Empty

-- the slots of the leaf of added labels, in order of adding
abbrev pub added_slots : List Label → List Slot
added_slots ls = map (λ l. Holds l) ls ++ replicate (12 - length ls) Empty

-- a layer over a table: a new root, the leaf of added labels, and the nodes below as they show through
unfoldable pub layered : Layer → Table → Table
layered l t = record {
  box = around t.box (added_box l.added t.box);
  nodes = root_slots t.box (added_box l.added t.box) ∷ added_slots l.added ∷ map (map (through l)) t.nodes;
}

-- there is no room for a layer: over more than 298 nodes an edit is closed
abbrev pub closed : Table → Bool
closed t = nat_lt 298 (node_count t)

-- what a layer shows over a table; where it is closed, the table as it is
unfoldable pub shown : Layer → Table → Table
shown l t = cond (closed t) t (layered l t)
