-- The nodes that an image describes.
use Rattle.std.specs.Prelude.{ℕ, zero, suc, ◌+◌, Bool, cond, not, ◌&&◌, List, map, filter, ◌==◌, nat_le, nat_lt}
use Rattle.std.specs.List.{range_with_len}
use Rattle.geometry.specs.declared.label.Label.{Label}
use Rattle.geometry.specs.declared.rect.Rect.{Rect}
use Rattle.geometry.specs.Plane.{label_at, rect_at}
use Rattle.index.specs.declared.slot.Slot.{Slot}
use Rattle.index.specs.declared.slot.Slot.TheVariants.{Empty, Holds, Leads}
use Rattle.index.specs.Table.{Table}
use Rattle.image.specs.Layout.{Image}

-- a node of level 0 is a leaf
abbrev pub is_leaf : Image → ℕ → Bool
is_leaf d i = d.level i == 0

-- the entry in slot 0 of node i: entry 0 is the root's own, and the others belong to the nodes in order
unfoldable pub start : Image → ℕ → ℕ
start d zero = 1
start d (suc i) = start d i + d.count i

-- the node among the first n that entry e belongs to: the last that starts at e or before
unfoldable pub owner_below : Image → ℕ → ℕ → ℕ
owner_below d zero e = 0
owner_below d (suc n) e = cond (nat_le (start d n) e) n (owner_below d n e)

abbrev pub owner : Image → ℕ → ℕ
owner d e = owner_below d d.nodes e

-- the entries of leaves, and those of inner nodes, which are branches
abbrev pub is_leaf_entry : Image → ℕ → Bool
is_leaf_entry d e = nat_le 1 e && is_leaf d (owner d e)

abbrev pub is_branch : Image → ℕ → Bool
is_branch d e = nat_le 1 e && not (is_leaf d (owner d e))

-- what entry e says: a label, or a branch
abbrev pub box_of : Image → ℕ → Rect
box_of d e = rect_at (d.west e) (d.south e) (d.east e) (d.north e)

abbrev pub label_of : Image → ℕ → Label
label_of d e = label_at (d.target e) (d.west e) (d.south e)

abbrev pub slot_of : Image → ℕ → ℕ → Slot
slot_of d i e = cond (is_leaf d i) (Holds (label_of d e)) (Leads (box_of d e) (d.target e))

-- the slots of node i: its entries in order, and the rest empty
unfoldable pub node_of : Image → ℕ → List Slot
node_of d i = map (λ j. cond (nat_lt j (d.count i)) (slot_of d i (start d i + j)) Empty) (range_with_len 0 12)

-- the table that the image describes
unfoldable pub table_of : Image → Table
table_of d = record { box = box_of d 0; nodes = map (node_of d) (range_with_len 0 d.nodes) }

-- the entry before e, and the first such, that leads to node k, or 0
unfoldable pub leader_below : Image → ℕ → ℕ → ℕ
leader_below d zero k = 0
leader_below d (suc e) k = cond (leader_below d e k == 0) (cond (is_branch d e && d.target e == k) e 0) (leader_below d e k)

-- the entry whose box is the box of node k: entry 0 for the root, or the one that leads to k
abbrev pub leader : Image → ℕ → ℕ
leader d k = leader_below d d.entries k

-- the numbers of the labels, in order of their entries
unfoldable pub label_numbers : Image → List ℕ
label_numbers d = map d.target (filter (is_leaf_entry d) (range_with_len 0 d.entries))
