-- The open node of an image, and its slots.
use Rattle.std.specs.Prelude.{ℕ, Bool, true, ◌&&◌, List, Some, None, Ok, Err, Option, Result, ◌==◌, nat_lt, slice_index}
use Rattle.geometry.specs.declared.label.Label.{Label}
use Rattle.geometry.specs.declared.rect.Rect.{Rect}
use Rattle.geometry.specs.declared.refusal.Refusal.{Refusal}
use Rattle.index.specs.declared.slot.Slot.{Slot}
use Rattle.index.specs.declared.slot.Slot.TheVariants.{Empty, Holds, Leads}
use Rattle.image.specs.Layout.{Image}
use Rattle.image.specs.Nodes.{start}

-- no node is open, or one of the image's
abbrev pub has_open : Image → Option ℕ → Bool
has_open d None = true
has_open d (Some i) = nat_lt i d.nodes

-- no node is open, or one of the image's, whose slot 0 is entry e
abbrev pub opens_at : Image → Option ℕ → ℕ → Bool
opens_at d None e = true
opens_at d (Some i) e = nat_lt i d.nodes && e == start d i

-- the entry in slot 0 of the open node, as it is noted in the list of all nodes' starts
abbrev pub noted : List ℕ → Option ℕ → ℕ
noted starts None = 0
noted starts (Some i) = slice_index starts i

-- the slot of a label or a branch that was made, or an empty one
abbrev pub label_slot : Result Label Refusal → Slot
label_slot (Ok l) = Holds l
label_slot (Err _) = Empty

abbrev pub branch_slot : ℕ → Result Rect Refusal → Slot
branch_slot k (Ok b) = Leads b k
branch_slot k (Err _) = Empty
