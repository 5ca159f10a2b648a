-- How the items of a node enter the queue.
use Rattle.std.specs.Prelude.{◌≡◌, ℕ, ◌+◌, Bool, List, [], ◌++◌, length, take, Some, None, Option}
use Rattle.queue.specs.Order.{sorted}
use Rattle.queue.specs.Shape.{Heap}
use Rattle.index.specs.declared.slot.Slot.{Slot}
use Rattle.index.specs.Table.{Table, node_at}

-- the slots of the open node
abbrev pub open_slots : Table → Option ℕ → List Slot
open_slots t None = []
open_slots t (Some n) = node_at t n

-- the new items are put into the queue: it is as much longer, a heap again, and holds both
pub record Entered {X : Type 0} (lt : X → X → Bool) (before after : List X) (len r : ℕ) (new : List X) : Type 0 where
  pub many : r ≡ len + length new
  pub shape : Heap lt after r
  pub contents : sorted lt (take r after) ≡ sorted lt (take len before ++ new)
