use Rattle.std.proofs.Common.{◌≡◌, ◌+◌, ◌≤◌, take, drop}
use Rattle.queue.specs.Order.{sorted}
use Rattle.queue.specs.Shape.{Heap}
use Rattle.queue.proofs.Sifting.{Rising}
use Rattle.queue.proofs.sift_up.Given as goal

abbrev pub invariant-loop-at : goal.invariant-loop-at
invariant-loop-at g l = let lt = g.T.Ranked.precedes in
    (l.«at» ≤ l.len) × (Heap lt l.initial.items l.len → Rising lt l.items (l.len + 1) l.«at»)
    × (sorted lt (take (l.len + 1) l.items) ≡ sorted lt (take (l.len + 1) l.initial.items))
    × (drop (l.len + 1) l.items ≡ drop (l.len + 1) l.initial.items)

abbrev pub decreases-loop-at : goal.decreases-loop-at
decreases-loop-at g l = l.«at»
