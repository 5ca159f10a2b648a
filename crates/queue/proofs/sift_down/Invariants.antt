use Rattle.std.proofs.Common.{◌≡◌, ◌-◌, take, drop}
use Rattle.queue.specs.Order.{sorted}
use Rattle.queue.specs.Shape.{Loose}
use Rattle.queue.proofs.Sifting.{Sinking}
use Rattle.queue.proofs.sift_down.Given as goal

abbrev pub invariant-loop-at : goal.invariant-loop-at
invariant-loop-at g l = let lt = g.T.Ranked.precedes in
    (Loose lt l.initial.items l.len → Sinking lt l.items l.len l.«at»)
    × (sorted lt (take l.len l.items) ≡ sorted lt (take l.len l.initial.items))
    × (drop l.len l.items ≡ drop l.len l.initial.items)

abbrev pub decreases-loop-at : goal.decreases-loop-at
decreases-loop-at g l = l.len - l.«at»
