use Rattle.queue.proofs.Building.{Built}
use Rattle.queue.proofs.heapify.Given as goal

abbrev pub invariant-loop-len : goal.invariant-loop-len
invariant-loop-len g l = Built g.T.Ranked.precedes l.initial.items l.items l.len
