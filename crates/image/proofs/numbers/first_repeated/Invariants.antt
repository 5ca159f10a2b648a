use Rattle.std.proofs.Common.{ltb, take}
use Rattle.queue.specs.Order.{sorted}
use Rattle.image.specs.Checks.{repeated_from}
use Rattle.image.proofs.Queueing.{Repeating}
use Rattle.image.proofs.numbers.first_repeated.Given as goal

abbrev pub invariant-loop-x : goal.invariant-loop-x
invariant-loop-x l = Repeating l.items l.last l.left (repeated_from l.initial.last (sorted ltb (take l.initial.left l.initial.items)))

abbrev pub decreases-loop-x : goal.decreases-loop-x
decreases-loop-x l = l.left
