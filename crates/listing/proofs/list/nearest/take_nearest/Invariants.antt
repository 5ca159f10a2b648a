use Rattle.std.proofs.Common.{vec_items}
use Rattle.listing.specs.Walking.{Walked}
use Rattle.listing.proofs.list.nearest.take_nearest.Given as goal

abbrev pub invariant-loop-x : goal.invariant-loop-x
invariant-loop-x g l = Walked g.D.Ranked.precedes l.k l.initial.items (vec_items l.nearest) l.items l.len

abbrev pub decreases-loop-x : goal.decreases-loop-x
decreases-loop-x g l = l.len
