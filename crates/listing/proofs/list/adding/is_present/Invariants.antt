use Rattle.std.proofs.Common.{◌≡◌, false, take}
use Rattle.geometry.specs.Numbers.{present}
use Rattle.listing.proofs.list.adding.is_present.Given as goal

abbrev pub invariant-loop-l : goal.invariant-loop-l
invariant-loop-l l = present l.number (take l.l-index l.labels) ≡ false
