use Rattle.std.proofs.Common.{◌≡◌, length, take, drop}
use Rattle.std.specs.Slice.Iter.{iter_rest}
use Rattle.script.specs.Commands.{Each, numbers_of}
use Rattle.script.proofs.command.wholes.Given as goal

abbrev pub invariant-loop-number : goal.invariant-loop-number
invariant-loop-number g l = Each (take l.number-index l.words) × (take l.number-index l.number-items ≡ numbers_of (take l.number-index l.words)) × (length l.number-items ≡ length l.words) × (iter_rest l.rest ≡ drop l.number-index l.words)
