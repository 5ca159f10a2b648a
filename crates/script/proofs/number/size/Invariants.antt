use Rattle.std.proofs.Common.{◌≡◌, ◌-◌, ◌^◌, min, take}
use Rattle.std.specs.Str.Parse.{AllDigits, digits_value}
use Rattle.script.proofs.number.size.Given as goal

abbrev pub invariant-loop-d : goal.invariant-loop-d
invariant-loop-d l = AllDigits 10 (take l.d-index l.digits) × (l.n ≡ min (digits_value 10 (take l.d-index l.digits)) (2 ^ 64 - 1))
