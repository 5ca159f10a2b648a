use Rattle.std.proofs.Common.{◌≡◌, ◌++◌, take, string_bytes}
use Rattle.std.specs.List.{flat_map, enumerate_from}
use Rattle.script.specs.Report.{slot_entry}
use Rattle.labelplan.proofs.plan.node_of.Given as goal

abbrev pub invariant-loop-j : goal.invariant-loop-j
invariant-loop-j l = string_bytes l.line ≡ string_bytes l.initial.line ++ flat_map (λ e. slot_entry e.0 e.1) (take l.j (enumerate_from 0 l.slots))
