use Rattle.std.proofs.Common.{◌≡◌, ◌++◌, take, string_bytes}
use Rattle.std.specs.List.{flat_map}
use Rattle.script.specs.Report.{entry_of}
use Rattle.script.proofs.report.row.Given as goal

abbrev pub invariant-loop-f : goal.invariant-loop-f
invariant-loop-f g l = string_bytes l.row ≡ l.name ++ flat_map (entry_of g.D.Shown.shown) (take l.f-index l.found)
