use Rattle.std.proofs.Common.{◌≡◌, ◌++◌, take, string_bytes, codes}
use Rattle.std.specs.List.{flat_map}
use Rattle.script.specs.Report.{behind_blank}
use Rattle.script.proofs.report.answers_line.Given as goal

abbrev pub invariant-loop-n : goal.invariant-loop-n
invariant-loop-n l = string_bytes l.line ≡ codes "answers" ++ flat_map behind_blank (take l.n-index l.numbers)
