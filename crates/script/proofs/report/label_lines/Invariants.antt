use Rattle.std.proofs.Common.{◌≡◌, [], take, string_bytes, fold}
use Rattle.script.specs.Report.{label_line, line_after}
use Rattle.script.proofs.report.label_lines.Given as goal

abbrev pub invariant-loop-number : goal.invariant-loop-number
invariant-loop-number l = string_bytes l.lines ≡ fold (λ bs d. line_after bs (label_line d)) [] (take l.number-index l.number-items)
