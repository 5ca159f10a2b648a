use Rattle.std.proofs.Common.{◌≡◌, take, fold, string_bytes}
use Rattle.script.specs.Report.{line_after, link_line}
use Rattle.labelplan.proofs.query.push_links.Given as goal

abbrev pub invariant-loop-p : goal.invariant-loop-p
invariant-loop-p l = string_bytes l.lines ≡ fold (λ bs p. line_after bs (link_line p l.fn.label.number)) (string_bytes l.initial.lines) (take l.p-index l.linked)
