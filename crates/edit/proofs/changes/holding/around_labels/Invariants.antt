use Rattle.std.proofs.Common.{◌≡◌, drop}
use Rattle.runs.specs.Layers.{around_labels}
use Rattle.edit.proofs.changes.holding.around_labels.Given as goal

abbrev pub invariant-loop-label : goal.invariant-loop-label
invariant-loop-label l = around_labels l.around (drop l.label-index l.labels) ≡ around_labels l.fn.start l.labels
