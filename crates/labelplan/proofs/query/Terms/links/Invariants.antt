use Rattle.std.proofs.Common.{◌≡◌}
use Rattle.labelplan.proofs.query.Terms.links.Given as goal

abbrev pub invariant-loop-label : goal.invariant-loop-label
invariant-loop-label g l =
    (goal.iterator-loop-label g).can_next l.label-iterator ×
    (goal.iterator-loop-label g).is_finite l.label-iterator ×
    (g.S.NodeStore.table l.store ≡ g.S.NodeStore.table l.fn.store)
