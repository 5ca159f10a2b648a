use Rattle.std.proofs.Common.{◌≡◌}
use Rattle.labelplan.proofs.plan.nodes_of.Given as goal

abbrev pub invariant-loop-i : goal.invariant-loop-i
invariant-loop-i g l = (g.S.NodeStore.table l.store ≡ g.S.NodeStore.table l.fn.store) × (g.S.NodeStore.metered l.store ≡ l.i)
