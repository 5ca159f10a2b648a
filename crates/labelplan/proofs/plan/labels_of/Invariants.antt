use Rattle.std.proofs.Common.{◌≡◌, take, vec_items}
use Rattle.std.specs.List.{flat_map}
use Rattle.index.specs.Table.{labels_in}
use Rattle.labelplan.proofs.plan.labels_of.Given as goal

abbrev pub invariant-loop-i : goal.invariant-loop-i
invariant-loop-i g l = (g.S.NodeStore.table l.store ≡ g.S.NodeStore.table l.fn.store) × (g.S.NodeStore.metered l.store ≡ l.i) × (vec_items l.labels ≡ flat_map labels_in (take l.i (g.S.NodeStore.table l.fn.store).nodes))
