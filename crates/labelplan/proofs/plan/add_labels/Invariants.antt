use Rattle.std.proofs.Common.{◌≡◌, ◌++◌, map, vec_items}
use Rattle.std.specs.List.{flat_map, range_with_len}
use Rattle.index.specs.Table.{slot_at, label_in}
use Rattle.labelplan.proofs.plan.add_labels.Given as goal

abbrev pub invariant-loop-j : goal.invariant-loop-j
invariant-loop-j g l = vec_items l.labels ≡ vec_items l.initial.labels ++ flat_map label_in (map (slot_at (g.S.NodeStore.table l.store) (g.S.NodeStore.opened l.store)) (range_with_len 0 l.j))
