use Rattle.std.proofs.Common.{◌≡◌, ◌+◌, false, take}
use Rattle.std.specs.List.{flat_map}
use Rattle.geometry.specs.Numbers.{present}
use Rattle.index.specs.Table.{labels_in}
use Rattle.edit.proofs.seeking.has_number.Given as goal

abbrev pub invariant-loop-i : goal.invariant-loop-i
invariant-loop-i g l = (g.S.NodeStore.table l.store ≡ g.S.NodeStore.table l.fn.store) × (g.S.NodeStore.frames l.store ≡ g.S.NodeStore.frames l.fn.store) × (g.S.NodeStore.metered l.store ≡ g.S.NodeStore.metered l.fn.store + l.i) × (present l.number (flat_map labels_in (take l.i (g.S.NodeStore.table l.fn.store).nodes)) ≡ false)
