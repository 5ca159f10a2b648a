use Rattle.std.proofs.Common.{sym, ap, ◌∙◌, arith}
use Rattle.index.specs.Table.{node_count}
use Rattle.runs.proofs.Layering.{shown-closed, shown-layered, count-layered}
use Rattle.edit.specs.Showing.{layer_of}
use Rattle.edit.proofs.edit.store.EditNodeStore.node_count.Goals as goal

pub returns-then-is_closed : goal.returns-then-is_closed
returns-then-is_closed g c = c.node_count.ensures ∙ ap node_count (sym (shown-closed (layer_of c.args.self.now.changes) (g.S.NodeStore.table c.args.self.now.below) (sym c.if-is_closed.ensures)))

pub returns-else-is_closed : goal.returns-else-is_closed
returns-else-is_closed g c =
    let l = layer_of c.args.self.now.changes in
    let t = g.S.NodeStore.table c.args.self.now.below in
    omega (arith, c.node_count-else-is_closed.ensures, ap node_count (shown-layered l t (sym c.if-is_closed.ensures)), count-layered l t)
