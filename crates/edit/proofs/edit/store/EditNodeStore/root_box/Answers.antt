use Rattle.std.proofs.Common.{sym, ap, ◌∙◌}
use Rattle.geometry.specs.Plane.{around}
use Rattle.runs.specs.Layers.{added_box}
use Rattle.edit.specs.Showing.{layer_of}
use Rattle.edit.proofs.Shows.{box-closed, box-layered}
use Rattle.edit.proofs.edit.store.EditNodeStore.root_box.Goals as goal

pub returns-then-is_closed : goal.returns-then-is_closed
returns-then-is_closed g c = c.root_box-below.ensures ∙ box-closed (layer_of c.args.self.now.changes) (g.S.NodeStore.table c.args.self.now.below) (sym c.if-is_closed.ensures)

pub returns-else-is_closed : goal.returns-else-is_closed
returns-else-is_closed g c =
    let l = layer_of c.args.self.now.changes in
    let below = c.root_box-below.ensures in
    c.around-else-is_closed.ensures.value
    ∙ ap (λ b. around c.root_box-below.result b) c.around.ensures
    ∙ ap (λ b. around b (added_box l.added b)) below
    ∙ box-layered l (g.S.NodeStore.table c.args.self.now.below) (sym c.if-is_closed.ensures)
