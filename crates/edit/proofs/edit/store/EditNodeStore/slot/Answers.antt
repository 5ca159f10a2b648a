use Rattle.std.proofs.Common.{sym, ◌∙◌}
use Rattle.edit.specs.declared.edit.At.TheVariants.{Root, Added, Below}
use Rattle.edit.specs.Showing.{layer_of}
use Rattle.edit.proofs.Shows.{slot-closed, slot-layered, slot-root, slot-added, slot-through}
use Rattle.edit.proofs.edit.store.EditNodeStore.slot.Goals as goal

pub returns-then-is_closed : goal.returns-then-is_closed
returns-then-is_closed g c =
    let e = c.args.self.now in
    slot-closed (layer_of e.changes) (g.S.NodeStore.table e.below) e.at (g.S.NodeStore.opened e.below) c.args.j _ (sym c.if-is_closed.ensures) c.slot_closed.ensures

pub returns-in-Root : goal.returns-in-Root
returns-in-Root g c =
    let e = c.args.self.now in
    let l = layer_of e.changes in
    let t = g.S.NodeStore.table e.below in
    slot-layered l t e.at Root (g.S.NodeStore.opened e.below) c.args.j _ (sym c.if-is_closed.ensures) c.in-Root.is (c.root_slot.ensures ∙ slot-root l t c.args.j)

pub returns-in-Added : goal.returns-in-Added
returns-in-Added g c =
    let e = c.args.self.now in
    let l = layer_of e.changes in
    let t = g.S.NodeStore.table e.below in
    slot-layered l t e.at Added (g.S.NodeStore.opened e.below) c.args.j _ (sym c.if-is_closed.ensures) c.in-Added.is (c.slot.ensures ∙ slot-added l t c.args.j)

pub returns-in-Below : goal.returns-in-Below
returns-in-Below g c =
    let e = c.args.self.now in
    let l = layer_of e.changes in
    let t = g.S.NodeStore.table e.below in
    slot-layered l t e.at Below (g.S.NodeStore.opened e.below) c.args.j _ (sym c.if-is_closed.ensures) c.in-Below.is (c.slot_below.ensures ∙ slot-through l t (g.S.NodeStore.opened e.below) c.args.j)
