use Rattle.std.proofs.Common.{sym}
use Rattle.edit.specs.Showing.{layer_of}
use Rattle.edit.proofs.Opens.{opens-closed, opens-below}
use Rattle.edit.proofs.edit.Edit.open_node.Goals as goal

pub open_below-requires : goal.open_below-requires
open_below-requires g c =
    let e = c.args.self.now in
    record { accepted = opens-closed (layer_of e.changes) (g.S.NodeStore.table e.below) c.args.i (g.S.NodeStore.metered e.below) e.own c.requires.accepted (sym c.if-is_closed.ensures) }

pub open_below-requires-then-i-ge2 : goal.open_below-requires-then-i-ge2
open_below-requires-then-i-ge2 g c =
    let e = c.args.self.now in
    record { accepted = opens-below (layer_of e.changes) (g.S.NodeStore.table e.below) c.args.i (g.S.NodeStore.metered e.below) e.own c.requires.accepted (sym c.if-is_closed.ensures) c.if-i-ge2.true }
