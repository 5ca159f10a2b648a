use Rattle.std.proofs.Common.{sym, arith}
use Rattle.edit.proofs.Below.{leads-low}
use Rattle.edit.proofs.edit.Edit.slot_below.Goals as goal

pub overflow_add-result : goal.overflow_add-result
overflow_add-result g c =
    let below = c.args.self.now.below in
    let store = g.S.NodeStore in
    let low = leads-low (store.table below) (store.opened below) c.args.j c.in-Leads.node c.in-Leads.around (g.met.S.NodeStore.lawful below) (g.met.S.NodeStore.within below) (sym c.in-Leads.ensures) in
    omega (arith, low)
