use Rattle.edit.proofs.Changed.{withdrawn}
use Rattle.edit.proofs.edit.Edit.withdraw.Goals as goal

pub returns-clause-step : goal.returns-clause-step
returns-clause-step g c =
    let store = g.S.NodeStore in
    let after = c.take_out.new.self in
    withdrawn store.table store.frames store.opened store.metered after (g.met.S.NodeStore.within after.below) (g.met.S.NodeStore.bounded after.below) c.args.self.now c.take_out.ensures.table c.take_out.ensures.frames c.args.number c.take_out.result c.take_out.ensures.told c.take_out.ensures.layer
