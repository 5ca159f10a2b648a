use Rattle.std.proofs.Common.{refl}
use Rattle.edit.proofs.Changed.{loose}
use Rattle.edit.proofs.edit.Edit.keep.Goals as goal

pub returns-clause-step : goal.returns-clause-step
returns-clause-step g c =
    let store = g.S.NodeStore in
    let below = c.args.self.below in
    let left = loose store.table store.frames store.opened store.metered c.args.self (g.met.S.NodeStore.within below) (g.met.S.NodeStore.bounded below) in
    (refl, refl, record { opened = left.opened; meter = left.meter })
