use Rattle.std.proofs.Common.{◌≡◌, w32, SFits}
use Rattle.std.proofs.lemmas.Int.{to_z-of_z}
use Rattle.runs.specs.Changes.{add_result, add_layer}
use Rattle.edit.specs.Showing.{layer_of}
use Rattle.edit.proofs.Changed.{added}
use Rattle.edit.proofs.edit.Edit.add.Goals as goal

pub returns-clause-step : goal.returns-clause-step
returns-clause-step g c =
    let a = c.args in
    let store = g.S.NodeStore in
    let was = a.self.now in
    let after = c.put.new.self in
    let fx : SFits w32 a.x = c.ranges.x in
    let fy : SFits w32 a.y = c.ranges.y in
    let told : c.put.result ≡ add_result (store.table was.below) (layer_of was.changes) a.number a.x a.y = simp to_z-of_z at c.put.ensures.told in
    let layer : layer_of after.changes ≡ add_layer (layer_of was.changes) a.number a.x a.y c.put.result = simp to_z-of_z at c.put.ensures.layer in
    added store.table store.frames store.opened store.metered after (g.met.S.NodeStore.within after.below) (g.met.S.NodeStore.bounded after.below) was c.put.ensures.table c.put.ensures.frames a.number a.x a.y c.put.result told layer
