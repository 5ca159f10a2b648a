use Rattle.std.proofs.Common.{length, w32, SFits}
use Rattle.std.proofs.lemmas.Int.{to_z-of_z}
use Rattle.neighbours.specs.Ranking.{ranking}
use Rattle.runs.specs.Runs.{state_of}
use Rattle.edit.proofs.Changed.{state}
use Rattle.edit.proofs.Rehearsed.{runs}
use Rattle.edit.proofs.rehearsing.rehearse.Goals as goal

pub returns-clause-run : goal.returns-clause-run
returns-clause-run g c =
    let a = c.args in
    let m = g.M.Measure in
    let store = g.S.NodeStore in
    let fx : SFits w32 a.x = c.ranges.x in
    let fy : SFits w32 a.y = c.ranges.y in
    let near = ranking g.M.Distance.Ranked.precedes (m.dist a.measure.now) (m.bound a.measure.now) in
    let bare = state_of store in
    let low = state store.table store.frames store.opened store.metered in
    let high = state (λ e. (low e).table) (λ e. (low e).frames) (λ e. (low e).opened) (λ e. (low e).meter) in
    runs near a.number a.x a.y a.gone a.k1 a.k2 (length a.work.now) (length a.second.now) a.answers.now c.mutual-told.new.answers c.add-added.result c.withdraw-withdrawn.result c.mutual-told.result
    (bare a.store) (low c.over-edit.result) (low c.add-added.new.self) (high c.over-upper.result) (high c.withdraw-withdrawn.new.self) (high c.mutual-told.new.store) (low c.cancel.result) (bare c.cancel-2.result)
    c.over-edit.ensures.step (simp to_z-of_z at c.add-added.ensures.step) c.over-upper.ensures.step c.withdraw-withdrawn.ensures.step (simp to_z-of_z at c.mutual-told.ensures.step) c.cancel.ensures.step c.cancel-2.ensures.step
