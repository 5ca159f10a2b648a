use Rattle.std.proofs.Common.{length, take, ap, ◌∙◌, arith, w32, SFits}
use Rattle.std.proofs.lemmas.Int.{to_z-of_z}
use Rattle.neighbours.specs.Queries.{refused_mutual}
use Rattle.labelplan.proofs.Answering.{ended, written-back}
use Rattle.labelplan.proofs.query.Terms.mutual_to.Goals as goal

pub returns-clause-ends : goal.returns-clause-ends
returns-clause-ends g c =
    let fx : SFits w32 c.args.x = c.ranges.x in
    let fy : SFits w32 c.args.y = c.ranges.y in
    let t = c.in_ok-told.told in
    let list = c.in_ok-answers.answers in
    let work = ap length c.as_mut_slice.ensures.value ∙ c.in_ok-work.ensures in
    let second = ap length c.as_mut_slice-2.ensures.value ∙ c.in_ok-second.ensures in
    let room = ap length c.as_mut_slice-3.ensures.value ∙ c.in_ok-answers.ensures in
    let items = c.take_front.ensures.numbers ∙ ap (take t.count) (written-back c.mutual.new.answers list.items list.len (omega arith)) in
    rw c.take_front.ensures.opened (ended (λ v w. refused_mutual (g.S.NodeStore.table c.args.store.now) c.args.x c.args.y c.args.k1 c.args.k2 v w) _ c.as_mut_slice-3.result.now c.mutual.new.answers _ _ _ _ _ _ t
    (simp to_z-of_z at c.in_ok-told.ensures.told) (simp to_z-of_z at c.in_ok-told.ensures.answers) items work second room)
