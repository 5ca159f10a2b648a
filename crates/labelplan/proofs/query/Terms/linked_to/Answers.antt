use Rattle.std.proofs.Common.{◌≡◌, ◌∙◌}
use Rattle.neighbours.specs.Ranking.{ranking}
use Rattle.labelplan.proofs.Answering.{number-found}
use Rattle.labelplan.proofs.query.Terms.linked_to.Goals as goal

pub returns-clause-ends : goal.returns-clause-ends
returns-clause-ends g c =
    let table : g.S.NodeStore.table c.labels_of.new.store ≡ g.S.NodeStore.table c.args.store.now = c.labels_of.ensures.table in
    number-found (ranking g.M.Distance.Ranked.precedes (g.M.Measure.dist c.args.self.now.measure.now) (g.M.Measure.bound c.args.self.now.measure.now)) (g.S.NodeStore.table c.args.store.now) c.args.self.now.lengths c.args.k1 c.args.k2 c.args.number c.as_slice.result.now c.labelled.result c.in-Some.label _ c.labelled.ensures (c.as_slice.ensures.value ∙ c.in_ok-labels.ensures.labels) c.in-Some.is
    (rw table at c.linked_with.ensures.ends)
