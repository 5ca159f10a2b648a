use Rattle.std.proofs.Common.{◌≡◌, ◌+◌, ltb, Some, ap, ◌∙◌}
use Rattle.neighbours.specs.Scene.{scene}
use Rattle.neighbours.specs.Walks.{nearer_in, nodes_before}
use Rattle.neighbours.proofs.Confirming.{tells-confirmed, tells-reach-of}
use Rattle.search.proofs.query.Query.is_confirmed.Goals as goal

pub returns : goal.returns
returns g c =
    let a = c.args in
    let m = g.M.Measure in
    let dist = m.dist a.self.now.measure.now in
    let bound = m.bound a.self.now.measure.now in
    let lt = g.M.Distance.Ranked.precedes in
    let t = g.S.NodeStore.table a.store.now in
    let end : a.candidate.distance ≡ dist a.candidate.label.place a.self.now.from = c.requires.distance ∙ g.met.M.Measure.symmetric a.self.now.measure.now a.self.now.from a.candidate.label.place in
    record {
      table = c.few_nearer.ensures.table;
      frames = c.few_nearer.ensures.frames;
      value = c.few_nearer.ensures.value
          ∙ (λ i. ltb (nearer_in (scene lt t dist bound (record { from = c.place.ensures i; own = a.self.now.own; candidate = Some (c.number.ensures i) })) (end i)) a.k)
          ∙ tells-confirmed lt dist bound t a.self.now.own a.candidate.label a.self.now.from a.k;
      metered = c.few_nearer.ensures.metered
          ∙ (λ i. g.S.NodeStore.metered a.store.now + nodes_before (scene lt t dist bound (record { from = c.place.ensures i; own = a.self.now.own; candidate = Some (c.number.ensures i) })) (end i) a.k)
          ∙ ap (λ n. g.S.NodeStore.metered a.store.now + n) (tells-reach-of lt dist bound t a.self.now.own a.candidate.label g.met.M.Distance.Ranked.ordered a.self.now.from a.k c.requires.count);
    }
