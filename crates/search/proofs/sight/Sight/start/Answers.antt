use Rattle.std.proofs.Common.{◌≡◌, ◌+◌, ◌<◌, ltb, length, take, Some, None, unwrap_or, sym, ap, ◌∙◌, subst, arith}
use Rattle.std.proofs.lemmas.Bool.{cond-true, lt-ltb}
use Rattle.queue.specs.Order.{insert, sorted}
use Rattle.queue.proofs.Sifting.{heap-none}
use Rattle.neighbours.specs.Items.{ahead}
use Rattle.neighbours.specs.Scene.{scene, node_item, left, Waiting}
use Rattle.neighbours.proofs.Whole.{root-left, root-waits}
use Rattle.search.proofs.Steps.{fair-scene}
use Rattle.search.proofs.sight.Sight.start.Goals as goal

pub returns : goal.returns
returns g c =
    let a = c.args in
    let m = g.M.Measure in
    let t = g.S.NodeStore.table a.store.now in
    let s = scene g.M.Distance.Ranked.precedes t (m.dist a.self.now.measure.now) (m.bound a.self.now.measure.now) a.self.now.view in
    let fair = fair-scene g.met.M.Distance.Ranked.ordered t (m.dist a.self.now.measure.now) (m.bound a.self.now.measure.now) a.self.now.view (g.met.M.Measure.below a.self.now.measure.now) (g.met.M.Measure.inner a.self.now.measure.now) (g.met.S.NodeStore.lawful a.store.now) in
    let xs = c.push.new.items in
    let some : 0 < length a.items.now = omega (arith, c.requires) in
    let told : c.unwrap_or.result ≡ 1 = c.unwrap_or.ensures ∙ ap (λ o. unwrap_or o 0) (c.push.ensures.told ∙ cond-true (ltb 0 (length a.items.now)) (Some (0 + 1)) None (lt-ltb 0 (length a.items.now) some)) in
    let is : c.near.result ≡ s.near t.box = c.near.ensures ∙ ap s.near c.root_box.ensures in
    let pushed = c.push.ensures.queue.contents some ∙ ap (λ d. insert (ahead s.lt) (record { distance = d; subject = (node_item s.near (0, t.box)).subject }) (sorted (ahead s.lt) (take 0 a.items.now))) is in
    let shape = c.push.ensures.queue.shape some (heap-none _ a.items.now) in
    record {
      waiting = subst (Waiting s xs) (sym told) (root-waits s fair xs a.items.now (omega (arith, c.requires)) shape pushed);
      whole = ap (λ n. left s (take n xs)) told ∙ root-left s fair xs a.items.now (omega (arith, c.requires)) shape pushed;
    }
