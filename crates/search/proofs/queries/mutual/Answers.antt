use Rattle.std.proofs.Common.{None, ◌≡◌, [], ◌∷◌, length, IfOk, Ok, Err, sym, refl, ap, ◌∙◌, subst, arith, w32, SFits}
use Rattle.std.proofs.lemmas.Result.{err_from_is_err_and}
use Rattle.std.proofs.lemmas.Int.{to_z-of_z}
use Rattle.geometry.specs.Plane.{place_at}
use Rattle.neighbours.specs.Ranking.{ranking}
use Rattle.neighbours.specs.Neighbours.{mutual_answers}
use Rattle.neighbours.specs.Reach.{mutual_openings}
use Rattle.neighbours.specs.Scene.{work_places}
use Rattle.neighbours.specs.Queries.{refused, refused_mutual, outcome, filled}
use Rattle.neighbours.proofs.Linking.{links}
use Rattle.neighbours.proofs.Reaching.{ranks, ranks-never, sound}
use Rattle.search.specs.Answers.{all_counted, admitted}
use Rattle.search.proofs.Outcomes.{two-counts, refused-told, admitted-told, refuses, steps}
use Rattle.search.proofs.queries.mutual.Goals as goal

pub returns-in_err-admit : goal.returns-in_err-admit
returns-in_err-admit g c =
    let a = c.args in
    let m = g.M.Measure in
    let t = g.S.NodeStore.table a.store.now in
    let near = ranking g.M.Distance.Ranked.precedes (m.dist a.measure.now) (m.bound a.measure.now) in
    let q = place_at a.x a.y in
    let fx : SFits w32 a.x = c.ranges.x in
    let fy : SFits w32 a.y = c.ranges.y in
    let places = c.min-shortest.result in
    let e = c.in_err-admit.field-0.0 in
    let p = err_from_is_err_and c.from_residual.result c.from_residual.ensures.1 in
    let is : c.from_residual.result ≡ Err e = p.1 ∙ ap (λ r. Err r) p.2 in
    let told : Err e ≡ admitted (refused (all_counted (a.k1 ∷ (a.k2 ∷ []))) a.x a.y (work_places t) places) a.x a.y = simp to_z-of_z at c.in_err-admit.ensures in
    let why = (λ i. refused (sym (two-counts a.k1 a.k2) i) a.x a.y (work_places t) (sym c.min-shortest.ensures i)) ∙ refused-told _ a.x a.y e told in
    let r = refuses (refused_mutual t a.x a.y a.k1 a.k2 (length a.work.now) (length a.second.now)) e (mutual_answers near t q a.own a.k1 a.k2) a.answers.now (mutual_openings near t q a.own a.k1 a.k2) (length a.answers.now) why in
    let inside = g.met.S.NodeStore.within a.store.now in
    let bounded = g.met.S.NodeStore.bounded a.store.now in
    record {
      told = is ∙ r.0;
      answers = r.1;
      metered = rw is tt;
      links = links near t (λ p. ranks-never (ranks g.met.M.Distance.Ranked.ordered (m.dist a.measure.now) (m.bound a.measure.now) p)) (g.met.S.NodeStore.lawful a.store.now).apart;
      table = refl;
      frames = refl;
      opened = inside;
      bounded = bounded;
      work = (refl, refl);
      step = steps (is ∙ r.0) r.1 (rw is tt) refl refl (record { opened = inside; meter = bounded });
      sound = sound g.met.M.Distance.Ranked.ordered (m.dist a.measure.now) (m.bound a.measure.now) (g.met.M.Measure.below a.measure.now) (g.met.M.Measure.inner a.measure.now);
    }

pub returns : goal.returns
returns g c =
    let a = c.args in
    let m = g.M.Measure in
    let store = g.S.NodeStore in
    let t = store.table a.store.now in
    let near = ranking g.M.Distance.Ranked.precedes (m.dist a.measure.now) (m.bound a.measure.now) in
    let fx : SFits w32 a.x = c.ranges.x in
    let fy : SFits w32 a.y = c.ranges.y in
    let places = c.min-shortest.result in
    let from = c.in_ok-admit.field-0 in
    let admits : Ok from ≡ admitted (refused (all_counted (a.k1 ∷ (a.k2 ∷ []))) a.x a.y (work_places t) places) a.x a.y = simp to_z-of_z at c.in_ok-admit.ensures in
    let ok = admitted-told _ a.x a.y from admits in
    let none = (λ i. refused (sym (two-counts a.k1 a.k2) i) a.x a.y (work_places t) (sym c.min-shortest.ensures i)) ∙ ok.0 in
    let after = c.answer.new.store in
    let e = c.answer.ensures in
    let z = c.zero.ensures.table in
    let told = e.told ∙ (λ i. outcome None (mutual_answers near (z i) from a.own a.k1 a.k2) (mutual_openings near (z i) from a.own a.k1 a.k2) (length a.answers.now)) ∙ (λ i. outcome (sym none i) (mutual_answers near t (ok.1 i) a.own a.k1 a.k2) (mutual_openings near t (ok.1 i) a.own a.k1 a.k2) (length a.answers.now)) in
    let answers = e.answers ∙ (λ i. filled None (mutual_answers near (z i) from a.own a.k1 a.k2) a.answers.now) ∙ (λ i. filled (sym none i) (mutual_answers near t (ok.1 i) a.own a.k1 a.k2) a.answers.now) in
    let metered-there = subst (λ u. IfOk c.answer.result (λ t'. store.metered after ≡ mutual_openings near u from a.own a.k1 a.k2)) z e.metered in
    let metered = subst (λ q. IfOk c.answer.result (λ t'. store.metered after ≡ mutual_openings near t q a.own a.k1 a.k2)) ok.1 metered-there in
    let inside = g.met.S.NodeStore.within after in
    let bounded = g.met.S.NodeStore.bounded after in
    record {
      told = told;
      answers = answers;
      metered = metered;
      links = links near t (λ p. ranks-never (ranks g.met.M.Distance.Ranked.ordered (m.dist a.measure.now) (m.bound a.measure.now) p)) (g.met.S.NodeStore.lawful a.store.now).apart;
      table = e.table ∙ z;
      frames = e.frames ∙ c.zero.ensures.frames;
      opened = inside;
      bounded = bounded;
      work = (omega arith, omega arith);
      step = steps told answers metered (e.table ∙ z) (e.frames ∙ c.zero.ensures.frames) (record { opened = inside; meter = bounded });
      sound = sound g.met.M.Distance.Ranked.ordered (m.dist a.measure.now) (m.bound a.measure.now) (g.met.M.Measure.below a.measure.now) (g.met.M.Measure.inner a.measure.now);
    }
