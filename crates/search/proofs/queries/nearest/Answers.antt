use Rattle.std.proofs.Common.{rules, ◌≡◌, [], ◌∷◌, length, Err, sym, refl, ap, ◌∙◌, w32, SFits}
use Rattle.std.proofs.lemmas.Result.{err_from_is_err_and}
use Rattle.std.proofs.lemmas.Int.{to_z-of_z}
use Rattle.geometry.specs.Plane.{place_at}
use Rattle.neighbours.specs.Ranking.{ranking}
use Rattle.neighbours.specs.Neighbours.{nearest_answers}
use Rattle.neighbours.specs.Reach.{nearest_openings}
use Rattle.neighbours.specs.Scene.{work_places}
use Rattle.neighbours.specs.Queries.{refused, refused_nearest}
use Rattle.neighbours.proofs.Reaching.{sound}
use Rattle.search.specs.Answers.{all_counted, admitted}
use Rattle.search.proofs.Outcomes.{one-count, refused-told, refuses, steps}
use Rattle.search.proofs.queries.nearest.Goals as goal

pub returns-in_err-admit : goal.returns-in_err-admit
returns-in_err-admit g c =
    let a = c.args in
    let m = g.M.Measure in
    let t = g.S.NodeStore.table a.store.now in
    let near = ranking g.M.Distance.Ranked.precedes (m.dist a.measure.now) (m.bound a.measure.now) in
    let q = place_at a.x a.y in
    let fx : SFits w32 a.x = c.ranges.x in
    let fy : SFits w32 a.y = c.ranges.y in
    let places = length a.work.now in
    let e = c.in_err-admit.field-0.0 in
    let p = err_from_is_err_and c.from_residual.result c.from_residual.ensures.1 in
    let is : c.from_residual.result ≡ Err e = p.1 ∙ ap (λ r. Err r) p.2 in
    let told : Err e ≡ admitted (refused (all_counted (a.k ∷ [])) a.x a.y (work_places t) places) a.x a.y = simp to_z-of_z at c.in_err-admit.ensures in
    let why = (λ i. refused (sym (one-count a.k) i) a.x a.y (work_places t) places) ∙ refused-told _ a.x a.y e told in
    let r = refuses (refused_nearest t a.x a.y a.k places) e (nearest_answers near t q a.own a.k) a.answers.now (nearest_openings near t q a.own a.k) (length a.answers.now) why in
    let inside = g.met.S.NodeStore.within a.store.now in
    let bounded = g.met.S.NodeStore.bounded a.store.now in
    record {
      told = is ∙ r.0;
      answers = r.1;
      metered = rw is tt;
      table = refl;
      frames = refl;
      opened = inside;
      bounded = bounded;
      work = refl;
      step = steps (is ∙ r.0) r.1 (rw is tt) refl refl (record { opened = inside; meter = bounded });
      sound = sound g.met.M.Distance.Ranked.ordered (m.dist a.measure.now) (m.bound a.measure.now) (g.met.M.Measure.below a.measure.now) (g.met.M.Measure.inner a.measure.now);
    }

pub returns-clause-step : goal.returns-clause-step
returns-clause-step g c =
    let after = c.answer.new.store in
    steps (search rules) (search rules) (search rules) (search rules) (search rules) (record { opened = g.met.S.NodeStore.within after; meter = g.met.S.NodeStore.bounded after })

pub returns-clause-sound : goal.returns-clause-sound
returns-clause-sound g c =
    let a = c.args in
    let m = g.M.Measure in
    sound g.met.M.Distance.Ranked.ordered (m.dist a.measure.now) (m.bound a.measure.now) (g.met.M.Measure.below a.measure.now) (g.met.M.Measure.inner a.measure.now)
