use Rattle.std.proofs.Common.{◌≡◌, ◌+◌, ◌≤◌, length, take, Some, None, sym, refl, ◌∙◌, subst, arith}
use Rattle.index.specs.Table.{Table}
use Rattle.neighbours.specs.declared.limit.Limit.TheVariants.{Before}
use Rattle.neighbours.specs.Scene.{Scene, left, Waiting}
use Rattle.neighbours.specs.Walks.{Next}
use Rattle.neighbours.proofs.Scenes.{Fair}
use Rattle.neighbours.proofs.Confirming.{Checked, begin, goes_on, stops-short, stops-full, checked-meter}
use Rattle.search.specs.Sights.{seen}
use Rattle.search.proofs.Steps.{fair-scene}
use Rattle.search.proofs.sight.Sight.few_nearer.Given.{Over}
use Rattle.search.proofs.sight.Sight.few_nearer.Goals.{Start}
use Rattle.search.proofs.sight.Sight.few_nearer.Goals as goal

abbrev sees : (g : Over) → Start g → Table → Scene g.row.M-Distance.Denot
sees g c t = seen g.M.Distance.Ranked.precedes g.M.Measure.dist g.M.Measure.bound c.args.self.now t

abbrev here : (g : Over) → Start g → Scene g.row.M-Distance.Denot
here g c = sees g c (g.S.NodeStore.table c.args.store.now)

fair : (g : Over) (c : Start g) → Fair (here g c)
fair g c = fair-scene g.met.M.Distance.Ranked.ordered _ _ _ _ (g.met.M.Measure.below c.args.self.now.measure.now) (g.met.M.Measure.inner c.args.self.now.measure.now) (g.met.S.NodeStore.lawful c.args.store.now)

pub loop-init : goal.loop-init
loop-init g c =
    let a = c.args in
    let at = (goal.at.loop-init g c).Start in
    let m0 = g.S.NodeStore.metered a.store.now in
    record {
      table = refl;
      frames = refl;
      waits = c.start-len.ensures.waiting;
      checked = subst (λ l. Checked (here g at) a.end a.k 0 l m0 m0) (sym c.start-len.ensures.whole) (begin (here g at) (fair g at) a.end a.k m0);
    }

pub next_label-requires : goal.next_label-requires
next_label-requires g c =
    let a = c.args in
    let at = (goal.at.next_label-requires g c).Start in
    let l = c.loop in
    record {
      waiting = subst (λ t. Waiting (sees g at t) l.items l.len) (sym l.invariant.table) l.invariant.waits;
      meter = subst (λ t. g.S.NodeStore.metered l.store + length (left (sees g at t) (take l.len l.items)) ≤ 2000000) (sym l.invariant.table) (omega (arith, checked-meter (here g at) (fair g at) a.end a.k l.invariant.checked, c.requires.meter));
    }

pub returns-in-None : goal.returns-in-None
returns-in-None g c =
    let a = c.args in
    let at = (goal.at.returns-in-None g c).Start in
    let store = g.S.NodeStore in
    let l = c.loop in
    let told = subst (λ t. Next (sees g at t) (Before a.end) (left (sees g at t) (take l.len l.items)) c.next_label.new.items (store.metered l.store) (store.metered c.next_label.new.store) None) l.invariant.table c.in-None.ensures.next in
    let e = stops-short (here g at) (fair g at) a.end a.k l.invariant.checked (omega arith) c.next_label.new.items (store.metered c.next_label.new.store) told in
    record { table = c.next_label.ensures.table ∙ l.invariant.table; frames = c.next_label.ensures.frames ∙ l.invariant.frames; value = sym e.0; metered = e.1 }

pub loop-preserved : goal.loop-preserved
loop-preserved g c =
    let a = c.args in
    let at = (goal.at.loop-preserved g c).Start in
    let store = g.S.NodeStore in
    let l = c.loop in
    let told = subst (λ t. Next (sees g at t) (Before a.end) (left (sees g at t) (take l.len l.items)) c.next_label.new.items (store.metered l.store) (store.metered c.next_label.new.store) (Some c.in-Some.label)) l.invariant.table c.in-Some.ensures.next in
    record {
      table = c.next_label.ensures.table ∙ l.invariant.table;
      frames = c.next_label.ensures.frames ∙ l.invariant.frames;
      waits = told.5;
      checked = goes_on (here g at) (fair g at) a.end a.k l.invariant.checked (omega arith) c.next_label.new.items (store.metered c.next_label.new.store) c.in-Some.label told;
    }

pub returns : goal.returns
returns g c =
    let a = c.args in
    let at = (goal.at.returns g c).Start in
    let store = g.S.NodeStore in
    let l = c.loop in
    let full : l.counter ≡ a.k = omega arith in
    let e = stops-full (here g at) (fair g at) a.end a.k (subst (λ i. Checked (here g at) a.end a.k i (left (here g at) (take l.len l.items)) (store.metered a.store.now) (store.metered l.store)) full l.invariant.checked) in
    record { table = l.invariant.table; frames = l.invariant.frames; value = sym e.0; metered = e.1 }
