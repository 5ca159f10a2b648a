use Rattle.std.proofs.Common.{◌≡◌, ◌+◌, ◌≤◌, length, take, set, Some, None, sym, refl, ap, ◌∙◌, subst, arith, rules}
use Rattle.std.proofs.lemmas.List.{set_past}
use Rattle.index.specs.Table.{Table}
use Rattle.neighbours.specs.declared.limit.Limit.TheVariants.{Anywhere}
use Rattle.neighbours.specs.Ranking.{ranking}
use Rattle.neighbours.specs.Scene.{Scene, left, Waiting, work_places}
use Rattle.neighbours.specs.Walks.{Next}
use Rattle.neighbours.proofs.Scenes.{Fair}
use Rattle.neighbours.proofs.Browsed.{asking}
use Rattle.search.specs.Answers.{Roomy, accepts, costs}
use Rattle.search.proofs.Steps.{fair-scene}
use Rattle.search.proofs.Collecting.{Collected, collected-none, collected-few, collected-meter, next-stands, next-meter, takes, passes_over, overflows, concludes, put-room, put_full}
use Rattle.search.proofs.query.Query.gather.Given.{Over}
use Rattle.search.proofs.query.Query.gather.Goals.{Start, In-Some}
use Rattle.search.proofs.query.Query.gather.Goals as goal

abbrev sees : (g : Over) → Start g → Table → Scene g.row.M-Distance.Denot
sees g c t = asking g.M.Distance.Ranked.precedes t (g.M.Measure.dist c.args.self.now.measure.now) (g.M.Measure.bound c.args.self.now.measure.now) c.args.self.now.from c.args.self.now.own

fair : (g : Over) (c : Start g) → Fair (sees g c (g.S.NodeStore.table c.args.store.now))
fair g c = fair-scene g.met.M.Distance.Ranked.ordered _ _ _ _ (g.met.M.Measure.below c.args.self.now.measure.now) (g.met.M.Measure.inner c.args.self.now.measure.now) (g.met.S.NodeStore.lawful c.args.store.now)

-- the label that came next, in the scene of the beginning
came : (g : Over) (c : In-Some g)
    → (let q = c.args.self.now in let l = c.loop-next in let s = asking g.M.Distance.Ranked.precedes (g.S.NodeStore.table c.args.store.now) (g.M.Measure.dist q.measure.now) (g.M.Measure.bound q.measure.now) q.from q.own in
    Next s l.limit (left s (take l.len l.work)) c.next_label.new.items (g.S.NodeStore.metered l.store) (g.S.NodeStore.metered c.next_label.new.store) (Some c.in-Some.next))
came g c =
    let q = c.args.self.now in
    let l = c.loop-next in
    let sees : Table → Scene g.row.M-Distance.Denot = λ t. asking g.M.Distance.Ranked.precedes t (g.M.Measure.dist q.measure.now) (g.M.Measure.bound q.measure.now) q.from q.own in
    subst (λ t. Next (sees t) l.limit (left (sees t) (take l.len l.work)) c.next_label.new.items (g.S.NodeStore.metered l.store) (g.S.NodeStore.metered c.next_label.new.store) (Some c.in-Some.next)) l.invariant.table c.in-Some.ensures.next

pub loop-next-init : goal.loop-next-init
loop-next-init g c =
    let a = c.args in
    let at = (goal.at.loop-next-init g c).Start in
    let q = a.self.now in
    let store = g.S.NodeStore in
    let lt = g.M.Distance.Ranked.precedes in
    let dist = g.M.Measure.dist q.measure.now in
    let bound = g.M.Measure.bound q.measure.now in
    let t = store.table a.store.now in
    let m0 = store.metered a.store.now in
    record { table = refl; frames = refl; waits = c.start-len.ensures.waiting; collected = subst (λ w. Collected lt t dist bound q.from q.own q.k q.confirming a.answers.now a.answers.now 0 0 Anywhere w m0 m0) (sym c.start-len.ensures.whole) (collected-none lt t dist bound q.from q.own q.k q.confirming (fair g at) a.self.now.counted a.answers.now m0) }

pub next_label-requires : goal.next_label-requires
next_label-requires g c =
    let a = c.args in
    let at = (goal.at.next_label-requires g c).Start in
    let q = a.self.now in
    let store = g.S.NodeStore in
    let lt = g.M.Distance.Ranked.precedes in
    let dist = g.M.Measure.dist q.measure.now in
    let bound = g.M.Measure.bound q.measure.now in
    let t = store.table a.store.now in
    let l = c.loop-next in
    record {
      waiting = subst (λ t. Waiting (sees g at t) l.work l.len) (sym l.invariant.table) l.invariant.waits;
      meter = subst (λ t. store.metered l.store + length (left (sees g at t) (take l.len l.work)) ≤ 2000000) (sym l.invariant.table) (omega (arith, collected-meter lt t dist bound q.from q.own q.k q.confirming (fair g at) a.self.now.counted l.invariant.collected, c.requires.meter));
    }

pub overflow_add-came : goal.overflow_add-came
overflow_add-came g c =
    let a = c.args in
    let at = (goal.at.overflow_add-came g c).Start in
    let q = a.self.now in
    let store = g.S.NodeStore in
    let lt = g.M.Distance.Ranked.precedes in
    let dist = g.M.Measure.dist q.measure.now in
    let bound = g.M.Measure.bound q.measure.now in
    let t = store.table a.store.now in
    let l = c.loop-next in
    let few = collected-few lt t dist bound q.from q.own q.k q.confirming (fair g at) a.self.now.counted l.invariant.collected in
    search rules

pub is_answer-requires : goal.is_answer-requires
is_answer-requires g c =
    let a = c.args in
    let at = (goal.at.is_answer-requires g c).Start in
    let q = a.self.now in
    let store = g.S.NodeStore in
    let lt = g.M.Distance.Ranked.precedes in
    let dist = g.M.Measure.dist q.measure.now in
    let bound = g.M.Measure.bound q.measure.now in
    let t = store.table a.store.now in
    let l = c.loop-next in
    let items = c.next_label.new.items in
    let n = store.metered c.next_label.new.store in
    let x = c.in-Some.next in
    let told = came g (goal.at.is_answer-requires g c).In-Some in
    let same = c.next_label.ensures.table ∙ l.invariant.table in
    let long : length l.second ≡ length a.second.now = omega arith in
    record {
      distance = next-stands lt t dist bound q.from q.own q.k q.confirming (fair g at) a.self.now.counted l.invariant.collected items n x told;
      room = coe 1 0 (i. Roomy (same i) q.confirming (long i)) c.requires.second;
      meter = subst (λ t. n + work_places t ≤ 2000000) (sym same) (omega (arith, next-meter lt t dist bound q.from q.own q.k q.confirming (fair g at) a.self.now.counted l.invariant.collected items n x told, c.requires.meter));
    }

pub returns-in_err-count : goal.returns-in_err-count
returns-in_err-count g c =
    let a = c.args in
    let at = (goal.at.returns-in_err-count g c).Start in
    let q = a.self.now in
    let store = g.S.NodeStore in
    let lt = g.M.Distance.Ranked.precedes in
    let dist = g.M.Measure.dist q.measure.now in
    let bound = g.M.Measure.bound q.measure.now in
    let t = store.table a.store.now in
    let l = c.loop-next in
    let items = c.next_label.new.items in
    let n = store.metered c.next_label.new.store in
    let x = c.in-Some.next in
    let told = came g (goal.at.returns-in_err-count g c).In-Some in
    let same = c.next_label.ensures.table ∙ l.invariant.table in
    let yes' = (λ i. accepts (ranking lt dist bound) (sym same i) q.from q.own q.confirming x.label) ∙ sym c.is_answer.ensures.value ∙ c.if-is_answer.true in
    let full = put_full l.answers l.count (sym c.put_answer.ensures.told ∙ c.in_err-count.was) in
    let over = overflows lt t dist bound q.from q.own q.k q.confirming (fair g at) a.self.now.counted l.invariant.collected items n x told yes' (omega (arith, full)) in
    record {
      table = c.is_answer.ensures.table ∙ same;
      frames = c.is_answer.ensures.frames ∙ c.next_label.ensures.frames ∙ l.invariant.frames;
      told = c.from_residual.ensures ∙ over.0;
      answers = c.put_answer.ensures.answers ∙ set_past l.answers l.count c.number.result full ∙ over.1;
      metered = rw c.from_residual.ensures tt;
    }

pub loop-next-preserved-then-is_answer : goal.loop-next-preserved-then-is_answer
loop-next-preserved-then-is_answer g c =
    let a = c.args in
    let at = (goal.at.loop-next-preserved-then-is_answer g c).Start in
    let q = a.self.now in
    let store = g.S.NodeStore in
    let lt = g.M.Distance.Ranked.precedes in
    let dist = g.M.Measure.dist q.measure.now in
    let bound = g.M.Measure.bound q.measure.now in
    let t = store.table a.store.now in
    let l = c.loop-next in
    let items = c.next_label.new.items in
    let n = store.metered c.next_label.new.store in
    let x = c.in-Some.next in
    let told = came g (goal.at.loop-next-preserved-then-is_answer g c).In-Some in
    let same = c.next_label.ensures.table ∙ l.invariant.table in
    let yes' = (λ i. accepts (ranking lt dist bound) (sym same i) q.from q.own q.confirming x.label) ∙ sym c.is_answer.ensures.value ∙ c.if-is_answer.true in
    let paid : store.metered c.is_answer.new.store ≡ n + costs (ranking lt dist bound) t q.from q.own q.confirming x.label = c.is_answer.ensures.metered ∙ (λ i. n + costs (ranking lt dist bound) (same i) q.from q.own q.confirming x.label) in
    let put = put-room l.answers l.count c.in_ok-count.count (sym c.put_answer.ensures.told ∙ c.in_ok-count.was) in
    let e = takes lt t dist bound q.from q.own q.k q.confirming (fair g at) a.self.now.counted l.invariant.collected items n x told yes' (omega (arith, put.0)) in
    let list : c.put_answer.new.answers ≡ set l.answers l.count x.label.number = c.put_answer.ensures.answers ∙ ap (set l.answers l.count) c.number.ensures in
    record {
      table = c.is_answer.ensures.table ∙ same;
      frames = c.is_answer.ensures.frames ∙ c.next_label.ensures.frames ∙ l.invariant.frames;
      waits = told.5;
      collected = coe 1 0 (i. Collected lt t dist bound q.from q.own q.k q.confirming a.answers.now (list i) (put.1 i) (l.came + 1) (c.limit_after-limit.ensures i) (left (sees g at t) (take x.waiting items)) (store.metered a.store.now) (paid i)) e;
    }

pub loop-next-preserved : goal.loop-next-preserved
loop-next-preserved g c =
    let a = c.args in
    let at = (goal.at.loop-next-preserved g c).Start in
    let q = a.self.now in
    let store = g.S.NodeStore in
    let lt = g.M.Distance.Ranked.precedes in
    let dist = g.M.Measure.dist q.measure.now in
    let bound = g.M.Measure.bound q.measure.now in
    let t = store.table a.store.now in
    let l = c.loop-next in
    let items = c.next_label.new.items in
    let n = store.metered c.next_label.new.store in
    let x = c.in-Some.next in
    let told = came g (goal.at.loop-next-preserved g c).In-Some in
    let same = c.next_label.ensures.table ∙ l.invariant.table in
    let yes' = (λ i. accepts (ranking lt dist bound) (sym same i) q.from q.own q.confirming x.label) ∙ sym c.is_answer.ensures.value ∙ c.if-is_answer.false in
    let e = passes_over lt t dist bound q.from q.own q.k q.confirming (fair g at) a.self.now.counted l.invariant.collected items n x told yes' in
    let paid : store.metered c.is_answer.new.store ≡ n + costs (ranking lt dist bound) t q.from q.own q.confirming x.label = c.is_answer.ensures.metered ∙ (λ i. n + costs (ranking lt dist bound) (same i) q.from q.own q.confirming x.label) in
    record {
      table = c.is_answer.ensures.table ∙ same;
      frames = c.is_answer.ensures.frames ∙ c.next_label.ensures.frames ∙ l.invariant.frames;
      waits = told.5;
      collected = coe 1 0 (i. Collected lt t dist bound q.from q.own q.k q.confirming a.answers.now l.answers l.count (l.came + 1) (c.limit_after-limit.ensures i) (left (sees g at t) (take x.waiting items)) (store.metered a.store.now) (paid i)) e;
    }

pub returns : goal.returns
returns g c =
    let a = c.args in
    let at = (goal.at.returns g c).Start in
    let q = a.self.now in
    let store = g.S.NodeStore in
    let lt = g.M.Distance.Ranked.precedes in
    let dist = g.M.Measure.dist q.measure.now in
    let bound = g.M.Measure.bound q.measure.now in
    let t = store.table a.store.now in
    let l = c.loop-next in
    let items = c.next_label.new.items in
    let n = store.metered c.next_label.new.store in
    let told = subst (λ t. Next (sees g at t) l.limit (left (sees g at t) (take l.len l.work)) items (store.metered l.store) n None) l.invariant.table c.in_default.ensures.next in
    let e = concludes lt t dist bound q.from q.own q.k q.confirming (fair g at) a.self.now.counted l.invariant.collected items n told in
    record { table = c.next_label.ensures.table ∙ l.invariant.table; frames = c.next_label.ensures.frames ∙ l.invariant.frames; told = e.0; answers = e.1; metered = e.2 }
