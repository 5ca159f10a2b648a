use Rattle.std.proofs.Common.{◌+◌, ◌<◌, ◌≤◌, List, length, take, sym, ◌∙◌, subst, arith}
use Rattle.index.specs.Table.{Table, node_at, node_count}
use Rattle.neighbours.specs.declared.item.Item.{Item}
use Rattle.neighbours.specs.Items.{ahead}
use Rattle.neighbours.specs.Scene.{Scene, left}
use Rattle.neighbours.proofs.Scenes.{Fair, Taken}
use Rattle.search.specs.Entering.{Entered}
use Rattle.search.specs.Sights.{seen, items_seen}
use Rattle.search.proofs.Steps.{Walked, fair-scene, taken, walked-within, walked-room, walked-meter, walked_more, walked-shorter, walked-node, walked-label, walked-stops, walked-ends}
use Rattle.search.proofs.sight.Sight.next_label.Given.{Over}
use Rattle.search.proofs.sight.Sight.next_label.Goals.{Start, In-Some}
use Rattle.search.proofs.sight.Sight.next_label.Goals as goal

abbrev sees : (g : Over) → Start g → Table → Scene g.row.M-Distance.Denot
sees g c t = seen g.M.Distance.Ranked.precedes g.M.Measure.dist g.M.Measure.bound c.args.self.now t

abbrev here : (g : Over) → Start g → Scene g.row.M-Distance.Denot
here g c = sees g c (g.S.NodeStore.table c.args.store.now)

fair : (g : Over) (c : Start g) → Fair (here g c)
fair g c = fair-scene g.met.M.Distance.Ranked.ordered _ _ _ _ (g.met.M.Measure.below c.args.self.now.measure.now) (g.met.M.Measure.inner c.args.self.now.measure.now) (g.met.S.NodeStore.lawful c.args.store.now)

abbrev before : (g : Over) → Start g → List (Item g.row.M-Distance.Denot)
before g c = left (here g c) (take c.args.len c.args.items.now)

-- what `pop` took off the queue
took : (g : Over) (c : In-Some g) → Taken (seen g.M.Distance.Ranked.precedes g.M.Measure.dist g.M.Measure.bound c.args.self.now (g.S.NodeStore.table c.args.store.now)) c.loop-x.items c.pop.new.items c.loop-x.waiting c.in-Some.rest c.in-Some.x
took g c = taken _ _ _ _ (c.in-Some.x, c.in-Some.rest) c.loop-x.invariant.walked.waits (omega arith) c.in-Some.ensures.told c.in-Some.ensures.queue.0

pub returns-then-not-admits : goal.returns-then-not-admits
returns-then-not-admits g c =
    let at = (goal.at.returns-then-not-admits g c).Start in
    let l = c.loop-x in
    let t = took g (goal.at.returns-then-not-admits g c).In-Some in
    record { table = l.invariant.table; frames = l.invariant.frames; next = walked-stops (here g at) (fair g at) c.args.limit (before g at) l.invariant.walked t (sym c.admits.ensures ∙ c.if-not-admits.true) }

pub returns-in-OfLabel : goal.returns-in-OfLabel
returns-in-OfLabel g c =
    let at = (goal.at.returns-in-OfLabel g c).Start in
    let l = c.loop-x in
    let t = took g (goal.at.returns-in-OfLabel g c).In-Some in
    record { table = l.invariant.table; frames = l.invariant.frames; next = walked-label (here g at) (fair g at) c.args.limit (before g at) l.invariant.walked t c.in-OfLabel.label c.in-OfLabel.is (sym c.admits.ensures ∙ c.if-not-admits.false) }

pub open_node-waiting-requires : goal.open_node-waiting-requires
open_node-waiting-requires g c =
    let at = (goal.at.open_node-waiting-requires g c).Start in
    let a = c.args in
    let l = c.loop-x in
    let w = l.invariant.walked in
    let same = sym l.invariant.table in
    let t = took g (goal.at.open_node-waiting-requires g c).In-Some in
    let node = c.in-OfNode.node in
    record {
      node = subst (λ t. node < node_count t) same (walked-within (here g at) (fair g at) a.limit (before g at) w t node c.in-OfNode.is);
      meter = omega (arith, walked-meter (here g at) (fair g at) a.limit (before g at) w t, walked_more (here g at) (fair g at) a.limit (before g at) w t, c.requires.meter);
      room = subst (λ t. c.in-Some.rest + length (items_seen g.M.Measure.dist g.M.Measure.bound a.self.now (node_at t node)) ≤ length c.pop.new.items) same (walked-room (here g at) (fair g at) a.limit (before g at) w t node c.in-OfNode.is);
      shape = t.shape;
    }

pub loop-x-smaller : goal.loop-x-smaller
loop-x-smaller g c =
    let at = (goal.at.loop-x-smaller g c).Start in
    let l = c.loop-x in
    let t = took g (goal.at.loop-x-smaller g c).In-Some in
    let node = c.in-OfNode.node in
    let zs = c.open_node-waiting.new.items in
    let r = c.open_node-waiting.result in
    let e = subst (λ t. Entered (ahead g.M.Distance.Ranked.precedes) c.pop.new.items zs c.in-Some.rest r (items_seen g.M.Measure.dist g.M.Measure.bound c.args.self.now (node_at t node))) l.invariant.table c.open_node-waiting.ensures.entered in
    omega (arith, walked-shorter (here g at) (fair g at) c.args.limit (before g at) l.invariant.walked t node c.in-OfNode.is zs r (omega arith) e)

pub loop-x-preserved : goal.loop-x-preserved
loop-x-preserved g c =
    let at = (goal.at.loop-x-preserved g c).Start in
    let l = c.loop-x in
    let t = took g (goal.at.loop-x-preserved g c).In-Some in
    let node = c.in-OfNode.node in
    let zs = c.open_node-waiting.new.items in
    let r = c.open_node-waiting.result in
    let e = subst (λ t. Entered (ahead g.M.Distance.Ranked.precedes) c.pop.new.items zs c.in-Some.rest r (items_seen g.M.Measure.dist g.M.Measure.bound c.args.self.now (node_at t node))) l.invariant.table c.open_node-waiting.ensures.entered in
    let w = walked-node (here g at) (fair g at) c.args.limit (before g at) l.invariant.walked t node c.in-OfNode.is zs r (omega arith) e (sym c.admits.ensures ∙ c.if-not-admits.false) in
    record {
      table = c.open_node-waiting.ensures.table ∙ l.invariant.table;
      frames = c.open_node-waiting.ensures.frames ∙ l.invariant.frames;
      walked = subst (Walked (here g at) c.args.limit (before g at) zs r (g.S.NodeStore.metered c.args.store.now)) (sym c.open_node-waiting.ensures.metered) w;
    }

pub returns : goal.returns
returns g c =
    let at = (goal.at.returns g c).Start in
    let l = c.loop-x in
    record { table = l.invariant.table; frames = l.invariant.frames; next = walked-ends (here g at) (fair g at) c.args.limit (before g at) l.items c.pop.new.items l.waiting _ _ l.invariant.walked c.in_default.ensures.told }
