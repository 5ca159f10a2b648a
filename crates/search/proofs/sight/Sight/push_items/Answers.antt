use Rattle.std.proofs.Common.{◌++◌, length, take, sym, ap, ◌∙◌, subst, arith}
use Rattle.neighbours.specs.Items.{ahead}
use Rattle.neighbours.specs.Scene.{item_of, items_in, listed}
use Rattle.neighbours.specs.Ordering.{item-order}
use Rattle.search.specs.Entering.{open_slots, Entered}
use Rattle.search.proofs.Queueing.{entered-none, entered-more, items_more, items-room, slot-open}
use Rattle.search.proofs.sight.Sight.push_items.Goals as goal

pub loop-j-init : goal.loop-j-init
unfolding items_in
loop-j-init g c = entered-none c.args.items.now c.args.len c.requires.shape

pub push_slot-count-requires : goal.push_slot-count-requires
push_slot-count-requires g c =
    let a = c.args in
    let m = g.M.Measure in
    let t = g.S.NodeStore.table a.store.now in
    let o = g.S.NodeStore.opened a.store.now in
    let to = m.dist a.self.now.measure.now a.self.now.view.from in
    let near = m.bound a.self.now.measure.now a.self.now.view.from in
    let is = c.slot.ensures ∙ slot-open t o c.loop-j.j in
    record {
      room = omega (arith, c.requires.room, c.loop-j.invariant.many, items-room to near a.self.now.view (open_slots t o) c.loop-j.j, ap (λ s. length (listed (item_of to near a.self.now.view s))) is);
      shape = c.loop-j.invariant.shape;
    }

pub loop-j-preserved : goal.loop-j-preserved
loop-j-preserved g c =
    let a = c.args in
    let l = c.loop-j in
    let m = g.M.Measure in
    let t = g.S.NodeStore.table a.store.now in
    let o = g.S.NodeStore.opened a.store.now in
    let to = m.dist a.self.now.measure.now a.self.now.view.from in
    let near = m.bound a.self.now.measure.now a.self.now.view.from in
    let slots = open_slots t o in
    let lt = ahead g.M.Distance.Ranked.precedes in
    let is = c.slot.ensures ∙ slot-open t o l.j in
    let more = items_more to near a.self.now.view slots l.j ∙ ap (λ s. items_in to near a.self.now.view (take l.j slots) ++ listed (item_of to near a.self.now.view s)) (sym is) in
    subst (Entered lt a.items.now c.push_slot-count.new.items a.len c.push_slot-count.result) (sym more)
    (entered-more (item-order g.met.M.Distance.Ranked.ordered) a.items.now l.items c.push_slot-count.new.items a.len l.count c.push_slot-count.result (items_in to near a.self.now.view (take l.j slots)) (item_of to near a.self.now.view c.slot.result) l.invariant c.push_slot-count.ensures)
