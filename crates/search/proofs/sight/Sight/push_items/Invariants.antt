use Rattle.std.proofs.Common.{take}
use Rattle.neighbours.specs.Items.{ahead}
use Rattle.neighbours.specs.Scene.{items_in}
use Rattle.search.specs.Entering.{open_slots, Entered}
use Rattle.search.proofs.sight.Sight.push_items.Given as goal

abbrev pub invariant-loop-j : goal.invariant-loop-j
invariant-loop-j g l =
    let m = g.M.Measure in
    let slots = open_slots (g.S.NodeStore.table l.store) (g.S.NodeStore.opened l.store) in
    Entered (ahead g.M.Distance.Ranked.precedes) l.initial.items l.items l.len l.count (items_in (m.dist l.self.measure.now l.self.view.from) (m.bound l.self.measure.now l.self.view.from) l.self.view (take l.j slots))
