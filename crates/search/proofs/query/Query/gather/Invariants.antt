use Rattle.std.proofs.Common.{◌≡◌, length, take}
use Rattle.neighbours.specs.Scene.{left, Waiting}
use Rattle.neighbours.proofs.Browsed.{asking}
use Rattle.search.proofs.Collecting.{Collected}
use Rattle.search.proofs.query.Query.gather.Given as goal

abbrev pub invariant-loop-next : goal.invariant-loop-next
invariant-loop-next g l =
    let store = g.S.NodeStore in
    let lt = g.M.Distance.Ranked.precedes in
    let t = store.table l.initial.store in
    let q = l.self in
    let dist = g.M.Measure.dist q.measure.now in
    let bound = g.M.Measure.bound q.measure.now in
    let s = asking lt t dist bound q.from q.own in
    record {
      table : store.table l.store ≡ t;
      frames : store.frames l.store ≡ store.frames l.initial.store;
      waits : Waiting s l.work l.len;
      collected : Collected lt t dist bound q.from q.own q.k q.confirming l.initial.answers l.answers l.count l.came l.limit (left s (take l.len l.work)) (store.metered l.initial.store) (store.metered l.store);
    }

abbrev pub decreases-loop-next : goal.decreases-loop-next
decreases-loop-next g l =
    let q = l.self in
    length (left (asking g.M.Distance.Ranked.precedes (g.S.NodeStore.table l.initial.store) (g.M.Measure.dist q.measure.now) (g.M.Measure.bound q.measure.now) q.from q.own) (take l.len l.work))
