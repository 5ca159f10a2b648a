use Rattle.std.proofs.Common.{◌≡◌, length, take}
use Rattle.neighbours.specs.Scene.{left}
use Rattle.search.specs.Sights.{seen}
use Rattle.search.proofs.Steps.{Walked}
use Rattle.search.proofs.sight.Sight.next_label.Given as goal

abbrev pub invariant-loop-x : goal.invariant-loop-x
invariant-loop-x g l =
    let m = g.M.Measure in
    let store = g.S.NodeStore in
    let s = seen g.M.Distance.Ranked.precedes m.dist m.bound l.self (store.table l.initial.store) in
    record {
      table : store.table l.store ≡ store.table l.initial.store;
      frames : store.frames l.store ≡ store.frames l.initial.store;
      walked : Walked s l.limit (left s (take l.len l.initial.items)) l.items l.waiting (store.metered l.initial.store) (store.metered l.store);
    }

abbrev pub decreases-loop-x : goal.decreases-loop-x
decreases-loop-x g l =
    let m = g.M.Measure in
    length (left (seen g.M.Distance.Ranked.precedes m.dist m.bound l.self (g.S.NodeStore.table l.initial.store)) (take l.waiting l.items))
