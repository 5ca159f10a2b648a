use Rattle.std.proofs.Common.{◌≡◌, take}
use Rattle.neighbours.specs.Scene.{left, Waiting}
use Rattle.neighbours.proofs.Confirming.{Checked}
use Rattle.search.specs.Sights.{seen}
use Rattle.search.proofs.sight.Sight.few_nearer.Given as goal

abbrev pub invariant-loop : goal.invariant-loop
invariant-loop g l =
    let m = g.M.Measure in
    let store = g.S.NodeStore in
    let s = seen g.M.Distance.Ranked.precedes m.dist m.bound l.self (store.table l.initial.store) in
    record {
      table : store.table l.store ≡ store.table l.initial.store;
      frames : store.frames l.store ≡ store.frames l.initial.store;
      waits : Waiting s l.items l.len;
      checked : Checked s l.end l.k l.counter (left s (take l.len l.items)) (store.metered l.initial.store) (store.metered l.store);
    }
