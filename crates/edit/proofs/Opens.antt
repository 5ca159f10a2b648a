-- Which nodes of an edit are opened below.
use Rattle.std.proofs.Common.{◌≡◌, ℕ, ◌-◌, ◌≤◌, true, false, subst, arith, ltb}
use Rattle.std.proofs.lemmas.Bool.{and_parts, and_from, ltb-true, lt-ltb}
use Rattle.index.specs.Table.{Table, node_count}
use Rattle.index.specs.Frames.{Layer}
use Rattle.index.specs.Opening.{opens}
use Rattle.runs.specs.Layers.{closed, layered, shown}
use Rattle.runs.proofs.Layering.{shown-closed, shown-layered, count-layered}
use Rattle.edit.specs.Showing.{counted}

module _ (l : Layer) (t : Table) (i m own : ℕ) (h : opens (shown l t) i (counted (closed t) m own) ≡ true) where
  pub opens-closed : closed t ≡ true → opens t i m ≡ true
  opens-closed c = subst (λ u. opens u i m ≡ true) (shown-closed l t c) (subst (λ b. opens (shown l t) i (counted b m own) ≡ true) c h)

  pub opens-below : closed t ≡ false → 2 ≤ i → opens t (i - 2) m ≡ true
  opens-below c two =
      let open' : opens (layered l t) i (counted false m own) ≡ true = subst (λ u. opens u i (counted false m own) ≡ true) (shown-layered l t c) (subst (λ b. opens (shown l t) i (counted b m own) ≡ true) c h) in
      let parts = and_parts (ltb i (node_count (layered l t))) (ltb (counted false m own) 2000000) open' in
      let node = ltb-true i (node_count (layered l t)) parts.0 in
      let room = ltb-true (counted false m own) 2000000 parts.1 in
      and_from (ltb (i - 2) (node_count t)) (ltb m 2000000) (lt-ltb (i - 2) (node_count t) (omega (arith, node, count-layered l t))) (lt-ltb m 2000000 (omega (arith, room)))
