use Rattle.std.proofs.Common.{◌≡◌, ◌+◌, ◌-◌, ◌<◌, Some, sym, ap, ◌∙◌, arith}
use Rattle.std.proofs.lemmas.Bool.{leb-true}
use Rattle.lattice.specs.Grid.{is_node}
use Rattle.lattice.specs.Tree.{opened-root, opened-leaf}
use Rattle.lattice.proofs.lattice.store.LatticeNodeStore.slot.Goals as goal

pub returns-in-Some-eq0 : goal.returns-in-Some-eq0
returns-in-Some-eq0 c =
    let l = c.args.self.now in
    let here = sym c.node.ensures ∙ c.in-Some-eq0.is ∙ ap (λ i. Some i) c.in-Some-eq0.field-0-test in
    opened-root l.rows l.columns l.step l.x l.y l.first l.lined _ l.openings.node c.args.j here c.root_slot.ensures

pub returns-in-Some : goal.returns-in-Some
returns-in-Some c =
    let l = c.args.self.now in
    let here = sym c.node.ensures ∙ c.in-Some.is in
    let before : c.in-Some.i ≡ (c.in-Some.i - 1) + 1 = omega arith in
    let row : c.in-Some.i - 1 < l.rows = omega (arith, leb-true c.in-Some.i l.rows (sym (ap (is_node l.rows) here) ∙ l.within)) in
    opened-leaf l.rows l.columns l.step l.x l.y l.first l.lined _ l.openings.node (c.in-Some.i - 1) c.args.j (here ∙ ap (λ i. Some i) before) row c.leaf_slot.ensures
