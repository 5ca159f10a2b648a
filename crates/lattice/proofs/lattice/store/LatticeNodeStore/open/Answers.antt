use Rattle.std.proofs.Common.{◌≡◌, true, sym, subst, arith}
use Rattle.std.proofs.lemmas.Bool.Decides.{nat_tests}
use Rattle.index.proofs.Opened.{kept}
use Rattle.lattice.specs.Grid.{is_node}
use Rattle.lattice.specs.Shows.{shows-count}
use Rattle.lattice.proofs.lattice.store.LatticeNodeStore.open.Goals as goal

pub invariant_of-self-clause-within : goal.invariant_of-self-clause-within
invariant_of-self-clause-within c =
    let l = c.args.self.now in
    subst (λ o. is_node l.rows o ≡ true) (sym c.open.ensures.node)
    (kept (λ o. is_node l.rows o ≡ true) c.node_count-nodes.result c.args.i l.openings.meter l.openings.node l.within (λ h. grind (arith, nat_tests, shows-count l)))
