use Rattle.std.proofs.Common.{◌≡◌, true, sym, subst, arith}
use Rattle.std.proofs.lemmas.Bool.Decides.{nat_tests}
use Rattle.index.proofs.Opened.{kept}
use Rattle.edges.specs.Chain.{is_node}
use Rattle.edges.specs.Linked.{count}
use Rattle.edges.proofs.chain.store.ChainNodeStore.open.Goals as goal

pub invariant_of-self-clause-within : goal.invariant_of-self-clause-within
invariant_of-self-clause-within c =
    let chain = c.args.self.now in
    subst (λ o. is_node chain.last o ≡ true) (sym c.open.ensures.node)
    (kept (λ o. is_node chain.last o ≡ true) c.node_count-nodes.result c.args.i chain.openings.meter chain.openings.node chain.within (λ h. grind (arith, nat_tests, count chain.last chain.label)))
