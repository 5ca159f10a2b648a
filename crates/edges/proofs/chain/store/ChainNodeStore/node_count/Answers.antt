use Rattle.std.proofs.Common.{sym}
use Rattle.edges.specs.Linked.{count}
use Rattle.edges.proofs.chain.store.ChainNodeStore.node_count.Goals as goal

pub returns : goal.returns
returns c = let chain = c.args.self.now in sym (count chain.last chain.label)
