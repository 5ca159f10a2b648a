use Rattle.std.proofs.Common.{arith}
use Rattle.edges.specs.Linked.{link-leads, leaf-holds, slots-past}
use Rattle.edges.proofs.chain.Chain.slot_of.Goals as goal

pub returns-then-j-gt0 : goal.returns-then-j-gt0
returns-then-j-gt0 c = let chain = c.args.self.now in slots-past chain.last chain.label c.args.i c.args.j c.requires c.if-j-gt0.true

pub returns-then-i-self : goal.returns-then-i-self
returns-then-i-self c = let chain = c.args.self.now in link-leads chain.last chain.label _ c.args.i c.args.j c.root_box.ensures c.if-i-self.true (omega arith)

pub returns-else-i-self : goal.returns-else-i-self
returns-else-i-self c = let chain = c.args.self.now in leaf-holds chain.last chain.label c.args.i c.args.j (omega arith) (omega arith)
