use Rattle.std.proofs.Common.{sym}
use Rattle.lattice.specs.Shows.{shows-count}
use Rattle.lattice.proofs.lattice.store.LatticeNodeStore.node_count.Goals as goal

pub returns : goal.returns
returns c = sym (shows-count c.args.self.now)
