use Rattle.image.proofs.Showing.{nodes-stored}
use Rattle.image.proofs.store.nodes.ImageStoreNodeStore.node_count.Goals as goal

pub returns : goal.returns
returns c = nodes-stored c.args.self.now
