use Rattle.std.proofs.Common.{◌≡◌}
use Rattle.geometry.specs.Plane.{spot}
use Rattle.edges.specs.Chain.{chain_table}
use Rattle.edges.proofs.chain.store.ChainNodeStore.root_box.Goals as goal

pub returns : goal.returns
unfolding chain_table
returns c = let e : c.spot.result ≡ spot c.args.self.now.label.place = cc (c.place.ensures, c.spot.ensures) in e
