use Rattle.lattice.specs.Slots.{first-empty}
use Rattle.lattice.specs.Tree.{leaf-holds}
use Rattle.lattice.proofs.lattice.Lattice.leaf_slot.Goals as goal

pub returns-then-j-self : goal.returns-then-j-self
returns-then-j-self c = let l = c.args.self.now in first-empty l.columns _ c.args.j l.lined.3 c.if-j-self.true

pub returns : goal.returns
returns c =
    let l = c.args.self.now in
    leaf-holds l.rows l.columns l.step l.x l.y l.first l.lined _ c.args.i c.args.j c.if-j-self.false c.label.ensures
