use Rattle.lattice.specs.Ranges.{advanced, along-near}
use Rattle.lattice.specs.Slots.{first-empty}
use Rattle.lattice.specs.Tree.{root-leads}
use Rattle.lattice.proofs.lattice.Lattice.root_slot.Goals as goal

pub returns-then-j-self : goal.returns-then-j-self
returns-then-j-self c = let l = c.args.self.now in first-empty l.rows _ c.args.j l.lined.1 c.if-j-self.true

pub returns : goal.returns
returns c =
    let l = c.args.self.now in
    let near = along-near l.y l.step l.rows c.args.j l.upward c.if-j-self.false in
    let y = advanced l.y _ l.step c.args.j l.upward.0 near c.advance-y.ensures in
    root-leads l.rows l.columns l.step l.x l.y l.first l.lined _ _ c.args.j c.if-j-self.false c.box_between.ensures y
