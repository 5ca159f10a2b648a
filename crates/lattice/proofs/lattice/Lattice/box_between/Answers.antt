use Rattle.std.proofs.Common.{◌≡◌, ◌-◌, is_ok, Ok, sym, ap, ◌∙◌, w32}
use Rattle.std.proofs.lemmas.Int.{to_z-of_z}
use Rattle.geometry.specs.Plane.{rect_from}
use Rattle.lattice.specs.Grid.{along, grid_box}
use Rattle.lattice.specs.Ranges.{passed, advanced}
use Rattle.lattice.specs.Fitting.{rect-fits, reach-spans}
use Rattle.lattice.proofs.lattice.Lattice.box_between.Goals as goal
use Rattle.lattice.proofs.lattice.Lattice.box_between.Goals.{After-new}

made : (c : After-new) → c.new.result ≡ Ok (grid_box c.args.self.now.columns c.args.self.now.step c.args.self.now.x c.args.south c.args.north)
made c =
    let l = c.args.self.now in
    let far = along l.x l.step (l.columns - 1) in
    let east = advanced l.x _ l.step (l.columns - 1) l.across.0 l.across.1 c.advance-east.ensures in
    c.new.ensures ∙ (λ i. rect_from (passed l.x l.across.0 i) (to_z-of_z w32 c.args.south c.ranges.south i) (east i) (to_z-of_z w32 c.args.north c.ranges.north i))
    ∙ rect-fits l.x c.args.south far c.args.north (reach-spans l.x l.step l.columns l.across) c.requires

pub unwrap-requires : goal.unwrap-requires
unwrap-requires c = ap is_ok (made c)

pub returns : goal.returns
returns c =
    let same : Ok c.unwrap.result ≡ Ok _ = sym c.unwrap.ensures ∙ made c.before in
    cc
