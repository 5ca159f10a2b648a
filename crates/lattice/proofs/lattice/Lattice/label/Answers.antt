use Rattle.std.proofs.Common.{◌≡◌, ◌+◌, ◌*◌, is_ok, Ok, sym, ap, ◌∙◌}
use Rattle.geometry.specs.Plane.{label_from}
use Rattle.lattice.specs.Grid.{grid_label}
use Rattle.lattice.specs.Ranges.{advanced, along-near}
use Rattle.lattice.specs.Shows.{shows-exact}
use Rattle.lattice.proofs.lattice.Lattice.label.Goals as goal
use Rattle.lattice.proofs.lattice.Lattice.label.Goals.{After-new}

made : (c : After-new) → c.new.result ≡ Ok (grid_label c.args.self.now.step c.args.self.now.x c.args.self.now.y c.args.self.now.first c.args.i c.args.j)
made c =
    let l = c.args.self.now in
    let k = l.first + 12 * c.args.i + c.args.j in
    let x = advanced l.x _ l.step c.args.j l.across.0 (along-near l.x l.step l.columns c.args.j l.across c.requires.1) c.advance-x.ensures in
    let y = advanced l.y _ l.step c.args.i l.upward.0 (along-near l.y l.step l.rows c.args.i l.upward c.requires.0) c.advance-y.ensures in
    c.new.ensures ∙ (λ i. label_from k (x i) (y i)) ∙ (shows-exact l).labels c.args.i c.args.j c.requires.0 c.requires.1

pub unwrap-requires : goal.unwrap-requires
unwrap-requires c = ap is_ok (made c)

pub returns : goal.returns
returns c =
    let same : Ok c.unwrap.result ≡ Ok _ = sym c.unwrap.ensures ∙ made c.before in
    cc
