use Rattle.std.proofs.Common.{◌-◌, ◌∙◌}
use Rattle.lattice.specs.Grid.{grid_box, grid_table}
use Rattle.lattice.specs.Ranges.{passed, advanced}
use Rattle.lattice.proofs.lattice.store.LatticeNodeStore.root_box.Goals as goal

pub returns : goal.returns
unfolding grid_table
returns c =
    let l = c.args.self.now in
    let north = advanced l.y _ l.step (l.rows - 1) l.upward.0 l.upward.1 c.advance.ensures in
    c.box_between.ensures ∙ (λ i. grid_box l.columns l.step l.x (passed l.y l.upward.0 i) (north i))
