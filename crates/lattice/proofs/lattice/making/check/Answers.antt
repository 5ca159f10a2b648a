use Rattle.std.proofs.Common.{◌≡◌, false, ◌&&◌, sym, w32, SFits}
use Rattle.std.proofs.lemmas.Int.{to_z-of_z}
use Rattle.std.proofs.lemmas.Bool.{and_left, and_right}
use Rattle.lattice.specs.Grid.{is_reach}
use Rattle.lattice.proofs.Refused.{refuses-places, refuses-numbers, refuses-none}
use Rattle.lattice.proofs.lattice.making.check.Goals as goal
use Rattle.lattice.proofs.lattice.making.check.Goals.{then-not-is_reach-via-then-not-is_reach, then-not-is_reach-via-else-not-is_reach+then-not-is_reach-2}

pub returns-then-not-is_reach : goal.returns-then-not-is_reach
returns-then-not-is_reach c =
    let fx : SFits w32 c.args.x = c.ranges.x in
    let fy : SFits w32 c.args.y = c.ranges.y in
    let off : (is_reach c.args.x c.args.step c.args.columns && is_reach c.args.y c.args.step c.args.rows) ≡ false =
    elim c.then-not-is_reach.branch [
      | then-not-is_reach-via-then-not-is_reach w ↦ and_left _ _ (sym (simp to_z-of_z at w.if-not-is_reach.ensures))
      | then-not-is_reach-via-else-not-is_reach+then-not-is_reach-2 w ↦ and_right _ _ (sym (simp to_z-of_z at w.if-not-is_reach-2.ensures))
    ] in
    rw c.into-then-not-is_reach.ensures (sym (refuses-places c.args.rows c.args.columns c.args.step c.args.x c.args.y c.args.first c.if-not-is_sized.ensures off))

pub returns-then-not-is_numbered : goal.returns-then-not-is_numbered
returns-then-not-is_numbered c =
    let fx : SFits w32 c.args.x = c.ranges.x in
    let fy : SFits w32 c.args.y = c.ranges.y in
    rw c.into-then-not-is_numbered.ensures (sym (refuses-numbers c.args.rows c.args.columns c.args.step c.args.x c.args.y c.args.first c.if-not-is_sized.ensures (simp to_z-of_z at c.if-not-is_reach.ensures) (simp to_z-of_z at c.if-not-is_reach-2.ensures) c.if-not-is_numbered.ensures))

pub returns : goal.returns
returns c =
    let fx : SFits w32 c.args.x = c.ranges.x in
    let fy : SFits w32 c.args.y = c.ranges.y in
    sym (refuses-none c.args.rows c.args.columns c.args.step c.args.x c.args.y c.args.first c.if-not-is_sized.ensures (simp to_z-of_z at c.if-not-is_reach.ensures) (simp to_z-of_z at c.if-not-is_reach-2.ensures) c.if-not-is_numbered.ensures)
