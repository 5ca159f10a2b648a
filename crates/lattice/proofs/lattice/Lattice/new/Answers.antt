use Rattle.std.proofs.Common.{sym, arith, w32, to_z, of_z}
use Rattle.std.proofs.lemmas.Int.{to_z-of_z}
use Rattle.std.proofs.lemmas.Bool.Decides.{nat_tests}
use Rattle.lattice.specs.Grid.{grid_table}
use Rattle.lattice.proofs.Refused.{none-moved, accepted}
use Rattle.lattice.specs.Fitting.{exact}
use Rattle.lattice.proofs.lattice.Lattice.new.Goals as goal

pub invariant_of-result : goal.invariant_of-result
invariant_of-result c =
    let a = accepted c.args.rows c.args.columns c.args.step (to_z w32 (of_z w32 c.args.x)) (to_z w32 (of_z w32 c.args.y)) c.args.first (sym c.in_ok-check.ensures) in
    record { lined = a.lined; stepped = a.stepped; across = a.across; upward = a.upward; numbered = a.numbered; within = grind (arith, nat_tests) }

pub returns : goal.returns
returns c =
    let x = to_z-of_z w32 c.args.x c.ranges.x in
    let y = to_z-of_z w32 c.args.y c.ranges.y in
    let none = none-moved c.args.rows c.args.columns c.args.step _ c.args.x _ c.args.y c.args.first x y (sym c.in_ok-check.ensures) in
    let a = accepted c.args.rows c.args.columns c.args.step c.args.x c.args.y c.args.first none in
    record {
      refusal = sym none;
      fresh = record { table = λ i. grid_table c.args.rows c.args.columns c.args.step (x i) (y i) c.args.first; opened = cc; meter = cc };
      exact = exact c.args.rows c.args.columns c.args.step c.args.x c.args.y c.args.first a.lined a.across a.upward a.numbered;
    }
