use Rattle.std.proofs.Common.{arith}
use Rattle.measure.specs.Formula.{gaps}
use Rattle.measure.specs.Gaps.{gap-small}
use Rattle.measure.proofs.Differences.up_to.Goals as goal

pub invariant_of-result : goal.invariant_of-result
invariant_of-result c =
    let a = c.args.a in
    let b = c.args.b.now in
    (omega (arith, gap-small b.west b.east a.x b.near.0 b.near.2 a.near.0), omega (arith, gap-small b.south b.north a.y b.near.1 b.near.3 a.near.1))

pub returns : goal.returns
unfolding gaps
returns c = λ i. (c.gap_x.ensures i, c.gap_y.ensures i)
