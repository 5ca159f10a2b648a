use Rattle.std.proofs.Common.{arith}
use Rattle.std.proofs.lemmas.Int.{ints, clamps}
use Rattle.geometry.proofs.Boxes.{rect-is, smallest}
use Rattle.geometry.proofs.rect.Rect.around.Goals as goal

pub invariant_of-result : goal.invariant_of-result
invariant_of-result c = record { upright = (omega (arith, ints, clamps), omega (arith, ints, clamps)); near = (omega (arith, ints, clamps), omega (arith, ints, clamps), omega (arith, ints, clamps), omega (arith, ints, clamps)) }

pub returns : goal.returns
returns c = record {
  value = rect-is _ _ _ _ _ (omega (arith, ints, clamps)) (omega (arith, ints, clamps)) (omega (arith, ints, clamps)) (omega (arith, ints, clamps));
  smallest = smallest _ c.args.a.now c.args.b.now (omega (arith, ints, clamps)) (omega (arith, ints, clamps)) (omega (arith, ints, clamps)) (omega (arith, ints, clamps));
}
