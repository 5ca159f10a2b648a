use Rattle.std.proofs.Common.{arith}
use Rattle.std.proofs.lemmas.Int.{ints, to_z-of_z}
use Rattle.geometry.proofs.Boxes.{rect-is}
use Rattle.geometry.proofs.rect.Rect.spot.Goals as goal

pub returns : goal.returns
returns c = rect-is _ c.args.p.x c.args.p.y c.args.p.x c.args.p.y (grind (arith, ints, to_z-of_z)) (grind (arith, ints, to_z-of_z)) (grind (arith, ints, to_z-of_z)) (grind (arith, ints, to_z-of_z))
