use Rattle.std.proofs.Common.{arith}
use Rattle.std.proofs.lemmas.Int.{to_z-of_z}
use Rattle.geometry.proofs.rect.Rect.contains.Goals as goal

pub returns-then-contains : goal.returns-then-contains
returns-then-contains c = grind (arith, to_z-of_z)
