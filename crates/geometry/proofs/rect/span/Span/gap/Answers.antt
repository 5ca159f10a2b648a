use Rattle.std.proofs.Common.{arith}
use Rattle.std.proofs.lemmas.Int.{ints}
use Rattle.geometry.specs.Plane.{gap}
use Rattle.geometry.proofs.rect.span.Span.gap.Goals as goal

pub returns-then-z-self : goal.returns-then-z-self
unfolding gap
returns-then-z-self c = grind (arith, ints)

pub returns-then-self-z : goal.returns-then-self-z
unfolding gap
returns-then-self-z c = grind (arith, ints)

pub returns-else-self-z : goal.returns-else-self-z
unfolding gap
returns-else-self-z c = grind (arith, ints)
