use Rattle.std.proofs.Common.{arith}
use Rattle.std.proofs.lemmas.Int.{ints}
use Rattle.geometry.proofs.Boxes.{place-from}
use Rattle.geometry.proofs.place.Place.new.Goals as goal

pub returns : goal.returns
returns c = place-from _ c.args.x c.args.y (omega (arith, ints)) (omega (arith, ints))
