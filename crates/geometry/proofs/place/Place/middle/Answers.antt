use Rattle.std.proofs.Common.{refl}
use Rattle.geometry.specs.Plane.{place_at}
use Rattle.geometry.proofs.Same.{same_place}
use Rattle.geometry.proofs.place.Place.middle.Goals as goal

pub returns : goal.returns
unfolding place_at
returns c = same_place _ _ refl refl
