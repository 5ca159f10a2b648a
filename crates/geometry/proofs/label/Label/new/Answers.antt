use Rattle.std.proofs.Common.{◌≡◌, Ok, refl, w32, SFits}
use Rattle.std.proofs.lemmas.Int.{to_z-of_z}
use Rattle.geometry.specs.Plane.{place_from}
use Rattle.geometry.proofs.Boxes.{label-from}
use Rattle.geometry.proofs.label.Label.new.Goals as goal

pub returns : goal.returns
returns c =
    let fx : SFits w32 c.args.x = c.ranges.x in
    let fy : SFits w32 c.args.y = c.ranges.y in
    let told : Ok c.in_ok-place.place ≡ place_from c.args.x c.args.y = simp to_z-of_z at c.in_ok-place.ensures in
    label-from _ c.args.number c.args.x c.args.y refl told
