use Rattle.std.proofs.Common.{sym, ap, ◌∙◌, w32, SFits}
use Rattle.std.proofs.lemmas.Int.{to_z-of_z}
use Rattle.std.proofs.lemmas.Result.{err_from_is_err_and}
use Rattle.geometry.proofs.Boxes.{place-told}
use Rattle.listing.specs.Neighbours.{nearest, listing}
use Rattle.listing.proofs.Accepting.{accepted}
use Rattle.listing.proofs.list.nearest.nearest_of.Goals as goal

pub returns-in_err-take_nearest : goal.returns-in_err-take_nearest
returns-in_err-take_nearest g c =
    let fx : SFits w32 c.args.x = c.ranges.x in
    let fy : SFits w32 c.args.y = c.ranges.y in
    let told = place-told c.in_ok-from.from c.args.x c.args.y (simp to_z-of_z at c.in_ok-from.ensures) in
    let fine = accepted c.args.x c.args.y c.args.k (sym c.if-not-counted.ensures) told.0 in
    let p = err_from_is_err_and c.from_residual-in_err-take_nearest.result c.from_residual-in_err-take_nearest.ensures.1 in
    rw (p.1, p.2) (record { refusal = fine; listing = tt })

pub returns : goal.returns
returns g c =
    let fx : SFits w32 c.args.x = c.ranges.x in
    let fy : SFits w32 c.args.y = c.ranges.y in
    let told = place-told c.in_ok-from.from c.args.x c.args.y (simp to_z-of_z at c.in_ok-from.ensures) in
    let fine = accepted c.args.x c.args.y c.args.k (sym c.if-not-counted.ensures) told.0 in
    let lt = g.M.Distance.Ranked.precedes in
    let k = c.args.k in
    let to = g.M.Measure.dist c.args.measure.now in
    record {
      refusal = fine;
      listing =
          c.in_ok-take_nearest.ensures
          ∙ ap (nearest lt k) (c.as_mut_slice.ensures.value ∙ c.in_ok-all.ensures)
          ∙ ap (λ p. listing lt (to p) k c.args.labels.now) told.1;
    }
