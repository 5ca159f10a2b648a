use Rattle.std.proofs.Common.{sym, arith}
use Rattle.std.proofs.lemmas.Int.{ints}
use Rattle.geometry.proofs.Boxes.{spanned, rect-from}
use Rattle.geometry.proofs.rect.Rect.new.Goals as goal

pub invariant_of-result : goal.invariant_of-result
invariant_of-result c =
    let across = spanned _ _ (sym c.if-not-is_side.ensures) in
    let along = spanned _ _ (sym c.if-not-is_side-2.ensures) in
    record { upright = (across.0, along.0); near = (across.1, along.1, across.2, along.2) }

pub returns : goal.returns
returns c = rect-from _ c.args.west c.args.south c.args.east c.args.north (omega (arith, ints)) (omega (arith, ints)) (omega (arith, ints)) (omega (arith, ints))
