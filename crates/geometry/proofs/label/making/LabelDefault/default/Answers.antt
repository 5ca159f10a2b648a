use Rattle.std.proofs.Common.{pos, refl}
use Rattle.geometry.proofs.Boxes.{label_is}
use Rattle.geometry.proofs.label.making.LabelDefault.default.Goals as goal

pub returns : goal.returns
returns c = label_is _ 1 (pos 0) (pos 0) refl c.middle.ensures
