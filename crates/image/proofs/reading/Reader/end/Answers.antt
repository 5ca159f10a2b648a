use Rattle.std.proofs.Common.{◌≡◌, sym, ap, ◌∙◌, arith}
use Rattle.image.specs.Layout.{image_of}
use Rattle.image.specs.Nodes.{start}
use Rattle.image.specs.Owners.{start-zero}
use Rattle.image.proofs.Scanning.{start-next}
use Rattle.image.proofs.reading.Reader.end.Goals as goal

pub loop-i-init : goal.loop-i-init
loop-i-init c = (sym (start-zero (image_of c.args.self.bytes.now)), omega arith)

pub loop-i-preserved : goal.loop-i-preserved
loop-i-preserved c = (omega (arith, start-next (image_of c.args.self.bytes.now) c.loop-i.i), omega arith)

pub returns : goal.returns
returns c = c.loop-i.invariant.0 ∙ ap (start (image_of c.args.self.bytes.now)) (let e : c.loop-i.i ≡ c.args.self.nodes = omega arith in e)
