use Rattle.std.proofs.Common.{◌≡◌, true, ◌&&◌, sym, ap, ◌∙◌, rules}
use Rattle.geometry.specs.Plane.{spanning}
use Rattle.image.specs.Layout.{image_of}
use Rattle.image.proofs.reading.Reader.is_inside.Goals as goal

pub returns-then-is_spanning : goal.returns-then-is_spanning
returns-then-is_spanning c =
    let d = image_of c.args.self.bytes.now in
    let b = c.args.b in
    let e = c.args.e in
    let across : spanning (d.west b) (d.east b) (d.west e) (d.east e) ≡ true = search rules in
    let along : c.is_spanning-then-is_spanning.result ≡ spanning (d.south b) (d.north b) (d.south e) (d.north e) = search rules in
    along ∙ sym (ap (λ t. t && spanning (d.south b) (d.north b) (d.south e) (d.north e)) across)
