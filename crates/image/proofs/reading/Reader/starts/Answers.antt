use Rattle.std.proofs.Common.{◌≡◌, ℕ, ◌+◌, get_or, refl, sym, ap, ◌∙◌, arith}
use Rattle.std.proofs.lemmas.List.{length-set, get_or-set_same, get_or-replicate}
use Rattle.image.specs.Layout.{image_of}
use Rattle.image.specs.Nodes.{start}
use Rattle.image.specs.Owners.{start-zero}
use Rattle.image.proofs.Scanning.{starts-more, start-next}
use Rattle.image.proofs.reading.Reader.starts.Goals as goal

pub loop-i-init : goal.loop-i-init
loop-i-init c = (refl, omega arith, λ k h. let z : 0 ≡ k = omega (arith, h) in get_or-replicate {A = ℕ} 129 k 1 0 (omega (arith, h)) ∙ sym (start-zero (image_of c.args.self.bytes.now)) ∙ ap (start (image_of c.args.self.bytes.now)) z)

pub loop-i-preserved : goal.loop-i-preserved
loop-i-preserved c =
    let d = image_of c.args.self.bytes.now in
    let l = c.loop-i in
    let next = get_or l.starts l.i 0 + c.from.result in
    let there = get_or-set_same l.starts (l.i + 1) next 0 (omega (arith, l.invariant.0)) in
    (length-set l.starts (l.i + 1) next ∙ l.invariant.0, omega (arith, there, l.invariant.1), starts-more d l.starts l.i next (omega (arith, l.invariant.0)) (omega (arith, l.invariant.2 l.i (omega arith), start-next d l.i)) l.invariant.2)
