use Rattle.std.proofs.Common.{◌≡◌, ◌+◌, ◌≤◌, ap, ◌∙◌, arith}
use Rattle.image.specs.Layout.{image_of}
use Rattle.image.specs.Nodes.{start}
use Rattle.image.specs.Owners.{start-zero}
use Rattle.image.proofs.Scanning.{start-next, start-within, owners-more, owner-below}
use Rattle.image.proofs.reading.Reader.find_owners.Goals as goal

pub write_all-requires : goal.write_all-requires
write_all-requires c =
    let s = c.args.self in
    let d = image_of s.bytes.now in
    let i = c.loop-i.i in
    let at = c.from-from.ensures ∙ c.starts-starts.ensures i (omega (arith, c.loop-i-test.true)) in
    let end = c.from-to.ensures ∙ c.starts-starts.ensures (i + 1) (omega (arith, c.loop-i-test.true)) in
    let within = start-within d i s.nodes s.entries c.loop-i-test.true c.requires.sum in
    (omega (arith, at, end, start-next d i), omega (arith, end, start-next d i, within, c.requires.room))

pub loop-i-init : goal.loop-i-init
loop-i-init c e a b = absurd (omega (arith, start-zero (image_of c.args.self.bytes.now)))

pub loop-i-preserved : goal.loop-i-preserved
loop-i-preserved c =
    let s = c.args.self in
    let l = c.loop-i in
    let w = c.write_all in
    let at = c.from-from.ensures ∙ c.starts-starts.ensures l.i (omega (arith, c.loop-i-test.true)) in
    let end = c.from-to.ensures ∙ c.starts-starts.ensures (l.i + 1) (omega (arith, c.loop-i-test.true)) in
    owners-more (image_of s.bytes.now) l.owners w.new.list s.nodes l.i _ _ s.sized.nodes c.loop-i-test.true at end l.invariant w.ensures.before w.ensures.within

pub invariant_of-result : goal.invariant_of-result
invariant_of-result c =
    let s = c.args.self in
    let d = image_of s.bytes.now in
    let l = c.loop-i in
    let over : s.entries ≤ start d l.i = omega (arith, c.requires.sum, ap (start d) (let e : l.i ≡ s.nodes = omega arith in e)) in
    record {
      owned = record {
        enough = omega (arith, c.requires.room);
        each = λ e a b. l.invariant e a (omega (arith, over));
        below = λ e a b. omega (arith, l.invariant e a (omega (arith, over)), owner-below d s.nodes e s.entries s.sized.nodes c.requires.sum a b);
      };
    }
