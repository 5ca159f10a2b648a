use Rattle.std.proofs.Common.{◌≡◌, ◌≤◌, length, sym, arith, rules}
use Rattle.image.specs.Layout.{two, image_length}
use Rattle.image.proofs.Chaining.{rest-length, header-sizes, header-long, header-fine}
use Rattle.image.proofs.checks.read_sizes.Goals.{After-from-entries}
use Rattle.image.proofs.checks.read_sizes.Goals as goal

-- the header's two numbers were read
read : (c : After-from-entries) → (4 ≤ length c.args.bytes.now) × (c.from-nodes.result ≡ two c.args.bytes.now 0) × (c.from-entries.result ≡ two c.args.bytes.now 2)
read c = (search rules, search rules, search rules)

pub returns-then-not-is_in_size : goal.returns-then-not-is_in_size
returns-then-not-is_in_size c =
    let r = read (goal.at.returns-then-not-is_in_size c).After-from-entries in
    rw c.into.ensures (header-sizes c.args.bytes.now _ _ r.0 r.1 r.2 (sym c.if-not-is_in_size.ensures))

pub returns-then-rest-nodes : goal.returns-then-rest-nodes
returns-then-rest-nodes c =
    let bs = c.args.bytes.now in
    let r = read (goal.at.returns-then-rest-nodes c).After-from-entries in
    header-long bs _ _ r.0 r.1 r.2 (sym c.if-not-is_in_size.ensures) (λ e. c.if-rest-nodes.true (omega (arith, rest-length bs, e)))

pub invariant_of-result : goal.invariant_of-result
invariant_of-result c =
    let bs = c.args.bytes.now in
    let r = read (goal.at.invariant_of-result c).After-from-entries in
    let whole : length bs ≡ image_length c.from-nodes.result c.from-entries.result = omega (arith, rest-length bs, c.if-rest-nodes.false) in
    record { sized = (header-fine bs _ _ r.0 r.1 r.2 (sym c.if-not-is_in_size.ensures) whole).1 }
