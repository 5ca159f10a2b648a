use Rattle.std.proofs.Common.{◌≤◌, arith}
use Rattle.image.proofs.Scanning.{leads-before}
use Rattle.image.proofs.targets.Leads.is_in_place.Goals as goal

pub is_inside-requires : goal.is_inside-requires
is_inside-requires c =
    let l = c.args.self.now in
    let n = l.entries in
    let some : 1 ≤ c.args.e = omega (arith, c.if-e-eq0.false) in
    (omega (arith, c.unwrap_or.ensures, leads-before n.reader.bytes.now n.owners.now l.leaders n.reader.nodes n.reader.entries n.reader.sized n.owned l.led c.args.e some c.requires), c.requires)
