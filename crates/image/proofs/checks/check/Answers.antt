use Rattle.std.proofs.Common.{length, ◌∙◌}
use Rattle.image.proofs.Chaining.{passed-on, told-none, told-some, verdict-header, verdict-rest}
use Rattle.image.proofs.checks.check.Goals as goal

pub returns-in_err-reader : goal.returns-in_err-reader
returns-in_err-reader c =
    rw (passed-on c.from_residual.result _ c.from_residual.ensures.1) (verdict-header c.args.bytes.now (length c.args.numbers.now) c.in_err-reader.field-0.0 c.in_err-reader.ensures)

pub returns-in_err-check : goal.returns-in_err-check
returns-in_err-check c =
    let r = c.in_ok-reader.reader in
    let read = c.in_ok-reader.ensures in
    rw (passed-on c.from_residual-in_err-check.result _ c.from_residual-in_err-check.ensures.1)
    (verdict-rest c.args.bytes.now (length c.args.numbers.now) r.bytes.now r.nodes r.entries read.1 r.sized read.0 ∙ told-some _ _ c.in_err-check.ensures)

pub returns : goal.returns
returns c =
    let r = c.in_ok-reader.reader in
    let read = c.in_ok-reader.ensures in
    (verdict-rest c.args.bytes.now (length c.args.numbers.now) r.bytes.now r.nodes r.entries read.1 r.sized read.0 ∙ told-none _ _ c.in_ok-check.ensures, read.1)
