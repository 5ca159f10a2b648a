use Rattle.std.proofs.Common.{◌∷◌, sym, ap, ◌∙◌}
use Rattle.image.specs.Layout.{image_of}
use Rattle.image.specs.Checks.{first_of}
use Rattle.image.specs.Results.{as_result, lead_checks}
use Rattle.image.proofs.nodes.Entries.check_branches.Goals as goal

pub returns : goal.returns
returns c =
    let r = c.args.self.reader in
    let told = c.in_ok-check_targets.ensures in
    c.check.ensures ∙ ap (λ n. as_result (first_of (lead_checks (image_of n.reader.bytes.now) n.reader.nodes n.reader.entries))) told.1
    ∙ sym (ap (λ o. as_result (first_of (o ∷ lead_checks (image_of r.bytes.now) r.nodes r.entries))) told.0)
