use Rattle.std.proofs.Common.{◌≡◌, false, length, is_some, is_ok, sym, refl, ap, ◌∙◌, subst}
use Rattle.std.proofs.lemmas.Bool.{both_ways}
use Rattle.index.specs.Laws.{Lawful}
use Rattle.image.specs.Layout.{image_of}
use Rattle.image.specs.Nodes.{table_of}
use Rattle.image.specs.Checks.{verdict}
use Rattle.image.specs.Results.{as_result}
use Rattle.image.specs.Store.{HasEntries}
use Rattle.image.specs.Exactly.{accepted, accepted-obeys, obeys-accepted}
use Rattle.image.specs.Lawfulness.{lawful-table}
use Rattle.image.proofs.Chaining.{passed-on}
use Rattle.image.proofs.Showing.{accepted-roomy, has-entries}
use Rattle.image.proofs.store.ImageStore.open_image.Goals as goal

pub returns-in_err-reader-clause-exactly : goal.returns-in_err-reader-clause-exactly
returns-in_err-reader-clause-exactly c fits =
    let bs = c.args.bytes.now in
    let room = length c.args.numbers.now in
    let p = passed-on c.from_residual.result _ c.from_residual.ensures.1 in
    let told : c.from_residual.result ≡ as_result (verdict bs room) = p ∙ ap as_result (sym c.in_err-reader.ensures) in
    (λ h. absurd (both_ways (is_ok c.from_residual.result) (ap is_ok p) h), λ o. ap is_ok told ∙ ap (λ v. is_ok (as_result v)) (obeys-accepted bs room fits o))

pub invariant_of-self-clause-fine : goal.invariant_of-self-clause-fine
invariant_of-self-clause-fine c =
    subst (λ l. is_some (verdict l 1537) ≡ false) (sym c.refill.ensures.items) (ap is_some (accepted-roomy c.args.bytes.now (length c.args.numbers.now) c.in_ok-reader.ensures.0))

pub returns-clause-exactly : goal.returns-clause-exactly
returns-clause-exactly c fits =
    let bs = c.args.bytes.now in
    let room = length c.args.numbers.now in
    (λ _. accepted-obeys bs room c.in_ok-reader.ensures.0, λ _. refl)

pub returns-clause-lawful : goal.returns-clause-lawful
returns-clause-lawful c h =
    let bs = c.args.bytes.now in
    let room = length c.args.numbers.now in
    let none = c.in_ok-reader.ensures.0 in
    let same = sym c.refill.ensures.items in (
      subst (λ l. Lawful (table_of (image_of l))) same (lawful-table (image_of bs) (accepted (image_of bs) (length bs) room none).passed),
      subst (λ l. HasEntries (image_of bs) (table_of (image_of l))) same (has-entries bs room none),
    )
