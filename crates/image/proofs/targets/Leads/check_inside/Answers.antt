use Rattle.std.proofs.Common.{◌≡◌, true, false, ap, ◌∙◌, rules}
use Rattle.std.proofs.lemmas.Iterator.{first_from_Range}
use borrow.Author.Tests.{tests}
use Rattle.geometry.specs.declared.refusal.Reason.TheVariants.{OutsideBox}
use Rattle.image.specs.Layout.{image_of}
use Rattle.image.specs.Checks.{at_first, inside_fine}
use Rattle.image.specs.Results.{as_result}
use Rattle.image.proofs.Scanning.{find-bad}
use Rattle.image.proofs.targets.Leads.check_inside.Goals as goal

pub returns : goal.returns
returns c =
    let r = c.args.self.now.entries.reader in
    let f = inside_fine (image_of r.bytes.now) in
    let found = first_from_Range _ _ _ c.find.result (λ e. f e ≡ false) (λ e. f e ≡ true) c.find.ensures.ran (λ x q k. search (rules, tests)) (λ x q k. search (rules, tests)) in
    c.refuse_at.ensures ∙ ap (λ o. as_result (at_first o (λ _. OutsideBox))) (find-bad f r.entries c.find.result found)
