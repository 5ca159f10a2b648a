use Rattle.std.proofs.Common.{nat_le, ap, ◌∙◌}
use Rattle.geometry.specs.declared.refusal.Reason.TheVariants.{ShortWorkList}
use Rattle.geometry.specs.Refusals.{refusal}
use Rattle.image.specs.Layout.{image_of}
use Rattle.image.specs.Checks.{unless}
use Rattle.image.specs.Results.{as_result}
use Rattle.image.proofs.Scanning.{labels-counted}
use Rattle.image.proofs.nodes.Entries.check_room.Goals as goal

pub returns : goal.returns
returns c =
    let r = c.args.self.reader in
    let counted = c.label_count-count.ensures ∙ labels-counted (image_of r.bytes.now) r.entries r.sized.entries in
    c.refuse_unless.ensures ∙ ap (λ n. as_result (unless (nat_le n c.args.room) (refusal ShortWorkList n))) counted
