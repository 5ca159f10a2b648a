use Rattle.std.proofs.Common.{ap, ◌∙◌}
use Rattle.geometry.specs.declared.refusal.Reason.TheVariants.{BadTarget}
use Rattle.geometry.specs.Refusals.{refusal}
use Rattle.image.specs.Layout.{image_of}
use Rattle.image.specs.Checks.{unless, led_to}
use Rattle.image.specs.Results.{as_result}
use Rattle.image.proofs.Scanning.{all-fine}
use Rattle.image.proofs.targets.Leads.check_led.Goals as goal

pub returns : goal.returns
returns c =
    let r = c.args.self.now.entries.reader in
    c.refuse_unless.ensures ∙ ap (λ b. as_result (unless b (refusal BadTarget r.entries))) (c.are_all_led.ensures ∙ all-fine (led_to (image_of r.bytes.now)) r.nodes)
