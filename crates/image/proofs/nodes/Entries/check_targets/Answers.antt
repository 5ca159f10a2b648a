use Rattle.std.proofs.Common.{Some, sym, ap, ◌∙◌}
use Rattle.geometry.specs.Refusals.{refusal}
use Rattle.image.specs.Layout.{image_of}
use Rattle.image.specs.Checks.{at_first, target_fine, target_reason}
use Rattle.image.proofs.Scanning.{bad-none, bad_more, bad-found}
use Rattle.image.proofs.Chaining.{led-none}
use Rattle.image.proofs.nodes.Entries.check_targets.Goals as goal

pub loop-e-init : goal.loop-e-init
loop-e-init c = let bs = c.args.self.reader.bytes.now in (bad-none (target_fine (image_of bs)), led-none bs)

pub loop-e-preserved : goal.loop-e-preserved
loop-e-preserved c = (bad_more (target_fine (image_of c.args.self.reader.bytes.now)) c.loop-e.e c.loop-e.invariant.0 (sym c.if-not-is_target_fine.ensures), c.note_leader.ensures)

pub returns-then-not-is_target_fine : goal.returns-then-not-is_target_fine
returns-then-not-is_target_fine c =
    let r = c.args.self.reader in
    let d = image_of r.bytes.now in
    let e = c.loop-e.e in
    let found = bad-found (target_fine d) e r.entries c.loop-e.invariant.0 (sym c.if-not-is_target_fine.ensures) c.loop-e-test.true in
    ap (λ o. at_first o (target_reason d)) found ∙ ap (λ why. Some (refusal why e)) (sym c.target_reason.ensures)
