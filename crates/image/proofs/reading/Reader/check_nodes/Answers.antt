use Rattle.std.proofs.Common.{◌<◌, ◌≤◌, ◌⊎◌, get_or, inl, inr, arith}
use Rattle.std.proofs.lemmas.List.{take_rest}
use Rattle.geometry.specs.declared.refusal.Reason.TheVariants.{BadSize}
use Rattle.image.specs.Layout.{image_of}
use Rattle.image.specs.Checks.{node_fine}
use Rattle.image.proofs.Written.{node-good, node-bad, node-past}
use Rattle.image.proofs.Scanning.{bad-none, bad_more, scan-stops}
use Rattle.image.proofs.reading.Reader.check_nodes.Goals as goal
use Rattle.image.proofs.reading.Reader.check_nodes.Goals.{then-level-gt-TOP_LEVEL-via-then-level-gt-TOP_LEVEL, then-level-gt-TOP_LEVEL-via-else-level-gt-TOP_LEVEL+then-from-gt-SLOTS}

pub loop-i-init : goal.loop-i-init
loop-i-init c = let bs = c.args.self.bytes.now in (take_rest bs 4, bad-none (node_fine (image_of bs)))

pub loop-i-preserved : goal.loop-i-preserved
loop-i-preserved c =
    let bs = c.args.self.bytes.now in
    let l = c.loop-i in
    (node-past bs l.left.now l.i l.invariant.0, bad_more (node_fine (image_of bs)) l.i l.invariant.1 (node-good bs l.left.now l.i l.invariant.0 c.if-level-gt-TOP_LEVEL.false (omega (arith, c.from.ensures, c.if-from-gt-SLOTS.false))))

pub returns-then-level-gt-TOP_LEVEL : goal.returns-then-level-gt-TOP_LEVEL
returns-then-level-gt-TOP_LEVEL c =
    let bs = c.args.self.bytes.now in
    let l = c.loop-i in
    let bad : (7 < get_or l.left.now 0 0) ⊎ ((get_or l.left.now 0 0 ≤ 7) × (12 < get_or l.left.now 1 0)) = elim c.then-level-gt-TOP_LEVEL.branch [
      | then-level-gt-TOP_LEVEL-via-then-level-gt-TOP_LEVEL w ↦ inl w.if-level-gt-TOP_LEVEL.true
      | then-level-gt-TOP_LEVEL-via-else-level-gt-TOP_LEVEL+then-from-gt-SLOTS w ↦ inr (w.if-level-gt-TOP_LEVEL.false, omega (arith, w.from.ensures, w.if-from-gt-SLOTS.true))
    ] in
    scan-stops (node_fine (image_of bs)) (λ _. BadSize) l.i c.args.self.nodes l.invariant.1 (node-bad bs l.left.now l.i l.invariant.0 bad) c.loop-i-test.true
