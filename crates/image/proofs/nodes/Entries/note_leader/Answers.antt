use Rattle.std.proofs.Common.{ℕ, ◌+◌, ◌≤◌, set, Some, sym, subst, arith}
use Rattle.image.specs.Layout.{image_of}
use Rattle.image.specs.Results.{Led}
use Rattle.image.proofs.Scanning.{led-branch, led-leaf, led-root}
use Rattle.image.proofs.nodes.Entries.note_leader.Goals as goal
use Rattle.image.proofs.nodes.Entries.note_leader.Goals.{else-e-ge1-via-then-e-ge1+else-not-is_leaf_entry, else-e-ge1-via-else-e-ge1}

pub returns-then-not-is_leaf_entry : goal.returns-then-not-is_leaf_entry
returns-then-not-is_leaf_entry c =
    let bs = c.args.self.reader.bytes.now in
    let few : (image_of bs).nodes ≤ 128 = omega arith in
    let P : ℕ → Type 0 = λ to. Led bs (set c.args.leaders.now to (Some c.args.e)) (c.args.e + 1) in
    subst P (sym c.target.ensures) (led-branch bs c.args.leaders.now c.args.e c.requires.led c.if-e-ge1.true (sym c.if-not-is_leaf_entry.ensures) c.requires.fine few)

pub returns-else-e-ge1 : goal.returns-else-e-ge1
returns-else-e-ge1 c =
    let bs = c.args.self.reader.bytes.now in
    elim c.else-e-ge1.branch [
      | else-e-ge1-via-then-e-ge1+else-not-is_leaf_entry w ↦ led-leaf bs c.args.leaders.now c.args.e c.requires.led (sym w.if-not-is_leaf_entry.ensures)
      | else-e-ge1-via-else-e-ge1 w ↦ led-root bs c.args.leaders.now c.args.e c.requires.led w.if-e-ge1.false
    ]
