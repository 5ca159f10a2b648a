use Rattle.std.proofs.Common.{◌+◌, ◌<◌, sym, ◌∙◌, arith, rules}
use Rattle.image.specs.Layout.{image_of}
use Rattle.image.specs.Held.{slot-past}
use Rattle.image.proofs.Slotting.{slot-there, slot-label, slot-branch}
use Rattle.image.proofs.reading.Reader.slot.Goals.{Start}
use Rattle.image.proofs.reading.Reader.slot.Goals as goal

pub returns-then-j-from : goal.returns-then-j-from
returns-then-j-from c = sym (slot-past (image_of c.args.self.bytes.now) c.args.i c.args.j (omega arith))

-- the entry of a slot that holds one is an entry of the image
there : (c : Start) → c.args.j < (image_of c.args.self.bytes.now).count c.args.i → c.args.first + c.args.j < c.args.self.entries
there c = let a = c.args in slot-there a.self.bytes.now a.self.nodes a.self.entries a.i a.first a.j a.self.sized c.requires.fine c.requires.node

pub overflow_add-first : goal.overflow_add-first
overflow_add-first c = let within = there (goal.at.overflow_add-first c).Start (omega arith) in search rules

pub overflow_add-first-else-level-eq0 : goal.overflow_add-first-else-level-eq0
overflow_add-first-else-level-eq0 c = let within = there (goal.at.overflow_add-first-else-level-eq0 c).Start (omega arith) in search rules

pub label_slot-requires : goal.label_slot-requires
label_slot-requires c = there (goal.at.label_slot-requires c).Start (omega arith)

pub branch_slot-requires : goal.branch_slot-requires
branch_slot-requires c = there (goal.at.branch_slot-requires c).Start (omega arith)

pub returns-then-level-eq0 : goal.returns-then-level-eq0
returns-then-level-eq0 c =
    let a = c.args in
    c.label_slot.ensures ∙ slot-label a.self.bytes.now a.self.nodes a.self.entries a.i a.first a.j a.self.sized c.requires.fine c.requires.node (omega arith) (omega arith)

pub returns-else-level-eq0 : goal.returns-else-level-eq0
returns-else-level-eq0 c =
    let a = c.args in
    c.branch_slot.ensures ∙ slot-branch a.self.bytes.now a.self.nodes a.self.entries a.i a.first a.j a.self.sized c.requires.fine c.requires.node (omega arith) (λ z. c.if-level-eq0.false (c.level.ensures ∙ z))
