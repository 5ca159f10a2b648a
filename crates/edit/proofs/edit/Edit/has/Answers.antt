use Rattle.std.proofs.Common.{not, sym, ap, ◌∙◌}
use Rattle.std.proofs.lemmas.Bool.{or_left}
use Rattle.geometry.specs.Numbers.{present}
use Rattle.index.specs.Table.{plan}
use Rattle.edit.specs.Showing.{layer_of}
use Rattle.edit.proofs.Changed.{present-shown, present-below, absent-hidden}
use Rattle.edit.proofs.edit.Edit.has.Goals as goal

pub returns-then-adds-clause-value : goal.returns-then-adds-clause-value
returns-then-adds-clause-value g c =
    let l = layer_of c.args.self.now.changes in
    let t = g.S.NodeStore.table c.args.self.now.below in
    sym (present-shown l t c.args.number c.requires ∙ or_left (present c.args.number l.added) _ (sym c.if-adds.ensures))

pub returns-then-not-hides-clause-value : goal.returns-then-not-hides-clause-value
returns-then-not-hides-clause-value g c =
    let l = layer_of c.args.self.now.changes in
    let t = g.S.NodeStore.table c.args.self.now.below in
    c.has_number.ensures.value ∙ ap (λ u. present c.args.number (plan u)) c.zero.ensures.table ∙ sym (present-below l t c.args.number c.requires (sym c.if-adds.ensures) (sym c.if-not-hides.ensures))

pub returns-else-not-hides-clause-value : goal.returns-else-not-hides-clause-value
returns-else-not-hides-clause-value g c =
    let l = layer_of c.args.self.now.changes in
    let t = g.S.NodeStore.table c.args.self.now.below in
    ap not c.if-not-hides.false ∙ sym (absent-hidden l t c.args.number c.requires (sym c.if-adds.ensures) (sym c.if-not-hides.ensures))
