use Rattle.std.proofs.Common.{◌≡◌, Ok, w32, SFits, sym, ap, ◌∙◌}
use Rattle.std.proofs.lemmas.Int.{to_z-of_z}
use Rattle.geometry.specs.Numbers.{present}
use Rattle.geometry.specs.Plane.{label_from}
use Rattle.geometry.proofs.Boxes.{label-told}
use Rattle.edit.specs.Showing.{layer_of, held}
use Rattle.edit.proofs.Changed.{not-added, add-told}
use Rattle.edit.proofs.edit.Edit.put.Goals as goal

pub add-requires : goal.add-requires
add-requires g c =
    let fx : SFits w32 c.args.x = c.ranges.x in
    let fy : SFits w32 c.args.y = c.ranges.y in
    let label = c.in_ok-label.label in
    let told : Ok label ≡ label_from c.args.number c.args.x c.args.y = simp to_z-of_z at c.in_ok-label.ensures in
    let l = layer_of c.args.self.now.changes in
    let t = g.S.NodeStore.table c.args.self.now.below in
    ap (λ n. present n c.has.new.self.changes.added.items) (label-told label c.args.number c.args.x c.args.y told)
    ∙ ap (λ k. present c.args.number k.added.items) c.has.ensures.changes
    ∙ not-added l t c.args.number (sym c.if-is_closed.ensures) (sym c.if-has.ensures.value)

pub returns-clause-told : goal.returns-clause-told
returns-clause-told g c =
    let fx : SFits w32 c.args.x = c.ranges.x in
    let fy : SFits w32 c.args.y = c.ranges.y in
    let label = c.in_ok-label.label in
    let told : Ok label ≡ label_from c.args.number c.args.x c.args.y = simp to_z-of_z at c.in_ok-label.ensures in
    let l = layer_of c.args.self.now.changes in
    let t = g.S.NodeStore.table c.args.self.now.below in
    c.add.ensures.told ∙ ap (λ k. held k.added.items) c.has.ensures.changes
    ∙ add-told t l label c.args.number c.args.x c.args.y (sym c.if-is_closed.ensures) told (sym c.if-has.ensures.value)
