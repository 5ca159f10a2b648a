use Rattle.std.proofs.Common.{◌≡◌, false, is_ok, Ok, vec_items, sym, ap, ◌∙◌, w32, SFits}
use Rattle.std.proofs.lemmas.Int.{to_z-of_z}
use Rattle.geometry.specs.Plane.{label_from}
use Rattle.geometry.specs.Numbers.{present}
use Rattle.listing.proofs.Adding.{distinct-after}
use Rattle.geometry.proofs.Boxes.{label-told}
use Rattle.listing.proofs.list.LabelList.add.Goals as goal

pub invariant_of-self : goal.invariant_of-self
invariant_of-self c =
    let before = vec_items c.args.self.now.labels in
    let l = c.in_ok-label.label in
    let fx : SFits w32 c.args.x = c.ranges.x in
    let fy : SFits w32 c.args.y = c.ranges.y in
    let told : Ok l ≡ label_from c.args.number c.args.x c.args.y = simp to_z-of_z at c.in_ok-label.ensures in
    let absent : present l.number before ≡ false =
    ap (λ n. present n before) (label-told l c.args.number c.args.x c.args.y told) ∙ ap (present c.args.number) (sym c.as_slice.ensures.value) ∙ sym c.if-is_present.ensures in
    record { once = distinct-after before _ (is_ok c.push.result) l c.push.ensures.items absent c.args.self.now.once }
