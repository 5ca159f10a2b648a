use Rattle.std.proofs.Common.{◌≡◌, ℕ, false, replicate, is_some, sym, ap, ◌∙◌, subst, arith}
use Rattle.std.proofs.lemmas.List.{get_or-replicate}
use Rattle.image.specs.Layout.{image_of}
use Rattle.image.specs.Nodes.{start, table_of}
use Rattle.image.specs.Checks.{verdict}
use Rattle.image.specs.Opened.{noted, opens_at}
use Rattle.image.specs.Owners.{start-zero}
use Rattle.image.proofs.Showing.{empty-fine, empty-sized, empty-shows}
use Rattle.image.proofs.store.ImageStore.new.Goals as goal

pub invariant_of-result : goal.invariant_of-result
invariant_of-result c =
    let same = sym c.refill.ensures.items in
    record {
      roomy = omega (arith, c.refill.ensures.room, c.in_ok-bytes.ensures.capacity);
      fine = subst (λ bs. is_some (verdict bs 1537) ≡ false) same empty-fine;
      sized = (empty-sized.0 ∙ ap (λ bs. (image_of bs).nodes) same, empty-sized.1 ∙ ap (λ bs. (image_of bs).entries) same);
      placed = λ i h. get_or-replicate {A = ℕ} 129 i 1 0 (omega (arith, h)) ∙ sym (start-zero (image_of c.refill.new.list.items)) ∙ ap (start (image_of c.refill.new.list.items)) (let e : 0 ≡ i = omega (arith, h) in e);
      within = ap (λ o. opens_at (image_of c.refill.new.list.items) o (noted (replicate 129 1) o)) c.new.ensures.node;
    }

pub returns : goal.returns
returns c = record { table = ap (λ bs. table_of (image_of bs)) c.refill.ensures.items ∙ empty-shows; closed = c.new.ensures.node; meter = c.new.ensures.meter }
