use Rattle.std.proofs.Common.{vec_items, sym, subst}
use Rattle.image.specs.Results.{Sized}
use Rattle.image.specs.Held.{held-sized}
use Rattle.image.proofs.store.ImageStore.reader.Goals as goal

pub invariant_of-result : goal.invariant_of-result
invariant_of-result c =
    let s = c.args.self.now in
    record { sized = subst (λ bs. Sized bs s.nodes s.entries) (sym c.as_slice.ensures.value) (held-sized (vec_items s.bytes) s.nodes s.entries s.fine s.sized.0 s.sized.1) }
