use Rattle.std.proofs.Common.{◌-◌, ◌∷◌, sym, ap, ◌∙◌, arith}
use Rattle.queue.proofs.Popping.{popped, popped-is, drop_more}
use Rattle.queue.proofs.Sifting.{loose-agrees}
use Rattle.queue.proofs.Sorting.{drop-swapped}
use Rattle.queue.proofs.pop.Goals as goal

pub returns : goal.returns
returns g c =
    let a = c.args in
    let items = a.items.now in
    let after = c.swap.new.self in
    let first = c.index-items-0.result in
    let told = c.swap.ensures.by_index in
    record {
      told = popped-is items a.len first (omega arith) (omega arith) c.index-items-0.is;
      queue = (
        λ h. (
          popped g.met.T.Ranked.ordered items after a.len (a.len - 1) first (omega arith) c.index-items-0.is (omega arith) c.swap.ensures.len (told.0, told.1, told.2) told.3 h
              ∙ ap (λ l. first ∷ l) (sym c.sift_down.ensures.contents),
          c.sift_down.ensures.shape (loose-agrees _ items after (a.len - 1) a.len (omega arith) (λ k d z b. told.2 k d (omega arith) (omega arith)) h),
        ),
        drop_more (a.len - 1) a.len _ after (omega arith) c.sift_down.ensures.rest ∙ drop-swapped a.len items after 0 (a.len - 1) (omega arith) (omega arith) told.3 (omega arith),
      );
    }
