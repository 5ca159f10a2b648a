use Rattle.std.proofs.Common.{◌+◌, ◌<◌, length, take, set, ap, ◌∙◌, arith}
use Rattle.std.proofs.lemmas.List.{get_or-set_other, take_more_set, drop-set-lt}
use Rattle.std.proofs.lemmas.Bool.Decides.{nat_tests}
use Rattle.queue.specs.Order.{sorted}
use Rattle.queue.proofs.Sorting.{sorted-push}
use Rattle.queue.proofs.Sifting.{heap-agrees}
use Rattle.queue.proofs.push.Goals as goal

pub returns : goal.returns
returns g c =
    let a = c.args in
    let items = a.items.now in
    let lt = g.T.Ranked.precedes in
    let room : a.len < length items = omega arith in
    record {
      told = grind (arith, nat_tests);
      queue = record {
        full = λ h. absurd (omega arith);
        contents = λ _. c.sift_up.ensures.contents ∙ ap (sorted lt) (take_more_set items a.len a.x room) ∙ sorted-push g.met.T.Ranked.ordered (take a.len items) a.x;
        shape = λ _ h. c.sift_up.ensures.shape (heap-agrees _ items (set items a.len a.x) a.len (λ k d b. get_or-set_other items a.len k a.x d (omega arith)) h);
        rest = c.sift_up.ensures.rest ∙ drop-set-lt (a.len + 1) items a.len a.x (omega arith);
      };
    }
