use Rattle.std.proofs.Common.{◌≡◌, ◌-◌, true, false, get_or, vec_items, sym, ap, ◌∙◌, subst, arith}
use Rattle.queue.proofs.Popping.{popped-none, popped-some}
use Rattle.listing.specs.Neighbours.{nearer, nearest}
use Rattle.listing.specs.Walking.{Walked, walked_more, walked-stops, walked_all, nearest-alike}
use Rattle.listing.proofs.list.nearest.take_nearest.Goals as goal
use Rattle.listing.proofs.list.nearest.take_nearest.Goals.{in-Some+then-is_past, in_default}

pub loop-x-preserved : goal.loop-x-preserved
loop-x-preserved g c =
    let l = c.loop-x in
    let x = c.in-Some.x in
    let got = vec_items l.nearest in
    let after = c.pop.new.items in
    let rest = c.in-Some.rest in
    let popped = c.in-Some.ensures in
    let q = popped.queue.0 l.invariant.shape in
    let told = popped-some l.items l.len (x, rest) popped.told in
    let near : nearer g.D.Ranked.precedes (get_or got (c.args.k - 1) x) x ≡ false = ap (λ ns. nearer g.D.Ranked.precedes (get_or ns (c.args.k - 1) x) x) (sym c.as_slice.ensures.value) ∙ sym c.if-is_past.ensures in
    subst (λ ns. Walked g.D.Ranked.precedes c.args.k c.heapify.new.items ns after rest) (sym c.in_ok-push.ensures.items)
    (walked_more g.met.D.Ranked.ordered c.args.k c.heapify.new.items got l.items after l.len rest x l.invariant q.0 c.requires q.1 (omega arith) near)

pub returns : goal.returns
returns g c =
    let o = g.met.D.Ranked.ordered in
    let l = c.loop-x in
    let k = c.args.k in
    let heap = c.heapify.new.items in
    let got = vec_items l.nearest in
    let all-got : got ≡ nearest g.D.Ranked.precedes k heap = elim c.match-pop.branch [
      | in-Some+then-is_past v ↦
          let x = v.in-Some.x in
          let near : nearer g.D.Ranked.precedes (get_or got (k - 1) x) x ≡ true = ap (λ ns. nearer g.D.Ranked.precedes (get_or ns (k - 1) x) x) (sym v.as_slice.ensures.value) ∙ sym v.if-is_past.ensures in
          walked-stops o k heap got l.items c.pop.new.items l.len v.in-Some.rest x l.invariant (v.in-Some.ensures.queue.0 l.invariant.shape).0 c.requires near
      | in_default v ↦ walked_all o k heap got l.items l.len l.invariant (popped-none l.items l.len v.in_default.ensures.told l.invariant.within)
    ] in
    all-got ∙ nearest-alike o k heap c.args.items.now c.heapify.ensures.contents
