use Rattle.std.proofs.Common.{◌+◌, ◌-◌, ◌/◌, refl, ◌∙◌, arith}
use Rattle.queue.proofs.Sorting.{sorted-swapped, drop-swapped}
use Rattle.queue.proofs.Sifting.{rise_begins, rise_steps, rise_rests, rise_tops}
use Rattle.queue.proofs.sift_up.Goals as goal

pub loop-at-init : goal.loop-at-init
loop-at-init g c = (omega arith, rise_begins _ c.args.items.now c.args.len, refl, refl)

pub returns-then-not-is_before : goal.returns-then-not-is_before
returns-then-not-is_before g c =
    let l = c.loop-at in
    record { shape = λ h. rise_rests _ l.items (c.args.len + 1) l.at c.if-not-is_before.ensures (l.invariant.1 h); contents = l.invariant.2; rest = l.invariant.3 }

pub loop-at-preserved : goal.loop-at-preserved
loop-at-preserved g c =
    let o = g.met.T.Ranked.ordered in
    let l = c.loop-at in
    let ys = c.swap.new.self in
    let parent = (l.at - 1) / 2 in
    let told = c.swap.ensures.by_index in (
      omega arith,
      λ h. rise_steps _ o l.items ys (c.args.len + 1) l.at c.loop-at-test.true (omega arith) (told.0, told.1, told.2) c.if-not-is_before.ensures (l.invariant.1 h),
      sorted-swapped o (c.args.len + 1) l.items ys l.at parent (omega arith) (omega arith) (omega arith) (omega arith) told.3 ∙ l.invariant.2,
      drop-swapped (c.args.len + 1) l.items ys l.at parent (omega arith) (omega arith) told.3 (omega arith) ∙ l.invariant.3,
    )

pub returns : goal.returns
returns g c =
    let l = c.loop-at in
    record { shape = λ h. rise_tops _ l.items (c.args.len + 1) l.at (omega arith) (l.invariant.1 h); contents = l.invariant.2; rest = l.invariant.3 }
