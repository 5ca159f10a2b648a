use Rattle.std.proofs.Common.{refl, ◌∙◌, arith}
use Rattle.queue.proofs.Sorting.{sorted-swapped, drop-swapped}
use Rattle.queue.proofs.Sifting.{sink_begins, sink_steps, sink_rests, sink_ends}
use Rattle.queue.proofs.sift_down.Goals as goal

pub loop-at-init : goal.loop-at-init
loop-at-init g c = (sink_begins _ c.args.items.now c.args.len, refl, refl)

pub returns-then-not-is_before : goal.returns-then-not-is_before
returns-then-not-is_before g c =
    let l = c.loop-at in
    let least = c.least_child-child in
    record {
      shape = λ h. sink_rests _ g.met.T.Ranked.ordered l.items c.args.len l.at least.result least.ensures.least c.if-not-is_before.ensures (l.invariant.0 h);
      contents = l.invariant.1;
      rest = l.invariant.2;
    }

pub loop-at-preserved : goal.loop-at-preserved
loop-at-preserved g c =
    let o = g.met.T.Ranked.ordered in
    let l = c.loop-at in
    let least = c.least_child-child in
    let ys = c.swap.new.self in
    let told = c.swap.ensures.by_index in (
      λ h. sink_steps _ o l.items ys c.args.len l.at least.result (omega arith) (omega arith) (omega arith) (told.0, told.1, told.2) least.ensures.least c.if-not-is_before.ensures (l.invariant.0 h),
      sorted-swapped o c.args.len l.items ys l.at least.result (omega arith) (omega arith) (omega arith) (omega arith) told.3 ∙ l.invariant.1,
      drop-swapped c.args.len l.items ys l.at least.result (omega arith) (omega arith) told.3 (omega arith) ∙ l.invariant.2,
    )

pub returns : goal.returns
returns g c =
    let l = c.loop-at in
    record { shape = λ h. sink_ends _ l.items c.args.len l.at (omega arith) (l.invariant.0 h); contents = l.invariant.1; rest = l.invariant.2 }
