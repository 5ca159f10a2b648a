use Rattle.queue.proofs.Building.{built-none, built-more}
use Rattle.queue.proofs.heapify.Goals as goal

pub loop-len-init : goal.loop-len-init
loop-len-init g c = built-none _ c.args.items.now

pub loop-len-preserved : goal.loop-len-preserved
loop-len-preserved g c =
    let l = c.loop-len in
    built-more g.met.T.Ranked.ordered c.args.items.now l.items c.push.new.items l.len c.index-items-len.result c.loop-len-test.true l.auto.items c.index-items-len.is c.push.ensures.queue l.invariant
