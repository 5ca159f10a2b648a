use Rattle.std.proofs.Common.{ltb, take, ◌∙◌}
use Rattle.queue.specs.Order.{sorted}
use Rattle.image.specs.Checks.{repeated_from}
use Rattle.image.proofs.Queueing.{repeating-empty, repeating-first, repeating-none}
use Rattle.image.proofs.numbers.first_repeated.Goals as goal

pub returns-in_default : goal.returns-in_default
returns-in_default c = repeating-empty c.args.items.now c.args.len c.in_default.ensures.told c.requires.1

pub returns : goal.returns
returns c =
    let p = c.in-Some.ensures in
    let l = c.loop-x in
    let first = repeating-first c.args.items.now c.pop.new.items c.args.len c.in-Some.first c.in-Some.rest p.told p.queue c.pop.auto.items c.requires.0 in
    repeating-none l.items l.last l.left (repeated_from c.in-Some.first (sorted ltb (take c.in-Some.rest c.pop.new.items))) c.in_default-pop.ensures.told l.invariant ∙ first.same
