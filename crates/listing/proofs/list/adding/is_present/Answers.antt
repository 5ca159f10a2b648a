use Rattle.std.proofs.Common.{◌≡◌, true, false, eqb, sym, ◌∙◌, arith}
use Rattle.std.proofs.lemmas.List.{take_all}
use Rattle.std.proofs.lemmas.List.Folds.{list_any_at, list_any_more}
use Rattle.std.proofs.lemmas.Bool.Decides.{nat_tests}
use Rattle.listing.proofs.list.adding.is_present.Goals as goal

pub returns-then-number : goal.returns-then-number
returns-then-number c =
    let l = c.l-item in
    let same : eqb l.result.number c.args.number ≡ true = grind (arith, nat_tests) in
    sym (list_any_at _ c.args.labels.now c.loop-l.l-index l.result c.loop-l-test.true (rw (sym l.is) same))

pub loop-l-preserved : goal.loop-l-preserved
loop-l-preserved c =
    let l = c.l-item in
    let other : eqb l.result.number c.args.number ≡ false = grind (arith, nat_tests) in
    list_any_more _ c.args.labels.now c.loop-l.l-index l.result c.loop-l-test.true ∙ rw (c.loop-l.invariant, sym l.is) other

pub returns : goal.returns
returns c = sym (rw (sym (take_all c.loop-l.l-index c.args.labels.now c.loop-l-test.false)) c.loop-l.invariant)
