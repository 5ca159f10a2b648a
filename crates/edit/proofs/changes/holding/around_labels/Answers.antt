use Rattle.std.proofs.Common.{sym, ◌∙◌, rules}
use Rattle.edit.proofs.Spread.{spread-more, spread-all}
use Rattle.edit.proofs.changes.holding.around_labels.Goals as goal

pub loop-label-preserved : goal.loop-label-preserved
loop-label-preserved c = spread-more _ c.around-around.result c.args.labels.now c.loop-label.label-index c.label-item.result c.loop-label-test.true c.label-item.is (search rules) ∙ c.loop-label.invariant

pub returns : goal.returns
returns c = sym (spread-all c.loop-label.around c.args.labels.now c.loop-label.label-index c.loop-label-test.false) ∙ c.loop-label.invariant
