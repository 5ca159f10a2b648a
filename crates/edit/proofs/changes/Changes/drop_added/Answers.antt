use Rattle.std.proofs.Common.{◌≡◌, true, not, sym, subst, rules, arith, ◌==◌}
use Rattle.arrayvec.proofs.ArrayVecLemmas.{filter-from_retain}
use Rattle.geometry.specs.Numbers.{distinct}
use Rattle.neighbours.specs.Neighbours.{others}
use Rattle.neighbours.proofs.Answering.{distinct-kept}
use Rattle.edit.proofs.changes.Changes.drop_added.Goals as goal

pub invariant_of-self : goal.invariant_of-self
invariant_of-self c =
    let before = c.args.self.now in
    let left = filter-from_retain _ (λ l. not (l.number == c.args.number)) _ (λ x b f' y called. search rules) _ _ c.retain.ensures.filtered in
    record {
      few = omega (arith, before.few, c.retain.ensures.bound);
      apart = subst (λ ls. distinct ls ≡ true) (sym left) (distinct-kept (λ l. not (l.number == c.args.number)) before.added.items before.apart);
    }

pub returns : goal.returns
unfolding others
returns c =
    let left = filter-from_retain _ (λ l. not (l.number == c.args.number)) _ (λ x b f' y called. search rules) _ _ c.retain.ensures.filtered in
    λ i. record { added = left i; withdrawn = c.args.self.now.withdrawn.items }
