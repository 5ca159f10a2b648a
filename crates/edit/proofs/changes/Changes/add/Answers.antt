use Rattle.std.proofs.Common.{◌≡◌, true, sym, subst, arith}
use Rattle.std.proofs.lemmas.Bool.Decides.{nat_tests}
use Rattle.geometry.specs.Numbers.{distinct}
use Rattle.geometry.proofs.Present.{distinct_push}
use Rattle.edit.proofs.changes.Changes.add.Goals as goal

pub invariant_of-self : goal.invariant_of-self
invariant_of-self c =
    let before = c.args.self.now in
    record {
      few = grind (arith, nat_tests);
      apart = subst (λ ls. distinct ls ≡ true) (sym c.push.ensures.items) (distinct_push before.added.items c.args.label c.requires before.apart);
    }
