use Rattle.std.proofs.Common.{◌≡◌, ℕ, suc, ◌<◌, ◌≤◌, Bool, true, false, not, List, [], ◌∷◌, length, get_or, refl, arith, rules, ◌==◌}
use borrow.Author.Tests.{tests}
use Rattle.std.specs.Bool.{MatchBool}
use Rattle.std.specs.List.{flat_map, AllWithin, HoldsAt}
use Rattle.std.proofs.lemmas.Iterator.{cases_from_any, YieldsList-from_slice}
use Rattle.std.proofs.lemmas.List.Folds.{length-flat_map-take}
use Rattle.std.proofs.lemmas.Bool.Decides.{nat_tests}
use Rattle.index.specs.declared.slot.Slot.{Slot}
use Rattle.index.specs.declared.slot.Slot.TheVariants.{Empty}
use Rattle.index.specs.Table.{branch_in, branches_in}
use Rattle.index.specs.Laws.{is_leaf}
use Rattle.labelplan.proofs.plan.is_inner.Goals as goal

-- without a branch in any slot there is none in all of them
none : (ss : List Slot) → ((k : ℕ) (d : Slot) → k < length ss → branch_in (get_or ss k d) ≡ []) → flat_map branch_in ss ≡ []
none [] f = refl
none (s ∷ ss) f = let e : branch_in s ≡ [] = f 0 s (omega arith) in rw e (none ss (λ k d h. f (suc k) d (omega (arith, h))))

some : (n : ℕ) → 1 ≤ n → true ≡ not (n == 0)
some n h = grind (arith, nat_tests)

decided : (r : Bool) (ss : List Slot) → MatchBool r ((k : ℕ) × (k < length ss) × HoldsAt (λ s. length (branch_in s) ≡ 1) ss k) (AllWithin (λ s. branch_in s ≡ []) ss 0 (length ss)) → r ≡ not (is_leaf ss)
unfolding branches_in
decided true ss (k, h, here) = some (length (flat_map branch_in ss)) (omega (arith, length-flat_map-take branch_in ss k Empty h, here Empty))
decided false ss all = rw (none ss (λ k d h. all k d (omega arith) h)) refl

pub returns : goal.returns
returns c = decided c.any.result c.args.slots.now (cases_from_any _ _ _ (λ s. length (branch_in s) ≡ 1) (λ s. branch_in s ≡ []) c.any.ensures.ran (YieldsList-from_slice c.args.slots.now (search rules)) (λ x q k. search (rules, tests)) (λ x q k. search (rules, tests)))
