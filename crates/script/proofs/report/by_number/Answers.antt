use Rattle.std.proofs.Common.{◌≡◌, ℕ, ◌+◌, ◌≤◌, false, map, Ok, get_or, ℤ, vec_items, refl, arith, rules}
use Rattle.std.specs.declared.cmp.Ordering.{Ordering}
use Rattle.std.specs.declared.cmp.Ordering.TheVariants.{Less, Equal, Greater}
use Rattle.std.specs.Ordering.{is_lt, nat_cmp, int_cmp, ordering_then}
use Rattle.std.proofs.lemmas.Map.Keys.{ge_from_not_lt}
use Rattle.std.proofs.lemmas.Iterator.{items_from_collect, YieldsList-from_map, YieldsList-from_slice}
use Rattle.std.proofs.lemmas.List.Sorted.{IsNonDecreasingBy-from_all_adjacent}
use Rattle.std.proofs.lemmas.Int.{to_z-of_z}
use Rattle.script.specs.Report.{listed}
use Rattle.script.proofs.report.by_number.Goals as goal

-- where orders one after another do not say less, the first of them does not
unled : (o p q : Ordering) → is_lt (ordering_then (ordering_then o p) q) ≡ false → is_lt o ≡ false
unled Less p q h = h
unled Equal p q h = refl
unled Greater p q h = refl

-- where y does not come before x, its number is not less
low : (x y : ℕ × ℤ × ℤ) → is_lt (ordering_then (ordering_then (nat_cmp y.0 x.0) (int_cmp y.1 x.1)) (int_cmp y.2 x.2)) ≡ false → x.0 ≤ y.0
low x y h = ge_from_not_lt y.0 x.0 (unled (nat_cmp y.0 x.0) _ _ h)

pub returns : goal.returns
returns c =
    let all : vec_items c.in_ok-listed.listed ≡ map listed c.args.labels.now = items_from_collect {E = ℕ} (Ok c.in_ok-listed.listed) c.in_ok-listed.ensures.ran (YieldsList-from_map _ listed (YieldsList-from_slice c.args.labels.now (search rules)) c.map.ensures.closure (λ x r q k. search (rules, to_z-of_z))) in
    let up = c.sort_unstable.ensures.sorted in record {
      same = rw all at c.sort_unstable.ensures.permutation;
      rising = IsNonDecreasingBy-from_all_adjacent (λ e. e.0) (vec_items c.sort_unstable.new.self) (λ k d h. low (get_or (vec_items c.sort_unstable.new.self) k d) (get_or (vec_items c.sort_unstable.new.self) (k + 1) d) (up k d (omega arith) (search rules)));
    }
