-- Numbers and pairs of numbers are in order.
use Rattle.std.specs.Prelude.{◌≡◌, ℕ, Bool, true, false, cond, ◌==◌, nat_lt}
use Rattle.std.proofs.Common.{arith}
use Rattle.std.proofs.lemmas.Bool.Decides.{nat_tests}
use Rattle.queue.specs.Order.{Order, by_first, smaller}
use Rattle.queue.specs.Keys.{by_key, then-weak, tells-level, decided}

pub number-order : Order nat_lt
number-order = record {
  never = λ x. grind (arith, nat_tests);
  chain = λ x y z h k. grind (arith, nat_tests);
  decides = λ x y h k. grind (arith, nat_tests);
}

pub first-order : {X Y : Type 0} {lt : X → X → Bool} {mt : Y → Y → Bool} → Order lt → Order mt → Order (by_first lt mt)
first-order {X} {Y} o p =
    let f = by_key o (λ (a : X × Y). a.0) in
    let g = by_key p (λ (a : X × Y). a.1) in
    decided (then-weak f g) (λ a b h k.
    let e = tells-level f g a b h k in
    let d = o.decides a.0 b.0 e.0 e.1 in
    let t = p.decides a.1 b.1 e.2 e.3 in
    λ i. (d i, t i))

pub pair-order : Order smaller
pair-order = first-order number-order number-order

-- by the first numbers, and by the second where the first are equal
pub smaller-told : (a b : ℕ × ℕ) → smaller a b ≡ cond (nat_lt a.0 b.0) true (cond (a.0 == b.0) (nat_lt a.1 b.1) false)
smaller-told a b = grind (arith, nat_tests)
