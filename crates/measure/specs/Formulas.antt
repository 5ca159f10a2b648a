-- Each formula grows with the differences.
use Rattle.std.specs.Prelude.{◌≡◌, ℕ, false, nat_lt}
use Rattle.std.proofs.Common.{mul-le-mul, arith}
use Rattle.std.proofs.lemmas.Bool.Decides.{nat_tests}
use Rattle.queue.specs.Order.{smaller}
use Rattle.measure.specs.Formula.{straight, street, tile}
use Rattle.measure.specs.Gaps.{Below}

pub straight-grows : (u v : ℕ × ℕ) → Below u v → nat_lt (straight v) (straight u) ≡ false
straight-grows u v h =
    let x = mul-le-mul h.0 h.0 in
    let y = mul-le-mul h.1 h.1 in
    grind (arith, nat_tests)

pub street-grows : (u v : ℕ × ℕ) → Below u v → nat_lt (street v) (street u) ≡ false
street-grows u v h = grind (arith, nat_tests)

pub tile-grows : (u v : ℕ × ℕ) → Below u v → smaller (tile v) (tile u) ≡ false
tile-grows u v h = grind (arith, nat_tests)
