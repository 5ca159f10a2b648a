use Rattle.std.proofs.Common.{◌≡◌, ℕ, ◌+◌, ◌-◌, ◌*◌, ◌^◌, min, true, get_or, take, sym, arith, rules}
use Rattle.std.specs.Str.Parse.{digits_value}
use Rattle.std.specs.Char.{is_ascii_digit, digit_value}
use Rattle.std.proofs.lemmas.Int.Digits.{digits_value_more, digits_more}
use Rattle.std.proofs.lemmas.Str.Parse.{digit_at}
use Rattle.std.proofs.lemmas.Bool.Decides.{nat_tests}
use Rattle.script.proofs.number.size.Goals as goal

digit-is : (b : ℕ) → is_ascii_digit b ≡ true → digit_value b ≡ b - 48
digit-is b h = grind (arith, nat_tests)

-- saturating at each step is saturating at the end
one_more : (v n m d r : ℕ) → n ≡ min v (2 ^ 64 - 1) → m ≡ min (n * 10) (2 ^ 64 - 1) → r ≡ min (m + d) (2 ^ 64 - 1) → r ≡ min (v * 10 + d) (2 ^ 64 - 1)
one_more v n m d r p q s = grind arith

pub returns-then-not-is_ascii_digit : goal.returns-then-not-is_ascii_digit
returns-then-not-is_ascii_digit c = λ h. search (rules, digit_at c.args.digits.now c.loop-d.d-index h.1 c.loop-d-test.true)

pub loop-d-preserved : goal.loop-d-preserved
loop-d-preserved c =
    let e = digits_value_more 10 c.args.digits.now c.loop-d.d-index c.loop-d-test.true in
    let s = digit-is (get_or c.args.digits.now c.loop-d.d-index 0) (sym c.if-not-is_ascii_digit.ensures.value) in
    let o = one_more (digits_value 10 (take c.loop-d.d-index c.args.digits.now)) _ _ _ _ c.loop-d.invariant.1 c.saturating_mul.ensures c.saturating_add-n.ensures in (
      digits_more 10 c.args.digits.now c.loop-d.d-index c.loop-d-test.true c.loop-d.invariant.0 c.if-not-is_ascii_digit.ensures.bound,
      cc,
    )
