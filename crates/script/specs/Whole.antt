-- Whole numbers as a script writes them.
use Rattle.std.specs.Prelude.{ℕ, ◌-◌, ◌^◌, min, cond, List, ℤ, pos, negsuc, neg_ℤ}
use Rattle.std.specs.Str.Parse.{digits_value, starts_with_minus, without_leading_sign}

-- the size that digits write, at most the largest `i64`
abbrev pub size_of : List ℕ → ℕ
size_of ds = min (digits_value 10 ds) (2 ^ 63 - 1)

-- the number that digits write, behind a sign or without one
abbrev pub whole_of : List ℕ → ℤ
whole_of bs = cond (starts_with_minus bs) (neg_ℤ (pos (size_of (without_leading_sign bs)))) (pos (size_of (without_leading_sign bs)))

-- the nearest `u32`
abbrev pub nearest_u32 : ℤ → ℕ
nearest_u32 (pos n) = min n (2 ^ 32 - 1)
nearest_u32 (negsuc n) = 0
