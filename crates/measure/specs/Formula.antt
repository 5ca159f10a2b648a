-- Distances by the differences in x and in y.
use Rattle.std.specs.Prelude.{ℕ, ◌+◌, ◌*◌, min, max, ℤ, ◌-ℤ◌, unsigned_abs}
use Rattle.geometry.specs.declared.place.Place.{Place}
use Rattle.geometry.specs.declared.rect.Rect.{Rect}
use Rattle.geometry.specs.Plane.{gap}

-- the difference of two coordinates
unfoldable pub apart : ℤ → ℤ → ℕ
apart a b = unsigned_abs (a -ℤ b)

-- the differences of two places, in x and in y
unfoldable pub differences : Place → Place → ℕ × ℕ
differences a b = (apart a.x b.x, apart a.y b.y)

-- the gaps of a place to a box, in x and in y
unfoldable pub gaps : Place → Rect → ℕ × ℕ
gaps a b = (gap b.west b.east a.x, gap b.south b.north a.y)

-- the sum of the squares
abbrev pub straight : ℕ × ℕ → ℕ
straight d = d.0 * d.0 + d.1 * d.1

-- the sum
abbrev pub street : ℕ × ℕ → ℕ
street d = d.0 + d.1

-- the larger, then the smaller
abbrev pub tile : ℕ × ℕ → ℕ × ℕ
tile d = (max d.0 d.1, min d.0 d.1)
