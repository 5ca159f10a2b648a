-- The gaps to a box against the differences to a place, and to a box inside.
use Rattle.std.specs.Prelude.{◌≡◌, ℕ, ◌≤◌, true, ℤ, ◌≤ℤ◌, unsigned_abs}
use Rattle.std.proofs.Common.{arith}
use Rattle.std.proofs.lemmas.Int.{ints}
use Rattle.geometry.specs.declared.place.Place.{Place}
use Rattle.geometry.specs.declared.rect.Rect.{Rect}
use Rattle.geometry.specs.Plane.{spanning, holds, covering, gap}
use Rattle.measure.specs.Formula.{apart, differences, gaps}
use Rattle.geometry.proofs.Boxes.{and_both}

-- neither number is greater
abbrev pub Below : ℕ × ℕ → ℕ × ℕ → Type 0
Below u v = (u.0 ≤ v.0) × (u.1 ≤ v.1)

apart-swap : (a b : ℤ) → apart a b ≡ apart b a
unfolding apart
apart-swap a b = omega (arith, ints)

pub gap-small : (a b z : ℤ) → unsigned_abs a ≤ 1000000 → unsigned_abs b ≤ 1000000 → unsigned_abs z ≤ 1000000 → gap a b z ≤ 2000000
unfolding gap
gap-small a b z h k l = grind (arith, ints)

gap_below : (low high p a : ℤ) → spanning low high p p ≡ true → gap low high a ≤ apart a p
unfolding gap apart
gap_below low high p a h = grind (arith, ints)

gap-inner : (low high c d a : ℤ) → c ≤ℤ d → spanning low high c d ≡ true → gap low high a ≤ gap c d a
unfolding gap
gap-inner low high c d a u h = grind (arith, ints)

pub swapped : (a b : Place) → differences a b ≡ differences b a
unfolding differences
swapped a b = λ i. (apart-swap a.x b.x i, apart-swap a.y b.y i)

pub within : (a p : Place) (b : Rect) → holds b p ≡ true → Below (gaps a b) (differences a p)
unfolding differences gaps
within a p b h = let both = and_both _ _ h in (gap_below b.west b.east p.x a.x both.0, gap_below b.south b.north p.y a.y both.1)

pub nested : (a : Place) (b c : Rect) → covering b c ≡ true → Below (gaps a b) (gaps a c)
unfolding gaps
nested a b c h = let both = and_both _ _ h in (gap-inner b.west b.east c.west c.east a.x c.upright.0 both.0, gap-inner b.south b.north c.south c.north a.y c.upright.1 both.1)
