-- Places, labels and boxes by their numbers.
use Rattle.std.specs.Prelude.{◌≡◌, ℕ, ◌≤◌, min, max, Bool, true, cond, ◌&&◌, ℤ, pos, negsuc, ◌-ℤ◌, ◌≤ℤ◌, Ok, Err, Result, int_le, int_lt, nat_le, unsigned_abs}
use Rattle.std.proofs.Common.{arith}
use Rattle.std.specs.Int.{int_min, int_max}
use Rattle.std.proofs.lemmas.Int.{ints, clamps}
use Rattle.geometry.specs.declared.place.Place.{Place}
use Rattle.geometry.specs.declared.label.Label.{Label}
use Rattle.geometry.specs.declared.rect.Rect.{Rect}
use Rattle.geometry.specs.declared.refusal.Refusal.{Refusal}
use Rattle.geometry.specs.declared.refusal.Reason.TheVariants.{BadBox, BadNumber, BadPlace}
use Rattle.geometry.specs.Refusals.{refusal}

-- a coordinate lies on the map: at most a million metres from its middle
abbrev pub in_range : ℤ → Bool
in_range z = nat_le (unsigned_abs z) 1000000

-- a label number is from 1 to 999,999,999
abbrev pub numbered : ℕ → Bool
numbered n = nat_le 1 n && nat_le n 999999999

-- the nearest coordinate that lies on the map
abbrev pub on_map : ℤ → ℤ
on_map z = int_max (negsuc 999999) (int_min z (pos 1000000))

pub on-map : (z : ℤ) → unsigned_abs (on_map z) ≤ 1000000
on-map z = omega (arith, ints, clamps)

-- the place at x and y; it has these coordinates wherever both lie on the map
unfoldable pub place_at : ℤ → ℤ → Place
place_at x y = record { x = on_map x; y = on_map y; near = (on-map x, on-map y) }

-- the place at x and y, or the refusal
abbrev pub place_from : ℤ → ℤ → Result Place Refusal
place_from x y = cond (in_range x && in_range y) (Ok (place_at x y)) (Err (refusal BadPlace 0))

-- the nearest number that a label can have
abbrev pub label_number : ℕ → ℕ
label_number n = max 1 (min n 999999999)

pub label-number : (n : ℕ) → (1 ≤ label_number n) × (label_number n ≤ 999999999)
label-number n = (omega arith, omega arith)

-- the label of number n at x and y; it has these numbers wherever all are in range
unfoldable pub label_at : ℕ → ℤ → ℤ → Label
label_at n x y = record { number = label_number n; place = place_at x y; numbered = label-number n }

-- the label of number n at x and y, or the refusal: of the number first
abbrev pub label_from : ℕ → ℤ → ℤ → Result Label Refusal
label_from n x y = cond (numbered n) (cond (in_range x && in_range y) (Ok (label_at n x y)) (Err (refusal BadPlace 0))) (Err (refusal BadNumber 0))

-- from low to high, both on the map
abbrev pub span : ℤ → ℤ → Bool
span low high = int_le low high && in_range low && in_range high

pub up_right : (low high : ℤ) → on_map low ≤ℤ int_max (on_map low) (on_map high)
up_right low high = omega (arith, ints, clamps)

pub far-on-map : (low high : ℤ) → unsigned_abs (int_max (on_map low) (on_map high)) ≤ 1000000
far-on-map low high = omega (arith, ints, clamps)

-- the box with these sides; it has them wherever west ≤ east, south ≤ north and all lie on the map
unfoldable pub rect_at : ℤ → ℤ → ℤ → ℤ → Rect
rect_at w s e n = record {
  west = on_map w;
  south = on_map s;
  east = int_max (on_map w) (on_map e);
  north = int_max (on_map s) (on_map n);
  upright = (up_right w e, up_right s n);
  near = (on-map w, on-map s, far-on-map w e, far-on-map s n);
}

-- the box of a single place
abbrev pub spot : Place → Rect
spot p = rect_at p.x p.y p.x p.y

-- the box with these sides, or the refusal
abbrev pub rect_from : ℤ → ℤ → ℤ → ℤ → Result Rect Refusal
rect_from w s e n = cond (span w e && span s n) (Ok (rect_at w s e n)) (Err (refusal BadBox 0))

-- from a to b lies between low and high
abbrev pub spanning : ℤ → ℤ → ℤ → ℤ → Bool
spanning low high a b = int_le low a && int_le b high

-- the place p lies in the box b
abbrev pub holds : Rect → Place → Bool
holds b p = spanning b.west b.east p.x p.x && spanning b.south b.north p.y p.y

-- the box c lies in the box b
abbrev pub covering : Rect → Rect → Bool
covering b c = spanning b.west b.east c.west c.east && spanning b.south b.north c.south c.north

-- the smallest box around b and c
abbrev pub around : Rect → Rect → Rect
around b c = rect_at (int_min b.west c.west) (int_min b.south c.south) (int_max b.east c.east) (int_max b.north c.north)

-- r lies around b and c, and in every box that does
pub record Smallest (r b c : Rect) : Type 0 where
  pub first : covering r b ≡ true
  pub second : covering r c ≡ true
  pub least : (a : Rect) → covering a b ≡ true → covering a c ≡ true → covering a r ≡ true

-- 0 between low and high, else the difference to the nearer of them
unfoldable pub gap : ℤ → ℤ → ℤ → ℕ
gap low high z = cond (int_lt z low) (unsigned_abs (low -ℤ z)) (cond (int_lt high z) (unsigned_abs (z -ℤ high)) 0)
