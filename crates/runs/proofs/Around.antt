-- The boxes of a layer: the smallest box around labels holds each of them.
use Rattle.std.proofs.Common.{◌≡◌, ◌≤◌, true, List, [], ◌∷◌, ◌&&◌, ℤ, nat_abs, ◌≤ℤ◌, arith, sym, ◌∙◌}
use Rattle.std.specs.Int.{int_min, int_max}
use Rattle.std.specs.List.{AllByRecursion}
use Rattle.std.proofs.lemmas.Int.{ints, clamps}
use Rattle.std.proofs.lemmas.Bool.{and_from, and_parts}
use Rattle.std.proofs.lemmas.Bool.Decides.{nat_tests}
use Rattle.geometry.specs.declared.place.Place.{Place}
use Rattle.geometry.specs.declared.label.Label.{Label}
use Rattle.geometry.specs.declared.rect.Rect.{Rect}
use Rattle.geometry.specs.Plane.{span, spot, spanning, holds, covering, around, Smallest}
use Rattle.geometry.proofs.Boxes.{rect-at, smallest}
use Rattle.runs.specs.Layers.{around_labels, added_box}

near-span : (low high : ℤ) → low ≤ℤ high → nat_abs low ≤ 1000000 → nat_abs high ≤ 1000000 → span low high ≡ true
near-span low high h k l = grind (arith, ints, nat_tests)

-- the outer ends of two spans
outer-span : (a b c d : ℤ) → a ≤ℤ b → nat_abs a ≤ 1000000 → nat_abs b ≤ 1000000 → nat_abs c ≤ 1000000 → nat_abs d ≤ 1000000 → span (int_min a c) (int_max b d) ≡ true
outer-span a b c d h p q r s = near-span (int_min a c) (int_max b d) (omega (arith, ints, clamps)) (omega (arith, ints, clamps)) (omega (arith, ints, clamps))

pub around-smallest : (b c : Rect) → Smallest (around b c) b c
around-smallest b c =
    let sides = rect-at (int_min b.west c.west) (int_min b.south c.south) (int_max b.east c.east) (int_max b.north c.north)
    (outer-span b.west b.east c.west c.east b.upright.0 b.near.0 b.near.2 c.near.0 c.near.2)
    (outer-span b.south b.north c.south c.north b.upright.1 b.near.1 b.near.3 c.near.1 c.near.3) in
    smallest (around b c) b c sides.0 sides.1 sides.2 sides.3

axis-self : (low high : ℤ) → spanning low high low high ≡ true
axis-self low high = grind (arith, ints)

axis-chain : (a b c d e f : ℤ) → spanning a b c d ≡ true → spanning c d e f ≡ true → spanning a b e f ≡ true
axis-chain a b c d e f h k = grind (arith, ints)

covers-self : (b : Rect) → covering b b ≡ true
covers-self b = and_from _ _ (axis-self b.west b.east) (axis-self b.south b.north)

pub covers-chain : (a b c : Rect) → covering a b ≡ true → covering b c ≡ true → covering a c ≡ true
covers-chain a b c h k =
    let h' = and_parts _ _ h in
    let k' = and_parts _ _ k in
    and_from _ _ (axis-chain a.west a.east b.west b.east c.west c.east h'.0 k'.0) (axis-chain a.south a.north b.south b.north c.south c.north h'.1 k'.1)

-- a box that covers the box of a place holds the place
holds-spot : (b : Rect) (p : Place) → covering b (spot p) ≡ true → holds b p ≡ true
holds-spot b p h =
    let sides = rect-at p.x p.y p.x p.y (near-span p.x p.x (omega (arith, ints)) p.near.0 p.near.0) (near-span p.y p.y (omega (arith, ints)) p.near.1 p.near.1) in
    (λ i. spanning b.west b.east (sym sides.0 i) (sym sides.2 i) && spanning b.south b.north (sym sides.1 i) (sym sides.3 i)) ∙ h

-- the box around a box and labels covers the box and holds the labels
pub labels-around : (b : Rect) (ls : List Label) → (covering (around_labels b ls) b ≡ true) × AllByRecursion (λ l. holds (around_labels b ls) l.place ≡ true) ls
unfolding around_labels
labels-around b [] = (covers-self b, tt)
labels-around b (l ∷ ls) =
    let one = around b (spot l.place) in
    let all = around_labels one ls in
    let rest = labels-around one ls in
    let both = around-smallest b (spot l.place) in
    (covers-chain all one b rest.0 both.first, (holds-spot all l.place (covers-chain all one (spot l.place) rest.0 both.second), rest.1))

-- the box of the added labels holds each of them
pub added-held : (ls : List Label) (below : Rect) → AllByRecursion (λ l. holds (added_box ls below) l.place ≡ true) ls
added-held [] below = tt
added-held (l ∷ ls) below = let rest = labels-around (spot l.place) ls in (holds-spot (around_labels (spot l.place) ls) l.place rest.0, rest.1)
