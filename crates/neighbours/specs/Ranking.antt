-- How a measure ranks what is seen from a place: places by their distance, boxes by their near bound.
use Rattle.std.specs.Prelude.{◌≡◌, Bool, true, false}
use Rattle.geometry.specs.declared.place.Place.{Place}
use Rattle.geometry.specs.declared.rect.Rect.{Rect}
use Rattle.geometry.specs.declared.label.Label.{Label}
use Rattle.geometry.specs.Plane.{holds, covering}

-- what is seen from a place: another place, or a box
pub data Seen : Type 0 where
  spot : Place → Seen
  area : Rect → Seen

-- seen from a place, whether the first is strictly nearer than the second
abbrev pub Ranking : Type 0
Ranking = Place → Seen → Seen → Bool

-- how far off it is: a place by its distance, a box by its near bound
abbrev pub far_off : {D : Type 0} → (Place → Place → D) → (Place → Rect → D) → Place → Seen → D
far_off dist bound a (spot p) = dist a p
far_off dist bound a (area b) = bound a b

-- the ranking of a measure, by the order of its distances
abbrev pub ranking : {D : Type 0} → (D → D → Bool) → (Place → Place → D) → (Place → Rect → D) → Ranking
ranking lt dist bound a s t = lt (far_off dist bound a s) (far_off dist bound a t)

-- label p is strictly nearer to a than label q is
abbrev pub nearer_to : Ranking → Place → Label → Label → Bool
nearer_to near a p q = near a (spot p.place) (spot q.place)

-- the laws that the ranking of every measure shows: seen from one place, nearer is a strict order in which several may be
-- level, no place is nearer than a box that it lies in, and no box is nearer than one that it lies in
pub record Sound (near : Ranking) : Type 0 where
  pub one_way : (a : Place) (s t : Seen) → near a s t ≡ true → near a t s ≡ false
  pub chain : (a : Place) (s t u : Seen) → near a s t ≡ false → near a t u ≡ false → near a s u ≡ false
  pub below : (a p : Place) (b : Rect) → holds b p ≡ true → near a (spot p) (area b) ≡ false
  pub inner : (a : Place) (b c : Rect) → covering b c ≡ true → near a (area c) (area b) ≡ false
