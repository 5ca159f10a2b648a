-- Values with the same numbers are equal, whatever proofs they carry.
use Rattle.std.proofs.Common.{◌≡◌}
use mathlib.Core.HLevel.{is_prop→PathP}
use denote.Struct.Props.{props}
use Rattle.geometry.specs.declared.place.Place.{Place, near-type}
use Rattle.geometry.specs.declared.label.Label.{Label, numbered-type}
use Rattle.geometry.specs.declared.rect.Rect as rect
use Rattle.geometry.specs.declared.rect.Rect.{Rect, upright-type}

pub same_place : (p q : Place) → p.x ≡ q.x → p.y ≡ q.y → p ≡ q
same_place p q x y = λ i. record { x = x i; y = y i; near = is_prop→PathP (λ j. near-type (x j) (y j)) (λ j. hlevel props) p.near q.near i }

pub same-label : (l m : Label) → l.number ≡ m.number → l.place ≡ m.place → l ≡ m
same-label l m n p = λ i. record { number = n i; place = p i; numbered = is_prop→PathP (λ j. numbered-type (n j) (p j)) (λ j. hlevel props) l.numbered m.numbered i }

pub same-rect : (a b : Rect) → a.west ≡ b.west → a.south ≡ b.south → a.east ≡ b.east → a.north ≡ b.north → a ≡ b
same-rect a b w s e n = λ i. record {
  west = w i;
  south = s i;
  east = e i;
  north = n i;
  upright = is_prop→PathP (λ j. upright-type (w j) (s j) (e j) (n j)) (λ j. hlevel props) a.upright b.upright i;
  near = is_prop→PathP (λ j. rect.near-type (w j) (s j) (e j) (n j) (is_prop→PathP (λ j. upright-type (w j) (s j) (e j) (n j)) (λ j. hlevel props) a.upright b.upright j)) (λ j. hlevel props) a.near b.near i;
}
