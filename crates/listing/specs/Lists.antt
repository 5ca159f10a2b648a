-- What the calls on a list of labels give and leave.
use Rattle.std.specs.Prelude.{◌≡◌, ℕ, Bool, true, cond, ◌&&◌, List, [], ◌∷◌, ◌++◌, ℤ, is_ok, Some, None, Ok, Err, vec_items, Option, Result, nat_le}
use Rattle.geometry.specs.declared.label.Label.{Label}
use Rattle.geometry.specs.declared.refusal.Refusal.{Refusal}
use Rattle.geometry.specs.declared.refusal.Reason.TheVariants.{BadCount, BadPlace, NumberPresent}
use Rattle.geometry.specs.Refusals.{refusal}
use Rattle.geometry.specs.Plane.{in_range, label_from}
use Rattle.listing.specs.declared.failure.Failure.{Failure}
use Rattle.listing.specs.declared.failure.Failure.TheVariants.{Refused, NoMemory}
use Rattle.listing.specs.declared.list.LabelList.{LabelList}
use Rattle.geometry.specs.Numbers.{present}

-- the labels of a list, in the order of adding
abbrev pub labels_of : LabelList → List Label
labels_of l = vec_items l.labels

-- the list with a label of number n at x and y at its end, or the refusal
abbrev pub adding : List Label → ℕ → ℤ → ℤ → Result (List Label) Refusal
adding ls n x y = elim (label_from n x y) [
  | Ok l ↦ cond (present n ls) (Err (refusal NumberPresent 0)) (Ok (ls ++ l ∷ []))
  | Err e ↦ Err e
]

-- an addition ends as defined; a refusal and want of memory leave the list as it was
abbrev pub Added : List Label → List Label → ℕ → ℤ → ℤ → Result (Unit {0}) Failure → Type 0
Added before after n x y (Ok _) = Ok after ≡ adding before n x y
Added before after n x y (Err (Refused e)) = (Err e ≡ adding before n x y) × (after ≡ before)
Added before after n x y (Err NoMemory) = (is_ok (adding before n x y) ≡ true) × (after ≡ before)

-- a count is from 1 to 64
abbrev pub counted : ℕ → Bool
counted k = nat_le 1 k && nat_le k 64

-- the refusal of a listing, if it is refused: of the count first
abbrev pub refused_listing : ℤ → ℤ → ℕ → Option Refusal
refused_listing x y k = cond (counted k) (cond (in_range x && in_range y) None (Some (refusal BadPlace 0))) (Some (refusal BadCount 0))
