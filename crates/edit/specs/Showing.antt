-- What an edit shows, by its fields and by what the store below shows.
use Rattle.std.specs.Prelude.{◌≡◌, ℕ, ◌+◌, ◌<◌, min, Bool, true, false, cond, List, length, Some, None, Ok, Err, Option, Result, nat_le}
use Rattle.geometry.specs.declared.refusal.Refusal.{Refusal}
use Rattle.geometry.specs.declared.refusal.Reason.TheVariants.{TwelveHeld}
use Rattle.geometry.specs.Refusals.{refusal}
use Rattle.index.specs.Frames.{Layer}
use Rattle.edit.specs.declared.changes.Changes.{Changes}
use Rattle.edit.specs.declared.edit.At.{At}
use Rattle.edit.specs.declared.edit.At.TheVariants.{Nowhere, Root, Added, Below}

-- the layer of an edit's changes
abbrev pub layer_of : Changes → Layer
layer_of c = record { added = c.added.items; withdrawn = c.withdrawn.items }

-- one more of twelve is taken, or refused
abbrev pub held : {X : Type 0} → List X → Result (Unit {0}) Refusal
held xs = cond (nat_le 12 (length xs)) (Err (refusal TwelveHeld 0)) (Ok tt)

-- node k below is node k + 2
abbrev pub further : Option ℕ → Option ℕ
further None = None
further (Some k) = Some (k + 2)

-- the open node of an edit that is closed or not, by where it is and by the node that is open below
abbrev pub opened_at : Bool → At → Option ℕ → Option ℕ
opened_at true Nowhere o = None
opened_at true Root o = None
opened_at true Added o = None
opened_at true Below o = o
opened_at false Nowhere o = None
opened_at false Root o = Some 0
opened_at false Added o = Some 1
opened_at false Below o = further o

-- the meter of an edit: the one below, and its own openings where it is not closed
abbrev pub counted : Bool → ℕ → ℕ → ℕ
counted true m own = m
counted false m own = min (m + own) 2000000

-- short of its end, the meter of an edit that is not closed is the sum in full
abbrev pub CountsInFull : Type 0
CountsInFull = (m own : ℕ) → counted false m own < 2000000 → counted false m own ≡ m + own
