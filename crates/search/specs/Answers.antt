-- How a query comes to its answers.
use Rattle.std.specs.Prelude.{ℕ, ◌+◌, ◌≤◌, Bool, true, cond, List, length, ℤ, Some, None, Ok, Err, Option, Result, nat_le, nat_lt}
use Rattle.std.specs.List.{list_all}
use Rattle.geometry.specs.declared.refusal.Refusal.{Refusal}
use Rattle.geometry.specs.declared.refusal.Reason.TheVariants.{BadCount, ShortAnswerList}
use Rattle.geometry.specs.Refusals.{refusal}
use Rattle.geometry.specs.Plane.{place_at}
use Rattle.listing.specs.Lists.{counted}
use Rattle.index.specs.Table.{Table, plan}
use Rattle.neighbours.specs.Ranking.{Ranking}
use Rattle.neighbours.specs.Neighbours.{others, confirmed, nearest_answers, mutual_answers}
use Rattle.neighbours.specs.Reach.{reach_of, nearest_openings, mutual_openings}
use Rattle.neighbours.specs.Scene.{work_places}
use Rattle.geometry.specs.declared.place.Place.{Place}
use Rattle.geometry.specs.declared.label.Label.{Label}
use Rattle.neighbours.specs.declared.told.Told.{Told}

-- all of these counts are from 1 to 64
abbrev pub all_counted : List ℕ → Bool
all_counted = list_all counted

-- nothing where counts are in range, and else their refusal
abbrev pub checked : Bool → Result Unit Refusal
checked fine = cond fine (Ok tt) (Err (refusal BadCount 0))

-- the place of a query, or its refusal
abbrev pub admitted : Option Refusal → ℤ → ℤ → Result Place Refusal
admitted (Some e) x y = Err e
admitted None x y = Ok (place_at x y)

-- what the two queries answer and open: the mutual query confirms by a second count, and the nearest query does not
abbrev pub answers_of : Ranking → Table → Place → Option ℕ → ℕ → Option ℕ → List ℕ
answers_of near t q own k None = nearest_answers near t q own k
answers_of near t q own k (Some k2) = mutual_answers near t q own k k2

abbrev pub openings_of : Ranking → Table → Place → Option ℕ → ℕ → Option ℕ → ℕ
openings_of near t q own k None = nearest_openings near t q own k
openings_of near t q own k (Some k2) = mutual_openings near t q own k k2

-- a candidate is an answer, and what finding that out opens
abbrev pub accepts : Ranking → Table → Place → Option ℕ → Option ℕ → Label → Bool
accepts near t q own None c = true
accepts near t q own (Some k) c = confirmed near q k (others own (plan t)) c

abbrev pub costs : Ranking → Table → Place → Option ℕ → Option ℕ → Label → ℕ
costs near t q own None c = 0
costs near t q own (Some k) c = reach_of near t q k (others own (plan t)) c

-- a second work list is needed where candidates are confirmed
abbrev pub Roomy : Table → Option ℕ → ℕ → Type 0
Roomy t None places = Unit {0}
Roomy t (Some k) places = (work_places t ≤ places) × (1 ≤ k)

-- the answer at its place, or nothing where there is none
abbrev pub put_at : List ℕ → ℕ → Option ℕ
put_at answers count = cond (nat_lt count (length answers)) (Some (count + 1)) None

-- what a query tells that put so many answers, or had no place for one, when the meter stands there
abbrev pub concluded : Option ℕ → ℕ → Result Told Refusal
concluded (Some n) opened = Ok (record { count = n; opened = opened })
concluded None opened = Err (refusal ShortAnswerList 0)

-- how many answers were put, or nothing where they do not fit
abbrev pub fitting : List ℕ → ℕ → Option ℕ
fitting ns places = cond (nat_le (length ns) places) (Some (length ns)) None
