-- How the program's queries end.
use Rattle.std.specs.Prelude.{◌≡◌, ℕ, ◌*◌, List, length, ℤ, Some, None, Ok, Err, Option, Result, ◌==◌}
use Rattle.std.specs.List.{find}
use Rattle.geometry.specs.declared.label.Label.{Label}
use Rattle.geometry.specs.declared.refusal.Refusal.{Refusal}
use Rattle.geometry.specs.declared.refusal.Reason.TheVariants.{NumberAbsent}
use Rattle.geometry.specs.Refusals.{refusal}
use Rattle.geometry.specs.Plane.{place_at}
use Rattle.listing.specs.declared.failure.Failure.{Failure}
use Rattle.listing.specs.declared.failure.Failure.TheVariants.{Refused, NoMemory}
use Rattle.index.specs.Table.{Table, node_count, plan}
use Rattle.neighbours.specs.declared.told.Told.{Told}
use Rattle.neighbours.specs.Ranking.{Ranking}
use Rattle.neighbours.specs.Neighbours.{nearest_answers, mutual_answers}
use Rattle.neighbours.specs.Reach.{nearest_openings, mutual_openings}
use Rattle.neighbours.specs.Scene.{work_places}
use Rattle.neighbours.specs.Queries.{refused_nearest, refused_mutual, outcome}
use Rattle.labelplan.specs.declared.query.Lengths.{Lengths}
use Rattle.labelplan.specs.declared.query.Answered.{Answered}

-- how long a list is that is lent: as set, or else as long as it can need to be
abbrev pub lent : Option ℕ → ℕ → ℕ
lent (Some n) need = n
lent None need = need

-- how long the work lists are, and the answer list
abbrev pub work_length : Lengths → Table → ℕ
work_length l t = lent l.work (work_places t)

abbrev pub answer_length : Lengths → Table → ℕ
answer_length l t = lent l.answers (12 * node_count t)

-- a query ends with what it tells and its answers, or with its refusal, unless memory runs out
abbrev pub Ends : Result Told Refusal → List ℕ → Result Answered Failure → Type 0
Ends o ns (Ok a) = (o ≡ Ok (record { count = length a.numbers.items; opened = a.opened })) × (a.numbers.items ≡ ns)
Ends o ns (Err (Refused e)) = o ≡ Err e
Ends o ns (Err NoMemory) = Unit {0}

-- the nearest query and the mutual query, with lists of these lengths
abbrev pub NearestEnds : Ranking → Table → Lengths → ℤ → ℤ → Option ℕ → ℕ → Result Answered Failure → Type 0
NearestEnds near t l x y own k =
    Ends (outcome (refused_nearest t x y k (work_length l t)) (nearest_answers near t (place_at x y) own k) (nearest_openings near t (place_at x y) own k) (answer_length l t))
    (nearest_answers near t (place_at x y) own k)

abbrev pub MutualEnds : Ranking → Table → Lengths → ℤ → ℤ → Option ℕ → ℕ → ℕ → Result Answered Failure → Type 0
MutualEnds near t l x y own k1 k2 =
    Ends (outcome (refused_mutual t x y k1 k2 (work_length l t) (work_length l t)) (mutual_answers near t (place_at x y) own k1 k2) (mutual_openings near t (place_at x y) own k1 k2) (answer_length l t))
    (mutual_answers near t (place_at x y) own k1 k2)

-- the labels that are linked to a label: the mutual query at its place without itself
abbrev pub LinkedEnds : Ranking → Table → Lengths → ℕ → ℕ → Label → Result Answered Failure → Type 0
LinkedEnds near t l k1 k2 q = MutualEnds near t l q.place.x q.place.y (Some q.number) k1 k2

-- no label has the number, which is refused
abbrev pub Absent : Result Answered Failure → Type 0
Absent (Ok a) = ⊥
Absent (Err (Refused e)) = e ≡ refusal NumberAbsent 0
Absent (Err NoMemory) = Unit {0}

-- the same of the label of number n, if the plan has it
abbrev pub NumberEnds : Ranking → Table → Lengths → ℕ → ℕ → ℕ → Result Answered Failure → Type 0
NumberEnds near t l k1 k2 n r = elim (find (λ q. q.number == n) (plan t)) [ Some q ↦ LinkedEnds near t l k1 k2 q r | None ↦ Absent r ]
