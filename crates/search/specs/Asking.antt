-- What comes of a query.
use Rattle.std.specs.Prelude.{ℕ, Bool, List}
use Rattle.geometry.specs.declared.place.Place.{Place}
use Rattle.geometry.specs.declared.rect.Rect.{Rect}
use Rattle.geometry.specs.declared.label.Label.{Label}
use Rattle.index.specs.Table.{Table}
use Rattle.neighbours.specs.Ranking.{Ranking, ranking}
use Rattle.search.specs.declared.query.Query.{Query}
use Rattle.search.specs.Answers.{answers_of, openings_of, accepts, costs}

-- how a query ranks what it sees
abbrev pub ranking_of : {D M : Type 0} → (D → D → Bool) → (M → Place → Place → D) → (M → Place → Rect → D) → Query M → Ranking
ranking_of lt dist bound q = ranking lt (dist q.measure.now) (bound q.measure.now)

-- the answers of a query, and how many nodes it opens
abbrev pub answers_to : Ranking → Table → {M : Type 0} → Query M → List ℕ
answers_to near t q = answers_of near t q.from q.own q.k q.confirming

abbrev pub openings_for : Ranking → Table → {M : Type 0} → Query M → ℕ
openings_for near t q = openings_of near t q.from q.own q.k q.confirming

-- a candidate is an answer to the query, and what finding that out opens
abbrev pub accepted : Ranking → Table → {M : Type 0} → Query M → Label → Bool
accepted near t q = accepts near t q.from q.own q.confirming

abbrev pub cost_of : Ranking → Table → {M : Type 0} → Query M → Label → ℕ
cost_of near t q = costs near t q.from q.own q.confirming
