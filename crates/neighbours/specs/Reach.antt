-- The reach of a query: the nodes that it has to look into. A node is counted with its box.
use Rattle.std.specs.Prelude.{ℕ, ◌+◌, Bool, true, cond, not, leb, List, [], ◌∷◌, length, Some, None, sum_by, filter, Option, nat_le}
use Rattle.geometry.specs.declared.place.Place.{Place}
use Rattle.geometry.specs.declared.rect.Rect.{Rect}
use Rattle.geometry.specs.declared.label.Label.{Label}
use Rattle.index.specs.Table.{Table, plan, boxed}
use Rattle.neighbours.specs.Ranking.{Seen, spot, area, Ranking, nearer_to}
use Rattle.neighbours.specs.Neighbours.{others, nearer_than, candidates}

-- how many of the labels are no farther from a than s is
unfoldable pub no_farther : Ranking → Place → Seen → List Label → ℕ
no_farther near a s ls = length (filter (λ l. not (near a s (spot l.place))) ls)

-- the least of a list
abbrev pub least : {X : Type 0} → (X → X → Bool) → List X → Option X
least lt [] = None
least lt (x ∷ xs) = elim (least lt xs) [ None ↦ Some x | Some y ↦ cond (lt y x) (Some y) (Some x) ]

-- the k-th distance from a over the labels is the least at which at least k of them are no farther; it is told by a
-- label at that distance, and there is none if there are fewer than k labels
unfoldable pub kth : Ranking → Place → ℕ → List Label → Option Label
kth near a k ls = least (nearer_to near a) (filter (λ t. leb k (no_farther near a (spot t.place) ls)) ls)

-- s is at most at the distance of the label, if there is one
abbrev pub at_most : Ranking → Place → Seen → Option Label → Bool
at_most near a s None = true
at_most near a s (Some t) = not (near a (spot t.place) s)

-- in the query's reach are the boxes with near bound at most the k-th distance, or all if there is none
unfoldable pub in_reach : Ranking → Place → ℕ → List Label → Rect → Bool
in_reach near q k ls b = at_most near q (area b) (kth near q k ls)

-- in the reach of a candidate c of q, with ls the others without c: if at least k of ls are nearer to c than q is, the
-- boxes with near bound at most the k-th distance from c over ls; if not, those with near bound less than the distance of q
unfoldable pub in_reach_of : Ranking → Place → ℕ → List Label → Label → Rect → Bool
in_reach_of near q k ls c b = cond (nat_le k (nearer_than near c.place (spot q) ls)) (in_reach near c.place k ls b) (near c.place (area b) (spot q))

-- how many nodes of a table are in the query's reach
unfoldable pub reach : Ranking → Table → Place → ℕ → List Label → ℕ
reach near t q k ls = length (filter (λ n. in_reach near q k ls n.1) (boxed t))

-- how many nodes of a table are in the reach of a candidate c of q
unfoldable pub reach_of : Ranking → Table → Place → ℕ → List Label → Label → ℕ
reach_of near t q k ls c = length (filter (λ n. in_reach_of near q k (others (Some c.number) ls) c n.1) (boxed t))

-- what a nearest query opens: the query's reach
unfoldable pub nearest_openings : Ranking → Table → Place → Option ℕ → ℕ → ℕ
nearest_openings near t q own k = reach near t q k (others own (plan t))

-- what a mutual query opens: the query's reach, and the reach of each candidate
unfoldable pub mutual_openings : Ranking → Table → Place → Option ℕ → ℕ → ℕ → ℕ
mutual_openings near t q own k1 k2 = reach near t q k1 (others own (plan t)) + sum_by (reach_of near t q k2 (others own (plan t))) (candidates near q k1 (others own (plan t)))
