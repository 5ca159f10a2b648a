-- The neighbours of a place among the labels of a plan, ties let in.
use Rattle.std.specs.Prelude.{ℕ, Bool, false, not, ltb, List, map, length, Some, None, filter, Option, ◌==◌, nat_lt}
use Rattle.queue.specs.Order.{then_by, sorted}
use Rattle.geometry.specs.declared.place.Place.{Place}
use Rattle.geometry.specs.declared.label.Label.{Label}
use Rattle.listing.specs.Neighbours.{candidate}
use Rattle.index.specs.Table.{Table, plan}
use Rattle.neighbours.specs.Ranking.{Seen, spot, Ranking, nearer_to}

-- the number is left out
abbrev pub left_out : Option ℕ → ℕ → Bool
left_out None n = false
left_out (Some own) n = n == own

-- the labels without the one of that number, if there is one
unfoldable pub others : Option ℕ → List Label → List Label
others own ls = filter (λ l. not (left_out own l.number)) ls

-- how many of the labels are strictly nearer to a than s is
unfoldable pub nearer_than : Ranking → Place → Seen → List Label → ℕ
nearer_than near a s ls = length (filter (λ l. near a (spot l.place) s) ls)

-- the candidates of q: of those labels, the ones than which fewer than k are strictly nearer to q
unfoldable pub candidates : Ranking → Place → ℕ → List Label → List Label
candidates near q k ls = filter (candidate (nearer_to near q) k ls) ls

-- q is near to p in turn: fewer than k of the labels, p left out, are strictly nearer to p than q is
unfoldable pub confirmed : Ranking → Place → ℕ → List Label → Label → Bool
confirmed near q k ls p = nat_lt (nearer_than near p.place (spot q) (others (Some p.number) ls)) k

-- the mutual labels of q: the candidates to which q is near in turn
unfoldable pub mutuals : Ranking → Place → ℕ → ℕ → List Label → List Label
mutuals near q k1 k2 ls = filter (confirmed near q k2 ls) (candidates near q k1 ls)

-- by distance from q, then by number
abbrev pub closer : Ranking → Place → Label → Label → Bool
closer near q = then_by (nearer_to near q) (λ a b. ltb a.number b.number)

-- the numbers of labels, by their distance from q and then by number
unfoldable pub in_order : Ranking → Place → List Label → List ℕ
in_order near q ls = map (λ l. l.number) (sorted (closer near q) ls)

-- what a nearest query at q answers
unfoldable pub nearest_answers : Ranking → Table → Place → Option ℕ → ℕ → List ℕ
nearest_answers near t q own k = in_order near q (candidates near q k (others own (plan t)))

-- what a mutual query at q answers
unfoldable pub mutual_answers : Ranking → Table → Place → Option ℕ → ℕ → ℕ → List ℕ
mutual_answers near t q own k1 k2 = in_order near q (mutuals near q k1 k2 (others own (plan t)))
