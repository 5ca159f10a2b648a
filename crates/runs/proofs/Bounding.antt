-- How many nodes a mutual query opens at most.
use Rattle.std.proofs.Common.{◌≡◌, ℕ, ◌*◌, ◌<◌, ◌≤◌, Bool, not, List, [], ◌∷◌, length, filter, Option, refl, arith, length-append}
use Rattle.std.specs.Prelude.{slice_index_or}
use Rattle.std.specs.List.{flat_map, AllByRecursion}
use Rattle.std.proofs.lemmas.List.Sums.{sum_by-le}
use Rattle.std.proofs.lemmas.List.Filters.{length-filter_both}
use Rattle.geometry.specs.declared.place.Place.{Place}
use Rattle.geometry.specs.declared.label.Label.{Label}
use Rattle.index.specs.declared.slot.Slot.{Slot}
use Rattle.index.specs.declared.slot.Slot.TheVariants.{Empty, Holds, Leads}
use Rattle.index.specs.Table.{Table, label_in, labels_in, plan, boxed}
use Rattle.index.specs.Laws.{Lawful}
use Rattle.listing.specs.Neighbours.{candidate}
use Rattle.neighbours.specs.Ranking.{Ranking, nearer_to}
use Rattle.neighbours.specs.Neighbours.{left_out, others, candidates}
use Rattle.neighbours.specs.Reach.{in_reach, reach, reach_of, mutual_openings}
use Rattle.neighbours.proofs.Confirming.{boxed-many, reach-of-bound}

kept-few : {X : Type 0} (p : X → Bool) (xs : List X) → length (filter p xs) ≤ length xs
kept-few p xs = omega (arith, length-filter_both p (λ x. not (p x)) (λ x. refl) xs)

-- a node has twelve labels at most
labels-few : (slots : List Slot) → length (flat_map label_in slots) ≤ length slots
labels-few [] = omega arith
labels-few (Empty ∷ slots) = omega (arith, labels-few slots)
labels-few (Holds l ∷ slots) = omega (arith, labels-few slots)
labels-few (Leads b k ∷ slots) = omega (arith, labels-few slots)

nodes-few : (nodes : List (List Slot)) → AllByRecursion (λ slots. length slots ≡ 12) nodes → length (flat_map labels_in nodes) ≤ 12 * length nodes
unfolding labels_in
nodes-few [] h = omega arith
nodes-few (slots ∷ nodes) h = omega (arith, length-append (labels_in slots) (flat_map labels_in nodes), labels-few slots, h.0, nodes-few nodes h.1)

module _ (t : Table) (lawful : Lawful t) where
  plan-few : length (plan t) ≤ 3600
  unfolding plan
  plan-few = omega (arith, nodes-few t.nodes lawful.twelve, lawful.few)

  reach-few : (near : Ranking) (q : Place) (k : ℕ) (ls : List Label) → reach near t q k ls ≤ 300
  unfolding reach
  reach-few near q k ls = omega (arith, kept-few (λ n. in_reach near q k ls n.1) (boxed t), boxed-many t lawful, lawful.few)

  candidates-few : (near : Ranking) (q : Place) (k : ℕ) (own : Option ℕ) → length (candidates near q k (others own (plan t))) ≤ 3600
  unfolding candidates others
  candidates-few near q k own = omega (arith, kept-few (candidate (nearer_to near q) k (others own (plan t))) (others own (plan t)), kept-few (λ l. not (left_out own l.number)) (plan t), plan-few)

  pub openings-few : (near : Ranking) (q : Place) (own : Option ℕ) (k1 k2 : ℕ) → mutual_openings near t q own k1 k2 < 2000000
  unfolding mutual_openings
  openings-few near q own k1 k2 =
      let ls : List Label = others own (plan t) in
      let cs : List Label = candidates near q k1 ls in
      let each : (c : Label) → reach_of near t q k2 ls c ≤ 300 = λ c. omega (arith, reach-of-bound near t q k2 ls c lawful, lawful.few) in
      omega (arith, reach-few near q k1 ls, sum_by-le (reach_of near t q k2 ls) 300 cs (λ i d l. each (slice_index_or cs i d)), candidates-few near q k1 own)
