-- The labels nearest to a place, ties let in.
use Rattle.std.specs.Prelude.{ℕ, Bool, ltb, List, map, length, filter, nat_lt}
use Rattle.queue.specs.Order.{then_by, sorted}
use Rattle.geometry.specs.declared.place.Place.{Place}
use Rattle.geometry.specs.declared.label.Label.{Label}
use Rattle.listing.specs.declared.found.Found.{Found}

-- x is a candidate when fewer than k of xs are strictly nearer than x is
abbrev pub candidate : {X : Type 0} → (X → X → Bool) → ℕ → List X → X → Bool
candidate nearer k xs x = nat_lt (length (filter (λ y. nearer y x) xs)) k

-- a label by its number and its distance from where the query stands
abbrev pub found : {D : Type 0} → (Place → D) → Label → Found D
found to l = record { distance = to l.place; number = l.number }

-- a is strictly nearer than b
abbrev pub nearer : {D : Type 0} → (D → D → Bool) → Found D → Found D → Bool
nearer lt a b = lt a.distance b.distance

-- by distance, then by number
abbrev pub closer : {D : Type 0} → (D → D → Bool) → Found D → Found D → Bool
closer lt = then_by (nearer lt) (λ a b. ltb a.number b.number)

-- the candidates of fs, by distance and then by number
unfoldable pub nearest : {D : Type 0} → (D → D → Bool) → ℕ → List (Found D) → List (Found D)
nearest lt k fs = sorted (closer lt) (filter (candidate (nearer lt) k fs) fs)

-- the labels nearest to where the query stands
abbrev pub listing : {D : Type 0} → (D → D → Bool) → (Place → D) → ℕ → List Label → List (Found D)
listing lt to k ls = nearest lt k (map (found to) ls)
