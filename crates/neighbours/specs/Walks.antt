-- How a search walks through the items of a tree, which come in order.
use Rattle.std.specs.Prelude.{◌≡◌, ℕ, ◌+◌, Bool, true, false, ◌&&◌, List, [], ◌∷◌, ◌++◌, length, take, Some, None, filter, Option, nat_lt}
use Rattle.std.specs.List.{AllByRecursion}
use Rattle.geometry.specs.declared.label.Label.{Label}
use Rattle.index.specs.Table.{plan, boxed}
use Rattle.neighbours.specs.declared.arrival.Arrival.{Arrival}
use Rattle.neighbours.specs.declared.item.Item.{Item}
use Rattle.neighbours.specs.declared.item.Subject.{Subject}
use Rattle.neighbours.specs.declared.item.Subject.TheVariants.{OfNode, OfLabel}
use Rattle.neighbours.specs.declared.limit.Limit.{Limit}
use Rattle.neighbours.specs.Limits.{admits}
use Rattle.neighbours.specs.Scene.{Scene, Waiting, shown, left}

-- the item is a node
abbrev pub of_node : Subject → Bool
of_node (OfNode n) = true
of_node (OfLabel l) = false

abbrev pub is_node : {D : Type 0} → Item D → Bool
is_node x = of_node x.subject

-- where a search stops: nothing is left, or what comes next is past the limit
abbrev pub Stops : {D : Type 0} → (D → D → Bool) → Limit D → List (Item D) → Type 0
Stops lt limit [] = Unit {0}
Stops lt limit (x ∷ xs) = admits lt limit x.distance ≡ false

-- nodes that the limit admits
abbrev pub Passes : {D : Type 0} → (D → D → Bool) → Limit D → List (Item D) → Type 0
Passes lt limit front = AllByRecursion (λ x. (is_node x ≡ true) × (admits lt limit x.distance ≡ true)) front

-- a label at a distance, as an item
abbrev pub found : {D : Type 0} → D → Label → Item D
found d l = record { distance = d; subject = OfLabel l }

-- a search goes on to the next label: it passes nodes that the limit admits and opens each, which moves the meter from m
-- to n; then comes a label that the limit admits, or it stops
abbrev pub Next : {D : Type 0} → Scene D → Limit D → List (Item D) → List (Item D) → ℕ → ℕ → Option (Arrival D) → Type 0
Next {D} s limit before items m n None = (front : List (Item D)) × (rest : List (Item D)) × (before ≡ front ++ rest) × Passes s.lt limit front × (n ≡ m + length front) × Stops s.lt limit rest
Next {D} s limit before items m n (Some r) = (front : List (Item D)) × (before ≡ front ++ found r.distance r.label ∷ left s (take r.waiting items)) × Passes s.lt limit front × (n ≡ m + length front) × (admits s.lt limit r.distance ≡ true) × Waiting s items r.waiting

-- how many of the labels that the view shows are nearer than d
unfoldable pub nearer_in : {D : Type 0} → Scene D → D → ℕ
nearer_in s d = length (filter (λ l. s.lt (s.to l.place) d) (shown s.view (plan s.table)))

-- how many nodes are nearer than e, with fewer than k labels nearer than they are
unfoldable pub nodes_before : {D : Type 0} → Scene D → D → ℕ → ℕ
nodes_before s e k = length (filter (λ n. s.lt (s.near n.1) e && nat_lt (nearer_in s (s.near n.1)) k) (boxed s.table))
