-- What makes a table lawful.
use Rattle.std.specs.Prelude.{◌≡◌, ℕ, ◌<◌, ◌≤◌, Bool, true, ◌||◌, List, length, Some, None, filter, Option, ◌==◌, nat_eq}
use Rattle.std.specs.List.{AllByRecursion}
use Rattle.geometry.specs.declared.rect.Rect.{Rect}
use Rattle.geometry.specs.Plane.{holds, covering}
use Rattle.geometry.specs.Numbers.{distinct}
use Rattle.index.specs.declared.slot.Slot.{Slot}
use Rattle.index.specs.declared.slot.Slot.TheVariants.{Empty, Holds, Leads}
use Rattle.index.specs.Table.{Table, node_count, node_at, labels_in, branches_in, plan, branches, boxed}

-- what a slot has lies in the box
abbrev pub lies_in : Rect → Slot → Bool
lies_in b Empty = true
lies_in b (Holds l) = holds b l.place
lies_in b (Leads c k) = covering b c

-- a node is a leaf, which has no branch, or inner, and has no label
abbrev pub is_leaf : List Slot → Bool
is_leaf slots = length (branches_in slots) == 0

abbrev pub is_inner : List Slot → Bool
is_inner slots = length (labels_in slots) == 0

-- how many branches lead to node k
abbrev pub times_led_to : Table → ℕ → ℕ
times_led_to t k = length (filter (λ b. nat_eq b.0 k) (branches t))

pub record Lawful (t : Table) : Type 0 where
  -- from 1 to 300 nodes, each of twelve slots, a leaf or inner
  pub some : 1 ≤ node_count t
  pub few : node_count t ≤ 300
  pub twelve : AllByRecursion (λ slots. length slots ≡ 12) t.nodes
  pub kinds : AllByRecursion (λ slots. (is_leaf slots || is_inner slots) ≡ true) t.nodes
  -- a branch leads to a node of greater number, and every node but the root is led to by exactly one branch
  pub down : (i : ℕ) → i < node_count t → AllByRecursion (λ b. (i < b.0) × (b.0 < node_count t)) (branches_in (node_at t i))
  pub once : (k : ℕ) → 0 < k → k < node_count t → times_led_to t k ≡ 1
  -- a node's box, which is the root box or its branch's, contains what its slots have
  pub inside : AllByRecursion (λ b. AllByRecursion (λ s. lies_in b.1 s ≡ true) (node_at t b.0)) (boxed t)
  -- no label number occurs twice
  pub apart : distinct (plan t) ≡ true

-- the open node is one of the table's
abbrev pub Inside : Table → Option ℕ → Type 0
Inside t None = Unit {0}
Inside t (Some i) = i < node_count t
