-- The tree of a table as a search sees it from one place.
use Rattle.std.specs.Prelude.{◌≡◌, ℕ, suc, ◌+◌, ◌-◌, ◌*◌, ◌<◌, ◌≤◌, Bool, true, cond, not, ◌&&◌, List, [], ◌∷◌, ◌++◌, map, length, take, pos, Some, None, Option}
use Rattle.std.specs.List.{flat_map, AllByRecursion}
use Rattle.geometry.specs.declared.place.Place.{Place}
use Rattle.geometry.specs.declared.rect.Rect.{Rect}
use Rattle.geometry.specs.declared.label.Label.{Label}
use Rattle.geometry.specs.Plane.{place_at}
use Rattle.queue.specs.Order.{sorted}
use Rattle.queue.specs.Shape.{Heap}
use Rattle.index.specs.declared.slot.Slot.{Slot}
use Rattle.index.specs.declared.slot.Slot.TheVariants.{Empty, Holds, Leads}
use Rattle.index.specs.Table.{Table, node_count, node_at, plan, boxed}
use Rattle.index.specs.Laws.{lies_in}
use Rattle.neighbours.specs.declared.item.Item.{Item}
use Rattle.neighbours.specs.declared.item.Subject.{Subject}
use Rattle.neighbours.specs.declared.item.Subject.TheVariants.{OfNode, OfLabel}
use Rattle.neighbours.specs.declared.view.View.{View}
use Rattle.neighbours.specs.Neighbours.{left_out, others}
use Rattle.neighbours.specs.Items.{ahead}
use Rattle.neighbours.specs.Forest.{still}

-- what a search depends on: the order of distances, the table, the distance and the near bound from where it stands,
-- and whom it leaves out
pub record Scene (D : Type 0) : Type 0 where
  pub lt : D → D → Bool
  pub table : Table
  pub to : Place → D
  pub near : Rect → D
  pub view : View

-- the scene of a table under a measure, as the view has it
abbrev pub scene : {D : Type 0} → (D → D → Bool) → Table → (Place → Place → D) → (Place → Rect → D) → View → Scene D
scene lt t dist bound v = record { lt = lt; table = t; to = dist v.from; near = bound v.from; view = v }

-- the view shows a label of number n
abbrev pub shows : View → ℕ → Bool
shows v n = not (left_out v.own n) && not (left_out v.candidate n)

-- the labels that the view shows
unfoldable pub shown : View → List Label → List Label
shown v ls = others v.candidate (others v.own ls)

-- a label as an item, and a node with its box
abbrev pub label_item : {D : Type 0} → (Place → D) → Label → Item D
label_item to l = record { distance = to l.place; subject = OfLabel l }

abbrev pub node_item : {D : Type 0} → (Rect → D) → ℕ × Rect → Item D
node_item near n = record { distance = near n.1; subject = OfNode n.0 }

-- the item of a slot, if it has one
abbrev pub item_of : {D : Type 0} → (Place → D) → (Rect → D) → View → Slot → Option (Item D)
item_of to near v Empty = None
item_of to near v (Holds l) = cond (shows v l.number) (Some (label_item to l)) None
item_of to near v (Leads b n) = Some (node_item near (n, b))

abbrev pub listed : {X : Type 0} → Option X → List X
listed (Some x) = x ∷ []
listed None = []

-- the items of a node's slots
unfoldable pub items_in : {D : Type 0} → (Place → D) → (Rect → D) → View → List Slot → List (Item D)
items_in to near v slots = flat_map (λ s. listed (item_of to near v s)) slots

-- the items right below a subject
abbrev pub under : {D : Type 0} → Scene D → Subject → List (Item D)
under s (OfNode n) = items_in s.to s.near s.view (node_at s.table n)
under s (OfLabel l) = []

unfoldable pub kids : {D : Type 0} → Scene D → Item D → List (Item D)
kids s x = under s x.subject

-- how many levels may lie below an item
abbrev pub height_of : ℕ → Subject → ℕ
height_of count (OfNode n) = suc (count - n)
height_of count (OfLabel l) = 0

unfoldable pub height : {D : Type 0} → Scene D → Item D → ℕ
height s x = height_of (node_count s.table) x.subject

-- a node item is one of the table's nodes, at the near bound of a box that contains what is in its slots
abbrev pub GoodAs : {D : Type 0} → Scene D → D → Subject → Type 0
GoodAs s d (OfNode n) = (b : Rect) × (d ≡ s.near b) × (n < node_count s.table) × AllByRecursion (λ t. lies_in b t ≡ true) (node_at s.table n)
GoodAs s d (OfLabel l) = Unit {0}

unfoldable pub Good : {D : Type 0} → Scene D → Item D → Type 0
Good s x = GoodAs s x.distance x.subject

-- the root as an item
abbrev pub root : {D : Type 0} → Scene D → Item D
root s = node_item s.near (0, s.table.box)

-- all items still to come, in order, when xs are in the queue
unfoldable pub left : {D : Type 0} → Scene D → List (Item D) → List (Item D)
left s xs = still (ahead s.lt) (kids s) (height s) xs

-- all items of the tree: the nodes with their boxes, and the labels that the view shows
unfoldable pub all_items : {D : Type 0} → Scene D → List (Item D)
all_items s = map (node_item s.near) (boxed s.table) ++ map (label_item s.to) (shown s.view (plan s.table))

-- an item to fill a work list with
abbrev pub spare_item : {D : Type 0} → (Place → Place → D) → Item D
spare_item dist = record { distance = dist (place_at (pos 0) (pos 0)) (place_at (pos 0) (pos 0)); subject = OfNode 0 }

-- how many items a work list must have room for: the root, and twelve for each node
abbrev pub work_places : Table → ℕ
work_places t = 1 + 12 * node_count t

-- the queue in the first len of items: a heap of good items, with room for all that is still to come
pub record Waiting {D : Type 0} (s : Scene D) (items : List (Item D)) (len : ℕ) : Type 0 where
  pub shape : Heap (ahead s.lt) items len
  pub within : len ≤ length items
  pub good : AllByRecursion (Good s) (sorted (ahead s.lt) (take len items))
  pub room : length (left s (take len items)) ≤ length items
