-- A search that starts at the root comes to every item of the tree, once, and its work list has room.
use Rattle.std.proofs.Common.{◌≡◌, ℕ, suc, ◌*◌, ◌<◌, ◌≤◌, Bool, true, false, cond, not, ◌&&◌, ltb, List, [], ◌∷◌, ◌++◌, map, length, take, Some, None, filter, Option, sym, refl, ap, ◌∙◌, subst, ⊎_elim, arith, length-append}
use Rattle.std.specs.List.{range_with_len, flat_map, AllByRecursion}
use mathlib.Core.Bool.{and_comm}
use Rattle.std.proofs.lemmas.List.{append-nil}
use Rattle.std.proofs.lemmas.List.Folds.{flat_map-map}
use Rattle.std.proofs.lemmas.Grind.{flat_map-append}
use Rattle.std.proofs.ByRecursion.{All-append, All-map, All-weaker, All-from_get_or}
use Rattle.std.proofs.lemmas.List.FromFn.{fill_by_all}
use Rattle.std.proofs.lemmas.Bool.{cases_Bool, cases_order, cases_lt}
use Rattle.geometry.specs.declared.rect.Rect.{Rect}
use Rattle.geometry.specs.declared.label.Label.{Label}
use Rattle.queue.specs.Order.{insert, sorted}
use Rattle.queue.specs.Shape.{Heap}
use Rattle.queue.specs.Numbers.{number-order}
use Rattle.queue.proofs.Keeping.{keeps, leaves}
use Rattle.queue.proofs.Ascending.{length-sorted}
use Rattle.index.specs.declared.slot.Slot.{Slot}
use Rattle.index.specs.declared.slot.Slot.TheVariants.{Empty, Holds, Leads}
use Rattle.index.specs.Table.{Table, node_count, node_at, label_in, branch_in, labels_in, branches_in, plan, branches, boxed}
use Rattle.index.specs.Laws.{Lawful}
use Rattle.neighbours.specs.declared.item.Item.{Item}
use Rattle.neighbours.specs.declared.view.View.{View}
use Rattle.neighbours.specs.Neighbours.{left_out, others}
use Rattle.neighbours.specs.Items.{ahead}
use Rattle.neighbours.specs.Forest.{tree, still}
use Rattle.neighbours.specs.Scene.{Scene, shows, shown, label_item, node_item, item_of, listed, items_in, kids, height, Good, root, left, all_items, work_places, Waiting}
use Rattle.neighbours.proofs.Bags.{joined-joined, all-joined, all_both, sorted-turn, joined-alike}
use Rattle.neighbours.proofs.Finding.{all-items}
use Rattle.neighbours.proofs.Counting.{occurs, occurs-first, occurs-past, occurs-none, occurs-map, same_numbers, counting-out, counting-once}
use Rattle.neighbours.proofs.Scenes.{Fair, order, hangs, left-alike}

-- what passes a test and then another passes both
pub kept-twice : {X : Type 0} (p q : X → Bool) (xs : List X) → filter q (filter p xs) ≡ filter (λ x. p x && q x) xs
kept-twice p q [] = refl
kept-twice p q (x ∷ xs) = ⊎_elim
    (λ (t : p x ≡ true). ap (filter q) (keeps p x xs t) ∙ ap (λ l. cond (q x) (x ∷ l) l) (kept-twice p q xs) ∙ ap (λ b. cond (b && q x) (x ∷ filter (λ x. p x && q x) xs) (filter (λ x. p x && q x) xs)) (sym t))
    (λ (f : p x ≡ false). ap (filter q) (leaves p x xs f) ∙ kept-twice p q xs ∙ ap (λ b. cond (b && q x) (x ∷ filter (λ x. p x && q x) xs) (filter (λ x. p x && q x) xs)) (sym f))
    (cases_Bool (p x))

-- two tests in either order
pub kept-swap : {X : Type 0} (p q : X → Bool) (xs : List X) → filter p (filter q xs) ≡ filter q (filter p xs)
kept-swap {X} p q xs = kept-twice q p xs ∙ ap (λ (t : X → Bool). filter t xs) (λ i x. and_comm (q x) (p x) i) ∙ sym (kept-twice p q xs)

pub shown-kept : (v : View) (ls : List Label) → shown v ls ≡ filter (λ l. shows v l.number) ls
unfolding shown others
shown-kept v ls = kept-twice (λ l. not (left_out v.own l.number)) (λ l. not (left_out v.candidate l.number)) ls

module _ (t : Table) (lawful : Lawful t) where
  led-to : AllByRecursion (λ b. (0 < b.0) × (b.0 < node_count t)) (branches t)
  unfolding branches
  led-to = all-joined branches_in _ t.nodes (λ slots. AllByRecursion (λ b. (0 < b.0) × (b.0 < node_count t)) (branches_in slots)) (λ slots h. h)
      (All-from_get_or _ t.nodes [] (λ i l. All-weaker _ (λ b. (0 < b.0) × (b.0 < node_count t)) (λ b h. (omega (arith, h.0), h.1)) (branches_in (node_at t i)) (lawful.down i l)))

  pub boxed-within : AllByRecursion (λ b. b.0 < node_count t) (boxed t)
  boxed-within = (omega (arith, lawful.some), All-weaker _ (λ b. b.0 < node_count t) (λ b h. h.1) (branches t) led-to)

  abbrev numbers : List ℕ
  numbers = map (λ (b : ℕ × Rect). b.0) (branches t)

  -- every node has one box
  boxed-often : (k : ℕ) → occurs k (0 ∷ numbers) ≡ occurs k (range_with_len 0 (node_count t))
  boxed-often k = ⊎_elim
      (λ (e : 0 ≡ k). ap (λ m. occurs m (0 ∷ numbers)) (sym e) ∙ occurs-first 0 numbers
      ∙ ap suc (occurs-none 0 numbers (All-map _ (λ b. b.0) (branches t) (All-weaker _ (λ b. b.0 ≡ 0 → ⊥) (λ b h z. omega (arith, h.0)) (branches t) led-to)))
      ∙ sym (counting-once 0 (node_count t) k (omega arith) (omega (arith, lawful.some))))
      (⊎_elim
      (λ (l : 0 < k). ⊎_elim
      (λ (m : k < node_count t). occurs-past k 0 numbers (λ e. omega arith) ∙ occurs-map (λ b. b.0) k (branches t) ∙ lawful.once k l m ∙ sym (counting-once 0 (node_count t) k (omega arith) (omega arith)))
      (λ (m : node_count t ≤ k). occurs-none k (0 ∷ numbers) (All-map _ (λ b. b.0) (boxed t) (All-weaker _ (λ b. b.0 ≡ k → ⊥) (λ b h e. omega (arith, h)) (boxed t) boxed-within)) ∙ sym (counting-out 0 (node_count t) k (omega arith)))
      (cases_lt k (node_count t)))
      (λ (l : k < 0). absurd (omega arith)))
      (cases_order 0 k)

  pub boxed-once : sorted ltb (map (λ (b : ℕ × Rect). b.0) (boxed t)) ≡ sorted ltb (range_with_len 0 (node_count t))
  boxed-once = same_numbers (0 ∷ numbers) (range_with_len 0 (node_count t)) boxed-often

module _ {D : Type 0} (s : Scene D) (fair : Fair s) where
  abbrev lt : Item D → Item D → Bool
  lt = ahead s.lt

  abbrev items_of : Slot → List (Item D)
  items_of t = listed (item_of s.to s.near s.view t)

  abbrev apart : List Slot → List (Item D)
  apart slots = map (node_item s.near) (flat_map branch_in slots) ++ map (label_item s.to) (filter (λ l. shows s.view l.number) (flat_map label_in slots))

  -- the items of slots: those of the branches, and those of the labels shown
  slots_apart : (slots : List Slot) → sorted lt (flat_map items_of slots) ≡ sorted lt (apart slots)
  unfolding sorted
  slots_apart [] = refl
  slots_apart (Empty ∷ slots) = slots_apart slots
  slots_apart (Leads b k ∷ slots) = ap (insert lt (node_item s.near (k, b))) (slots_apart slots)
  slots_apart (Holds l ∷ slots) =
      let x = label_item s.to l in
      let nodes = map (node_item s.near) (flat_map branch_in slots) in
      let ls = filter (λ l. shows s.view l.number) (flat_map label_in slots) in
      elim (shows s.view l.number) as (λ b. sorted lt (listed (cond b (Some x) None) ++ flat_map items_of slots) ≡ sorted lt (nodes ++ map (label_item s.to) (cond b (l ∷ ls) ls))) [
        | true ↦ ap (insert lt x) (slots_apart slots) ∙ sorted-turn (order s fair) (x ∷ []) nodes (map (label_item s.to) ls)
        | false ↦ slots_apart slots
      ]

  -- all slots of the table
  abbrev slots : List Slot
  slots = flat_map (λ n. n) s.table.nodes

  all_apart : all_items s ≡ root s ∷ apart slots
  unfolding all_items branches branches_in plan labels_in
  all_apart = λ i. root s ∷ (map (node_item s.near) (joined-joined branch_in (λ n. n) s.table.nodes i)
      ++ map (label_item s.to) ((shown-kept s.view (plan s.table) ∙ ap (filter (λ l. shows s.view l.number)) (joined-joined label_in (λ n. n) s.table.nodes)) i))

  -- the items of node n
  abbrev kids_of : ℕ → List (Item D)
  kids_of n = items_in s.to s.near s.view (node_at s.table n)

  no_kids : (ls : List Label) → flat_map (kids s) (map (label_item s.to) ls) ≡ []
  unfolding kids
  no_kids [] = refl
  no_kids (l ∷ ls) = no_kids ls

  node-kids : (bs : List (ℕ × Rect)) → flat_map (kids s) (map (node_item s.near) bs) ≡ flat_map kids_of (map (λ b. b.0) bs)
  unfolding kids
  node-kids [] = refl
  node-kids (b ∷ bs) = ap (λ l. kids_of b.0 ++ l) (node-kids bs)

  all-kids : flat_map (kids s) (all_items s) ≡ flat_map kids_of (map (λ b. b.0) (boxed s.table))
  unfolding all_items
  all-kids = flat_map-append (kids s) (map (node_item s.near) (boxed s.table)) (map (label_item s.to) (shown s.view (plan s.table)))
      ∙ (λ i. node-kids (boxed s.table) i ++ no_kids (shown s.view (plan s.table)) i) ∙ append-nil _

  by_number : flat_map kids_of (range_with_len 0 (node_count s.table)) ≡ flat_map items_of slots
  unfolding items_in
  by_number = sym (flat_map-map (flat_map items_of) (node_at s.table) (range_with_len 0 (node_count s.table)))
      ∙ ap (flat_map (flat_map items_of)) (sym (fill_by_all (node_at s.table) s.table.nodes (node_count s.table) [] refl (λ k l. refl)))
      ∙ joined-joined items_of (λ n. n) s.table.nodes

  kids-once : sorted lt (all_items s) ≡ sorted lt (root s ∷ flat_map (kids s) (all_items s))
  unfolding sorted
  kids-once = ap (sorted lt) all_apart ∙ ap (insert lt (root s)) (sym (ap (sorted lt) all-kids
      ∙ joined-alike number-order (order s fair) kids_of (map (λ b. b.0) (boxed s.table)) (range_with_len 0 (node_count s.table)) (boxed-once s.table fair.lawful)
      ∙ ap (sorted lt) by_number ∙ slots_apart slots))

  all-good : AllByRecursion (Good s) (all_items s)
  unfolding all_items Good
  all-good = All-append (Good s) (map (node_item s.near) (boxed s.table)) _
      (All-map (Good s) (node_item s.near) (boxed s.table)
      (All-weaker _ _ (λ b h. (b.1, refl, h.0, h.1)) (boxed s.table) (all_both _ _ (boxed s.table) (boxed-within s.table fair.lawful) fair.lawful.inside)))
      (labels-good (shown s.view (plan s.table)))
    where
      labels-good : (ls : List Label) → AllByRecursion (Good s) (map (label_item s.to) ls)
      labels-good [] = tt
      labels-good (l ∷ ls) = (tt, labels-good ls)

  pub whole : left s (root s ∷ []) ≡ sorted (ahead s.lt) (all_items s)
  unfolding left still
  whole = ap (sorted lt) (append-nil (tree (kids s) (height s) (root s))) ∙ all-items (order s fair) (hangs s fair) (all_items s) (root s) all-good kids-once

  -- a slot has one item at most
  few-items : (slots : List Slot) → length (flat_map items_of slots) ≤ length slots
  few-items [] = omega arith
  few-items (t ∷ slots) = omega (arith, length-append (items_of t) (flat_map items_of slots), few-items slots, at_most (item_of s.to s.near s.view t))
    where
      at_most : (o : Option (Item D)) → length (listed o) ≤ 1
      at_most None = omega arith
      at_most (Some x) = omega arith

  many-slots : (nodes : List (List Slot)) → AllByRecursion (λ n. length n ≡ 12) nodes → length (flat_map (λ n. n) nodes) ≡ 12 * length nodes
  many-slots [] h = refl
  many-slots (n ∷ nodes) h = omega (arith, length-append n (flat_map (λ n. n) nodes), h.0, many-slots nodes h.1)

  pub enough-room : length (left s (root s ∷ [])) ≤ work_places s.table
  enough-room = omega (
    arith,
    ap length whole,
    length-sorted (order s fair) (all_items s),
    ap length all_apart,
    length-sorted (order s fair) (apart slots),
    ap length (slots_apart slots),
    length-sorted (order s fair) (flat_map items_of slots),
    few-items slots,
    many-slots s.table.nodes fair.lawful.twelve,
  )

  -- the root alone was pushed
  module _ (xs ys : List (Item D)) (room : work_places s.table ≤ length xs) (shape : Heap (ahead s.lt) xs 1)
      (pushed : sorted (ahead s.lt) (take 1 xs) ≡ insert (ahead s.lt) (root s) (sorted (ahead s.lt) (take 0 ys))) where
    pub root-left : left s (take 1 xs) ≡ sorted (ahead s.lt) (all_items s)
    unfolding sorted
    root-left = left-alike s fair (take 1 xs) (root s ∷ []) pushed ∙ whole

    pub root-waits : Waiting s xs 1
    unfolding sorted insert all_items
    root-waits = record {
      shape = shape;
      within = omega (arith, room);
      good = subst (AllByRecursion (Good s)) (sym pushed) (all-good.0, tt);
      room = omega (arith, room, ap length root-left, ap length whole, enough-room);
    }
