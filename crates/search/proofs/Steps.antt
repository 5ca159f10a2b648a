-- A search goes on from node to node to the next label.
use Rattle.std.proofs.Common.{◌≡◌, ℕ, ◌+◌, ◌<◌, ◌≤◌, Bool, true, false, List, [], ◌∷◌, ◌++◌, length, take, Some, None, sym, refl, ap, ◌∙◌, arith, length-append}
use Rattle.std.proofs.lemmas.List.{append_assoc}
use Rattle.std.proofs.ByRecursion.{All-push}
use Rattle.geometry.specs.declared.label.Label.{Label}
use Rattle.geometry.specs.declared.place.Place.{Place}
use Rattle.geometry.specs.declared.rect.Rect.{Rect}
use Rattle.geometry.specs.Plane.{holds, covering}
use Rattle.queue.specs.Order.{Order, sorted}
use Rattle.queue.specs.Shape.{Heap}
use Rattle.queue.specs.Calls.{popped}
use Rattle.queue.proofs.Popping.{popped-some, popped-none}
use Rattle.index.specs.Table.{Table, node_count, node_at}
use Rattle.index.specs.Laws.{Lawful}
use Rattle.neighbours.specs.declared.view.View.{View}
use Rattle.neighbours.specs.declared.item.Item.{Item}
use Rattle.neighbours.specs.declared.item.Subject.TheVariants.{OfNode, OfLabel}
use Rattle.neighbours.specs.declared.limit.Limit.{Limit}
use Rattle.neighbours.specs.Limits.{admits}
use Rattle.neighbours.specs.Items.{ahead}
use Rattle.neighbours.specs.Scene.{Scene, scene, items_in, kids, left, Waiting}
use Rattle.neighbours.proofs.Scenes.{Fair, Taken, x-good, opened, kids-room, left-turn, waits-on, label-turn, label-waits, left-none, node-kids, node-within}
use Rattle.neighbours.specs.Walks.{of_node, Passes, Next}
use Rattle.search.specs.Entering.{Entered}

-- what the laws of a measure and of a store give a search
pub fair-scene : {D : Type 0} {lt : D → D → Bool} → Order lt → (t : Table) (dist : Place → Place → D) (bound : Place → Rect → D) (v : View)
    → ((a p : Place) (b : Rect) → holds b p ≡ true → lt (dist a p) (bound a b) ≡ false) → ((a : Place) (b c : Rect) → covering b c ≡ true → lt (bound a c) (bound a b) ≡ false) → Lawful t → Fair (scene lt t dist bound v)
fair-scene o t dist bound v below inner lawful = record { order = o; below = below v.from; inner = inner v.from; lawful = lawful }

module _ {D : Type 0} (s : Scene D) where
  -- what `pop` gave and left
  pub taken : (xs ys : List (Item D)) (len : ℕ) (r : Item D × ℕ) → Waiting s xs len → length ys ≡ length xs → Some r ≡ popped xs len
      → (Heap (ahead s.lt) xs len → (sorted (ahead s.lt) (take len xs) ≡ r.0 ∷ sorted (ahead s.lt) (take r.1 ys)) × Heap (ahead s.lt) ys r.1) → Taken s xs ys len r.1 r.0
  taken xs ys len r w long told q = record { waits = w; long = long; less = (popped-some xs len r told).0; shape = (q w.shape).1; split = (q w.shape).0 }

  -- so far nodes were passed, all within the limit, which moved the meter from m to n; the queue in the first len of items
  -- leads to the rest
  pub record Walked (limit : Limit D) (before items : List (Item D)) (len m n : ℕ) : Type 0 where
    pub front : List (Item D)
    pub split : before ≡ front ++ left s (take len items)
    pub passes : Passes s.lt limit front
    pub many : n ≡ m + length front
    pub waits : Waiting s items len

  -- no node is passed at the start
  pub walked_none : (limit : Limit D) (items : List (Item D)) (len m : ℕ) → Waiting s items len → Walked limit (left s (take len items)) items len m m
  walked_none limit items len m w = record { front = []; split = refl; passes = tt; many = omega arith; waits = w }

  module _ (fair : Fair s) (limit : Limit D) (before : List (Item D)) {xs ys : List (Item D)} {len rest : ℕ} {x : Item D} {m n : ℕ} (w : Walked limit before xs len m n) (t : Taken s xs ys len rest x) where
    -- the openings so far, and all that may come, are no more than the items from the start
    pub walked-meter : n + length (left s (take len xs)) ≡ m + length before
    walked-meter = omega (arith, w.many, ap length w.split, length-append w.front (left s (take len xs)))

    pub walked_more : 0 < length (left s (take len xs))
    walked_more = omega (arith, ap length (opened s fair t))

    module _ (node : ℕ) (is : x.subject ≡ OfNode node) where
      pub walked-within : node < node_count s.table
      walked-within = node-within s fair x node is (x-good s fair t)

      pub walked-room : rest + length (items_in s.to s.near s.view (node_at s.table node)) ≤ length ys
      walked-room = omega (arith, kids-room s fair t, ap length (node-kids s fair x node is))

      -- the node was opened and its items were pushed
      module _ (zs : List (Item D)) (r : ℕ) (long : length zs ≡ length xs) (e : Entered (ahead s.lt) ys zs rest r (items_in s.to s.near s.view (node_at s.table node))) where
        many : r ≡ rest + length (kids s x)
        many = e.many ∙ ap (λ k. rest + length k) (sym (node-kids s fair x node is))

        pushed : sorted (ahead s.lt) (take r zs) ≡ sorted (ahead s.lt) (take rest ys ++ kids s x)
        pushed = e.contents ∙ ap (λ k. sorted (ahead s.lt) (take rest ys ++ k)) (sym (node-kids s fair x node is))

        turned : left s (take len xs) ≡ x ∷ left s (take r zs)
        turned = left-turn s fair t zs r long e.shape many pushed

        pub walked-shorter : length (left s (take r zs)) + 1 ≡ length (left s (take len xs))
        walked-shorter = omega (arith, ap length turned)

        pub walked-node : admits s.lt limit x.distance ≡ true → Walked limit before zs r m (n + 1)
        walked-node a = record {
          front = w.front ++ x ∷ [];
          split = w.split ∙ ap (λ l. w.front ++ l) turned ∙ sym (append_assoc w.front (x ∷ []) (left s (take r zs)));
          passes = All-push _ w.front x w.passes (ap of_node is, a);
          many = omega (arith, w.many, length-append w.front (x ∷ []));
          waits = waits-on s fair t zs r long e.shape many pushed;
        }

    pub walked-label : (l : Label) → x.subject ≡ OfLabel l → admits s.lt limit x.distance ≡ true → Next s limit before ys m n (Some (record { distance = x.distance; label = l; waiting = rest }))
    walked-label l is a = (
      w.front,
      w.split ∙ ap (λ k. w.front ++ k) (label-turn s fair t l is ∙ (λ i. (record { distance = x.distance; subject = is i }) ∷ left s (take rest ys))),
      w.passes,
      w.many,
      a,
      label-waits s fair t l is,
    )

    pub walked-stops : admits s.lt limit x.distance ≡ false → Next s limit before ys m n None
    walked-stops a = (w.front, x ∷ left s (take rest ys ++ kids s x), w.split ∙ ap (λ k. w.front ++ k) (opened s fair t), w.passes, w.many, a)

  pub walked-ends : Fair s → (limit : Limit D) (before xs ys : List (Item D)) (len m n : ℕ) → Walked limit before xs len m n → None ≡ popped xs len → Next s limit before ys m n None
  walked-ends fair limit before xs ys len m n w told =
      let none = popped-none xs len told w.waits.within in
      (w.front, [], w.split ∙ ap (λ k. w.front ++ left s (take k xs)) none ∙ ap (λ k. w.front ++ k) (left-none s fair), w.passes, w.many, tt)
