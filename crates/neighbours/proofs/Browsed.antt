-- What a walk has come to: its labels are the candidates in order, its nodes are the query's reach.
use Rattle.std.proofs.Common.{◌≡◌, ℕ, suc, ◌+◌, ◌-◌, ◌<◌, ◌≤◌, Bool, true, cond, not, eqb, ltb, List, [], ◌∷◌, ◌++◌, map, length, None, sum_by, filter, Option, sym, refl, ap, ◌∙◌, ⊎_elim, arith}
use Rattle.std.proofs.lemmas.Grind.{flat_map-append}
use Rattle.std.specs.List.{AllByRecursion}
use Rattle.std.proofs.lemmas.List.{append-nil, append_assoc, length-append, length-map, drop_at, drop_all, drop_more, drop-append-le}
use Rattle.std.proofs.lemmas.List.Elements.{filter-append}
use Rattle.std.proofs.lemmas.List.Sums.{sum_by-cons}
use Rattle.std.proofs.lemmas.List.Filters.{length-filter_both}
use Rattle.std.proofs.lemmas.Bool.{cases_order, cond-true, cond-false, eq-eqb, ne_eqb, false≢true}
use Rattle.geometry.specs.declared.place.Place.{Place}
use Rattle.geometry.specs.declared.rect.Rect.{Rect}
use Rattle.geometry.specs.declared.label.Label.{Label}
use Rattle.geometry.specs.Numbers.{distinct}
use Rattle.queue.specs.Order.{sorted}
use Rattle.queue.proofs.Ascending.{sorted-kept}
use Rattle.index.specs.Table.{Table, plan, boxed}
use Rattle.neighbours.specs.declared.item.Item.{Item}
use Rattle.neighbours.specs.declared.item.Subject.{Subject}
use Rattle.neighbours.specs.declared.item.Subject.TheVariants.{OfNode, OfLabel}
use Rattle.neighbours.specs.declared.limit.Limit.{Limit}
use Rattle.neighbours.specs.declared.limit.Limit.TheVariants.{Anywhere, UpTo}
use Rattle.neighbours.specs.Ranking.{ranking}
use Rattle.neighbours.specs.Neighbours.{others, nearer_than, candidates, closer}
use Rattle.neighbours.specs.Reach.{reach}
use Rattle.neighbours.specs.Items.{ahead}
use Rattle.neighbours.specs.Limits.{up_to_first, limit_of}
use Rattle.neighbours.specs.Scene.{Scene, scene, label_item, node_item, shown, all_items, work_places}
use Rattle.neighbours.specs.Walks.{of_node, is_node, Passes, found, nearer_in}
use Rattle.neighbours.proofs.Arranging.{gathered}
use Rattle.neighbours.proofs.Answering.{distinct-others, shown-own, labels-in-order, kept-in-order}
use Rattle.neighbours.proofs.Reaching.{ranks, in_reach-counts}
use Rattle.neighbours.proofs.Whole.{kept-twice, kept-swap, whole, enough-room}
use Rattle.neighbours.proofs.Scenes.{Fair, order}
use Rattle.neighbours.proofs.Browsing.{label_of, labels_of, dists, passes, in_turn, keeps-all, kept_map, none_left, count-nodes, dists-append, dists-past, nodes}

-- nothing has come yet
pub no-limit : {D : Type 0} (k : ℕ) → limit_of k (dists {D = D} []) ≡ Anywhere
unfolding dists
no-limit {D} k = ap up_to_first (drop_all {X = D} (k - 1) [] (omega arith))

-- one more distance, after which the limit may be known
pub one_more : {D : Type 0} (k : ℕ) (ds : List D) (d : D) (came : ℕ) → 1 ≤ k → came ≡ length ds → limit_of k (ds ++ d ∷ []) ≡ cond (eqb (came + 1) k) (UpTo d) (limit_of k ds)
one_more k ds d came one e = ⊎_elim
    (λ (h : length ds ≡ k - 1). ap up_to_first (drop_at ds (d ∷ []) (k - 1) h) ∙ sym (cond-true (eqb (came + 1) k) _ _ (eq-eqb (came + 1) k (omega arith))))
    (λ h. ⊎_elim
    (λ (l : length ds < k - 1). ap up_to_first (drop_all (k - 1) (ds ++ d ∷ []) (omega (arith, length-append ds (d ∷ []))) ∙ sym (drop_all (k - 1) ds (omega arith))) ∙ other (λ z. omega arith))
    (λ (l : k - 1 < length ds). ap up_to_first (drop-append-le (k - 1) ds (d ∷ []) (omega arith) ∙ ap (λ l. l ++ d ∷ []) (drop_more ds (k - 1) d l)) ∙ ap up_to_first (sym (drop_more ds (k - 1) d l)) ∙ other (λ z. omega arith))
    h)
    (cases_order (length ds) (k - 1))
  where
    other : (came + 1 ≡ k → ⊥) → limit_of k ds ≡ cond (eqb (came + 1) k) (UpTo d) (limit_of k ds)
    other u = sym (cond-false (eqb (came + 1) k) _ _ (ne_eqb (came + 1) k u))

-- one more label, past nodes
module _ {D : Type 0} where
  labels-nodes : (xs : List (Item D)) → AllByRecursion (λ x. is_node x ≡ true) xs → labels_of xs ≡ []
  labels-nodes [] h = refl
  labels-nodes (x ∷ xs) h = (λ i. none x.subject h.0 i ++ labels-nodes xs h.1 i)
    where
      none : (u : Subject) → of_node u ≡ true → label_of u ≡ []
      none (OfNode n) e = refl
      none (OfLabel l) e = absurd (false≢true e)

  -- as many labels as distances
  pub as_many : (xs : List (Item D)) → length (labels_of xs) ≡ length (dists xs)
  unfolding dists
  as_many [] = refl
  as_many (x ∷ xs) =
      let labels = filter (λ (y : Item D). not (is_node y)) xs in
      elim x.subject as (λ u. length (label_of u ++ labels_of xs) ≡ length (map (λ y. y.distance) (cond (not (of_node u)) (x ∷ labels) labels))) [
        | OfNode n ↦ as_many xs
        | OfLabel l ↦ ap suc (as_many xs)
      ]

  labels-kept : (xs : List (Item D)) → labels_of (filter (λ x. not (is_node x)) xs) ≡ labels_of xs
  labels-kept [] = refl
  labels-kept (x ∷ xs) = inside (filter (λ y. not (is_node y)) xs) x.subject refl (labels-kept xs)
    where
      inside : (labels : List (Item D)) (u : Subject) → x.subject ≡ u → labels_of labels ≡ labels_of xs → labels_of (cond (not (of_node u)) (x ∷ labels) labels) ≡ label_of u ++ labels_of xs
      inside labels (OfNode n) e h = h
      inside labels (OfLabel l) e h = λ i. label_of (e i) ++ h i

  module _ (to : Place → D) where
    all-labels : (ls : List Label) → filter (λ x. not (is_node x)) (map (label_item to) ls) ≡ map (label_item to) ls
    all-labels [] = refl
    all-labels (l ∷ ls) = ap (λ xs. label_item to l ∷ xs) (all-labels ls)

    labels-items : (ls : List Label) → labels_of (map (label_item to) ls) ≡ ls
    labels-items [] = refl
    labels-items (l ∷ ls) = ap (λ ms. l ∷ ms) (labels-items ls)

  module _ (lt : D → D → Bool) (limit : Limit D) (gone front : List (Item D)) (front-in : Passes lt limit front) where
    pub labels-past : labels_of (gone ++ front) ≡ labels_of gone
    labels-past = flat_map-append _ gone front ∙ ap (λ l. labels_of gone ++ l) (labels-nodes front (nodes lt limit front front-in)) ∙ append-nil (labels_of gone)

    pub nodes-past : length (filter is_node (gone ++ front)) ≡ length (filter is_node gone) + length front
    nodes-past = ap length (filter-append is_node gone front ∙ ap (λ l. filter is_node gone ++ l) (keeps-all is_node front (nodes lt limit front front-in))) ∙ length-append (filter is_node gone) front

    module _ (d : D) (l : Label) where
      pub dists-more : dists (gone ++ (front ++ found d l ∷ [])) ≡ dists gone ++ d ∷ []
      unfolding dists
      dists-more = ap dists (sym (append_assoc gone front (found d l ∷ []))) ∙ dists-append (gone ++ front) (found d l ∷ []) ∙ ap (λ ds. ds ++ d ∷ []) (dists-past gone front (nodes lt limit front front-in))

      pub labels-more : labels_of (gone ++ (front ++ found d l ∷ [])) ≡ labels_of gone ++ l ∷ []
      labels-more = ap labels_of (sym (append_assoc gone front (found d l ∷ []))) ∙ flat_map-append _ (gone ++ front) (found d l ∷ []) ∙ ap (λ ls. ls ++ l ∷ []) labels-past

      pub nodes-more : length (filter is_node (gone ++ (front ++ found d l ∷ []))) ≡ length (filter is_node gone) + length front
      nodes-more = ap (λ l. length (filter is_node l)) (sym (append_assoc gone front (found d l ∷ []))) ∙ ap length (filter-append is_node (gone ++ front) (found d l ∷ []) ∙ append-nil (filter is_node (gone ++ front))) ∙ nodes-past

-- what passes of all items, when a part has passed
kept-part : {D : Type 0} (s : Scene D) (k : ℕ) (part rest : List (Item D)) → in_turn s ≡ part ++ rest → AllByRecursion (λ x. passes s k x ≡ true) part → filter (passes s k) (in_turn s) ≡ part ++ filter (passes s k) rest
kept-part s k part rest e h = ap (filter (passes s k)) e ∙ filter-append (passes s k) part rest ∙ ap (λ l. l ++ filter (passes s k) rest) (keeps-all (passes s k) part h)

-- a query at q, with the label of a number left out
abbrev pub asking : {D : Type 0} → (D → D → Bool) → Table → (Place → Place → D) → (Place → Rect → D) → Place → Option ℕ → Scene D
asking lt t dist bound q own = scene lt t dist bound (record { from = q; own = own; candidate = None })

module _ {D : Type 0} (lt : D → D → Bool) (t : Table) (dist : Place → Place → D) (bound : Place → Rect → D) (q : Place) (own : Option ℕ) (fair : Fair (asking lt t dist bound q own)) where
  nearer-own : (d : D) → nearer_in (asking lt t dist bound q own) d ≡ length (filter (λ l. lt (dist q l.place) d) (others own (plan t)))
  unfolding nearer_in
  nearer-own d = ap (λ ls. length (filter (λ l. lt (dist q l.place) d) ls)) (shown-own q own (plan t))

  apart : distinct (others own (plan t)) ≡ true
  apart = distinct-others own (plan t) fair.lawful.apart

  labels-in-turn : filter (λ x. not (is_node x)) (in_turn (asking lt t dist bound q own)) ≡ map (label_item (dist q)) (sorted (closer (ranking lt dist bound) q) (others own (plan t)))
  unfolding all_items
  labels-in-turn =
      let s = asking lt t dist bound q own in
      let label : Item D → Bool = λ x. not (is_node x) in
      let ls = shown s.view (plan t) in
      let all = map (node_item (bound q)) (boxed t) ++ map (label_item (dist q)) ls in
      sym (sorted-kept (order s fair) label all)
      ∙ ap (sorted (ahead lt)) (filter-append label (map (node_item (bound q)) (boxed t)) (map (label_item (dist q)) ls) ∙ (λ i. none_left label (node_item (bound q)) (λ n. refl) (boxed t) i ++ all-labels (dist q) ls i)
      ∙ ap (map (label_item (dist q))) (shown-own q own (plan t)))
      ∙ labels-in-order fair.order dist bound q (others own (plan t)) apart

  module _ (k : ℕ) where
    labels-passing : labels_of (filter (passes (asking lt t dist bound q own) k) (in_turn (asking lt t dist bound q own))) ≡ sorted (closer (ranking lt dist bound) q) (candidates (ranking lt dist bound) q k (others own (plan t)))
    unfolding passes candidates
    labels-passing =
        let s = asking lt t dist bound q own in
        let label : Item D → Bool = λ x. not (is_node x) in
        let ls = others own (plan t) in
        let by = closer (ranking lt dist bound) q in
        sym (labels-kept (filter (passes s k) (in_turn s)))
        ∙ ap labels_of (kept-swap label (passes s k) (in_turn s) ∙ ap (filter (passes s k)) labels-in-turn ∙ kept_map (passes s k) (label_item (dist q)) (sorted by ls))
        ∙ labels-items (dist q) (filter (λ l. passes s k (label_item (dist q) l)) (sorted by ls))
        ∙ kept-in-order fair.order dist bound q (λ l. passes s k (label_item (dist q) l)) ls apart
        ∙ ap (λ (test : Label → Bool). sorted by (filter test ls)) (λ i l. ltb (nearer-own (dist q l.place) i) k)

    nodes-passing : 1 ≤ k → length (filter is_node (filter (passes (asking lt t dist bound q own) k) (in_turn (asking lt t dist bound q own)))) ≡ reach (ranking lt dist bound) t q k (others own (plan t))
    unfolding passes reach nearer_than
    nodes-passing one =
        let s = asking lt t dist bound q own in
        ap length (kept-swap is_node (passes s k) (in_turn s) ∙ kept-twice is_node (passes s k) (in_turn s)) ∙ count-nodes s (passes s k)
        ∙ ap (λ (test : ℕ × Rect → Bool). length (filter test (boxed t)))
        (λ i n. (ap (λ m. ltb m k) (nearer-own (bound q n.1)) ∙ sym (in_reach-counts (ranking lt dist bound) q (ranks fair.order dist bound q) k (others own (plan t)) n.1 one)) i)

    -- the whole walk
    module _ (all : List (Item D)) (e : filter (passes (asking lt t dist bound q own) k) (in_turn (asking lt t dist bound q own)) ≡ all) where
      pub walk-labels : labels_of all ≡ sorted (closer (ranking lt dist bound) q) (candidates (ranking lt dist bound) q k (others own (plan t)))
      walk-labels = ap labels_of (sym e) ∙ labels-passing

      pub walk-nodes : 1 ≤ k → length (filter is_node all) ≡ reach (ranking lt dist bound) t q k (others own (plan t))
      walk-nodes one = ap (λ l. length (filter is_node l)) (sym e) ∙ nodes-passing one

    -- a part of it
    module _ (part rest : List (Item D)) (e : in_turn (asking lt t dist bound q own) ≡ part ++ rest) (h : AllByRecursion (λ x. passes (asking lt t dist bound q own) k x ≡ true) part) where
      pub part-labels : sorted (closer (ranking lt dist bound) q) (candidates (ranking lt dist bound) q k (others own (plan t))) ≡ labels_of part ++ labels_of (filter (passes (asking lt t dist bound q own) k) rest)
      part-labels = sym labels-passing ∙ ap labels_of (kept-part (asking lt t dist bound q own) k part rest e h) ∙ flat_map-append _ part (filter (passes (asking lt t dist bound q own) k) rest)

      pub part-nodes : 1 ≤ k → reach (ranking lt dist bound) t q k (others own (plan t)) ≡ length (filter is_node part) + length (filter is_node (filter (passes (asking lt t dist bound q own) k) rest))
      part-nodes one =
          let later = filter (passes (asking lt t dist bound q own) k) rest in
          sym (nodes-passing one) ∙ ap (λ l. length (filter is_node l)) (kept-part (asking lt t dist bound q own) k part rest e h) ∙ ap length (filter-append is_node part later) ∙ length-append (filter is_node part) (filter is_node later)

-- there are no more items than places in the work list
module _ {D : Type 0} (s : Scene D) (fair : Fair s) where
  pub few-items : length (in_turn s) ≤ work_places s.table
  few-items = omega (arith, ap length (whole s fair), enough-room s fair)

  pub few-parts : (part rest : List (Item D)) → in_turn s ≡ part ++ rest → length (filter is_node part) + length (labels_of part) ≤ work_places s.table
  unfolding dists
  few-parts part rest e =
      let labels = filter (λ (x : Item D). not (is_node x)) part in
      omega (arith, few-items, ap length e, length-append part rest, length-filter_both is_node (λ x. not (is_node x)) (λ x. refl) part, as_many part, length-map labels (λ x. x.distance))

-- a sum over a list in order
pub sum-arranged : {X : Type 0} (f : X → ℕ) (g : X → X → Bool) (xs : List X) → sum_by f (sorted g xs) ≡ sum_by f xs
sum-arranged f g xs = gathered g (λ x n. f x + n) (sum_by f) (sum_by-cons f) (λ x y n. omega arith) xs
