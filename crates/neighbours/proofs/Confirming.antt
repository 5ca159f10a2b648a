-- The check of a candidate passes the nodes nearer than its end with fewer than k labels nearer than they are, and tells whether fewer than k labels are nearer than the end.
use Rattle.std.proofs.Common.{◌≡◌, ℕ, ◌+◌, ◌<◌, ◌≤◌, Bool, true, false, cond, not, ◌&&◌, ltb, List, [], ◌∷◌, ◌++◌, map, length, take, Some, None, filter, Option, sym, refl, ap, ◌∙◌, subst, ⊎_elim, arith, length-append}
use lib.ListN.{length-map}
use Rattle.std.specs.List.{range_with_len, AllByRecursion}
use Rattle.std.proofs.lemmas.List.{append_assoc}
use Rattle.std.proofs.lemmas.List.Elements.{filter-append}
use Rattle.std.proofs.ByRecursion.{All-push, All-weaker}
use Rattle.std.proofs.lemmas.List.Filters.{length-filter_both}
use Rattle.std.proofs.lemmas.List.FromFn.{length-range_with_len}
use Rattle.std.proofs.lemmas.Bool.{cases_Bool, both_ways, false≢true, cond-false, lt-ltb, le-ltb, and_parts, and_from, and_left, and_right, not_from_true, not_from_false}
use Rattle.geometry.specs.declared.place.Place.{Place}
use Rattle.geometry.specs.declared.rect.Rect.{Rect}
use Rattle.geometry.specs.declared.label.Label.{Label}
use Rattle.queue.specs.Order.{Order, sorted}
use Rattle.queue.specs.Numbers.{number-order}
use Rattle.queue.proofs.Sorting.{chain-not}
use Rattle.queue.proofs.Keeping.{keeps, leaves, keeps-none, keeps-more}
use Rattle.queue.proofs.Ascending.{Ascending, sorted-ascends, length-sorted}
use Rattle.index.specs.Table.{Table, node_count, plan, boxed}
use Rattle.index.specs.Laws.{Lawful}
use Rattle.neighbours.specs.declared.arrival.Arrival.{Arrival}
use Rattle.neighbours.specs.declared.item.Item.{Item}
use Rattle.neighbours.specs.declared.item.Subject.{Subject}
use Rattle.neighbours.specs.declared.item.Subject.TheVariants.{OfNode, OfLabel}
use Rattle.neighbours.specs.declared.limit.Limit.TheVariants.{Before}
use Rattle.neighbours.specs.Ranking.{Ranking, ranking}
use Rattle.neighbours.specs.Neighbours.{others, nearer_than, confirmed}
use Rattle.neighbours.specs.Reach.{in_reach_of, reach_of}
use Rattle.neighbours.specs.Items.{subject_before, ahead}
use Rattle.neighbours.specs.Scene.{Scene, scene, shown, label_item, node_item, left, all_items, work_places}
use Rattle.neighbours.specs.Walks.{of_node, is_node, Stops, Passes, found, Next, nearer_in, nodes_before}
use Rattle.neighbours.proofs.Bags.{all-parts, all_both}
use Rattle.neighbours.proofs.Scenes.{Fair, order}
use Rattle.neighbours.proofs.Whole.{boxed-once, whole, enough-room}
use Rattle.neighbours.proofs.Arranging.{count-arranged}
use Rattle.neighbours.proofs.Reaching.{ranks, in-reach-of}
use Rattle.neighbours.proofs.Browsing.{no-nearer}

-- what a walk has passed, with i labels in it: all of it is nearer than e, of each node fewer than k labels are nearer,
-- and opening the nodes moved the meter from m to n; rest is still to come
pub record Checked {D : Type 0} (s : Scene D) (e : D) (k i : ℕ) (rest : List (Item D)) (m n : ℕ) : Type 0 where
  pub gone : List (Item D)
  pub split : sorted (ahead s.lt) (all_items s) ≡ gone ++ rest
  pub near : AllByRecursion (λ x. s.lt x.distance e ≡ true) gone
  pub few : AllByRecursion (λ x. is_node x ≡ true → ltb (nearer_in s x.distance) k ≡ true) gone
  pub came : i ≡ length (filter (λ x. not (is_node x)) gone)
  pub many : n ≡ m + length (filter is_node gone)

and-since : (a b : Bool) → (a ≡ true → b ≡ true) → (a && b) ≡ a
and-since true b h = h refl
and-since false b h = refl

module _ {X : Type 0} where
  keeps-alike : (p q : X → Bool) (xs : List X) → AllByRecursion (λ x. p x ≡ q x) xs → filter p xs ≡ filter q xs
  keeps-alike p q [] h = refl
  keeps-alike p q (x ∷ xs) h = λ i. cond (h.0 i) (x ∷ keeps-alike p q xs h.1 i) (keeps-alike p q xs h.1 i)

  keeps-nothing : (xs : List X) → filter (λ x. false) xs ≡ []
  keeps-nothing [] = refl
  keeps-nothing (x ∷ xs) = keeps-nothing xs

  count-parts : (p : X → Bool) (xs ys : List X) → length (filter p (xs ++ ys)) ≡ length (filter p xs) + length (filter p ys)
  count-parts p xs ys = ap length (filter-append p xs ys) ∙ length-append (filter p xs) (filter p ys)

  count_map : {Y : Type 0} (p : X → Bool) (f : Y → X) (ys : List Y) → length (filter p (map f ys)) ≡ length (filter (λ y. p (f y)) ys)
  count_map p f [] = refl
  count_map p f (y ∷ ys) = ⊎_elim
      (λ (t : p (f y) ≡ true). omega (arith, ap length (keeps p (f y) (map f ys) t), ap length (keeps (λ y. p (f y)) y ys t), count_map p f ys))
      (λ (e : p (f y) ≡ false). omega (arith, ap length (leaves p (f y) (map f ys) e), ap length (leaves (λ y. p (f y)) y ys e), count_map p f ys))
      (cases_Bool (p (f y)))

  -- of a list that rises, none of the rest comes before any of the front
  module _ (lt : X → X → Bool) where
    rest-rises : (xs ys : List X) → Ascending lt (xs ++ ys) → Ascending lt ys
    rest-rises [] ys a = a
    rest-rises (x ∷ xs) ys a = rest-rises xs ys a.1

    rest-behind : (xs ys : List X) → Ascending lt (xs ++ ys) → AllByRecursion (λ y. AllByRecursion (λ x. lt y x ≡ false) xs) ys
    rest-behind [] ys a = any ys
      where
        any : (ys : List X) → AllByRecursion (λ y. Unit {0}) ys
        any [] = tt
        any (y ∷ ys) = (tt, any ys)
    rest-behind (x ∷ xs) ys a = all_both (λ y. lt y x ≡ false) _ ys (all-parts _ xs ys a.0).1 (rest-behind xs ys a.1)

-- a node that does not come before a label is farther
node-first : (a b : Subject) → of_node a ≡ true → not (of_node b) ≡ true → subject_before a b ≡ true
node-first (OfNode n) (OfLabel l) t u = refl
node-first (OfNode n) (OfNode m) t u = absurd (false≢true u)
node-first (OfLabel l) b t u = absurd (false≢true t)

label-nearer : {D : Type 0} (lt : D → D → Bool) (y x : Item D) → ahead lt y x ≡ false → is_node y ≡ true → not (is_node x) ≡ true → lt x.distance y.distance ≡ true
label-nearer lt y x h t u = ⊎_elim (λ e. e)
    (λ (f : lt x.distance y.distance ≡ false). absurd (both_ways (ahead lt y x) h
    (cond-false (lt y.distance x.distance) _ _ (no-nearer lt y x h) ∙ cond-false (lt x.distance y.distance) _ _ f ∙ node-first y.subject x.subject t u)))
    (cases_Bool (lt x.distance y.distance))

module _ {D : Type 0} (s : Scene D) where
  -- all items in order
  abbrev all : List (Item D)
  all = sorted (ahead s.lt) (all_items s)

  abbrev labelled : Item D → Bool
  labelled x = not (is_node x)

  abbrev near_label : D → Item D → Bool
  near_label d x = not (is_node x) && s.lt x.distance d

  abbrev near_node : D → ℕ → Item D → Bool
  near_node e k x = is_node x && (s.lt x.distance e && ltb (nearer_in s x.distance) k)

  count-all : (p : Item D → Bool)
      → length (filter p all) ≡ length (filter (λ n. p (node_item s.near n)) (boxed s.table)) + length (filter (λ l. p (label_item s.to l)) (shown s.view (plan s.table)))
  unfolding all_items
  count-all p = count-arranged (ahead s.lt) p (all_items s) ∙ count-parts p (map (node_item s.near) (boxed s.table)) (map (label_item s.to) (shown s.view (plan s.table)))
      ∙ (λ i. count_map p (node_item s.near) (boxed s.table) i + count_map p (label_item s.to) (shown s.view (plan s.table)) i)

  count-labels : (d : D) → nearer_in s d ≡ length (filter (near_label d) all)
  unfolding nearer_in
  count-labels d = omega (arith, count-all (near_label d), ap length (keeps-nothing (boxed s.table)))

  count-nodes : (e : D) (k : ℕ) → nodes_before s e k ≡ length (filter (near_node e k) all)
  unfolding nodes_before
  count-nodes e k = omega (arith, count-all (near_node e k), ap length (keeps-nothing (shown s.view (plan s.table))))

module _ {D : Type 0} (s : Scene D) (fair : Fair s) where
  -- the items in two parts
  module _ (gone rest : List (Item D)) (split : all s ≡ gone ++ rest) where
    rises : Ascending (ahead s.lt) (gone ++ rest)
    rises = subst (Ascending (ahead s.lt)) split (sorted-ascends (order s fair) (all_items s))

    count-split : (p : Item D → Bool) → length (filter p (all s)) ≡ length (filter p gone) + length (filter p rest)
    count-split p = ap (λ l. length (filter p l)) split ∙ count-parts p gone rest

    -- where the rest is no nearer, no more labels are nearer than there are in the first part
    at_most : (d : D) → AllByRecursion (λ y. s.lt y.distance d ≡ false) rest → nearer_in s d ≤ length (filter (labelled s) gone)
    at_most d h = omega (
      arith,
      count-labels s d,
      count-split (near_label s d),
      keeps-more (near_label s d) (labelled s) (λ x t. (and_parts _ _ t).0) gone,
      ap length (keeps-none (near_label s d) rest (All-weaker _ (λ y. near_label s d y ≡ false) (λ y f. and_right _ _ f) rest h)),
    )

    -- where the labels of the first part are nearer, at least as many are
    at_least : (d : D) → AllByRecursion (λ x. labelled s x ≡ true → s.lt x.distance d ≡ true) gone → length (filter (labelled s) gone) ≤ nearer_in s d
    at_least d h = omega (
      arith,
      count-labels s d,
      count-split (near_label s d),
      ap length (keeps-alike (near_label s d) (labelled s) gone (All-weaker _ (λ x. near_label s d x ≡ labelled s x) (λ x f. and-since _ _ f) gone h)),
    )

    -- where the nodes of the first part are counted and those of the rest are not
    walked : (e : D) (k : ℕ) → AllByRecursion (λ x. s.lt x.distance e ≡ true) gone → AllByRecursion (λ x. is_node x ≡ true → ltb (nearer_in s x.distance) k ≡ true) gone
        → AllByRecursion (λ y. near_node s e k y ≡ false) rest → nodes_before s e k ≡ length (filter is_node gone)
    walked e k near few h = omega (
      arith,
      count-nodes s e k,
      count-split (near_node s e k),
      ap length (keeps-none (near_node s e k) rest h),
      ap length (keeps-alike (near_node s e k) is_node gone (All-weaker _ (λ x. near_node s e k x ≡ is_node x) (λ x f. and-since _ _ (λ t. and_from _ _ f.0 (f.1 t))) gone (all_both _ _ gone near few))),
    )

  module _ (e : D) (k : ℕ) where
    pub begin : (m : ℕ) → Checked s e k 0 (sorted (ahead s.lt) (all_items s)) m m
    begin m = record { gone = []; split = refl; near = tt; few = tt; came = refl; many = omega arith }

    module _ {i m n : ℕ} where
      -- past a node
      past-node : (x : Item D) (rest : List (Item D)) → Checked s e k i (x ∷ rest) m n → i < k → is_node x ≡ true → s.lt x.distance e ≡ true → Checked s e k i rest m (n + 1)
      past-node x rest c l t h =
          let g = c.gone in
          let a = rest-rises _ g (x ∷ rest) (rises g (x ∷ rest) c.split) in
          let later : AllByRecursion (λ y. s.lt y.distance x.distance ≡ false) (x ∷ rest) = (fair.order.never x.distance, All-weaker _ _ (λ y. no-nearer s.lt y x) rest a.0) in
          record {
            gone = g ++ x ∷ [];
            split = c.split ∙ sym (append_assoc g (x ∷ []) rest);
            near = All-push _ g x c.near h;
            few = All-push _ g x c.few (λ u. lt-ltb _ k (omega (arith, c.came, at_most g (x ∷ rest) c.split x.distance later)));
            came = omega (arith, c.came, count-parts (labelled s) g (x ∷ []), ap length (leaves (labelled s) x [] (not_from_true _ t)));
            many = omega (arith, c.many, count-parts is_node g (x ∷ []), ap length (keeps is_node x [] t));
          }

      past-label : (x : Item D) (rest : List (Item D)) → Checked s e k i (x ∷ rest) m n → is_node x ≡ false → s.lt x.distance e ≡ true → Checked s e k (i + 1) rest m n
      past-label x rest c f h =
          let g = c.gone in
          record {
            gone = g ++ x ∷ [];
            split = c.split ∙ sym (append_assoc g (x ∷ []) rest);
            near = All-push _ g x c.near h;
            few = All-push _ g x c.few (λ t. absurd (both_ways (is_node x) f t));
            came = omega (arith, c.came, count-parts (labelled s) g (x ∷ []), ap length (keeps (labelled s) x [] (not_from_false _ f)));
            many = omega (arith, c.many, count-parts is_node g (x ∷ []), ap length (leaves is_node x [] f));
          }

    past-nodes : {i m : ℕ} (n : ℕ) (front rest : List (Item D)) → Checked s e k i (front ++ rest) m n → i < k → Passes s.lt (Before e) front → Checked s e k i rest m (n + length front)
    past-nodes {i} {m} n [] rest c l h = subst (Checked s e k i rest m) (omega arith) c
    past-nodes {i} {m} n (x ∷ front) rest c l h = subst (Checked s e k i rest m) (omega arith) (past-nodes (n + 1) front rest (past-node x (front ++ rest) c l h.0.0 h.0.1) l h.1)

    -- where a walk stops all is as far as the end
    stopped : (gone rest : List (Item D)) → all s ≡ gone ++ rest → Stops s.lt (Before e) rest → AllByRecursion (λ y. s.lt y.distance e ≡ false) rest
    stopped gone [] split h = tt
    stopped gone (x ∷ rest) split h =
        let a = rest-rises _ gone (x ∷ rest) (rises gone (x ∷ rest) split) in
        (h, All-weaker _ _ (λ y f. chain-not fair.order y.distance x.distance e (no-nearer s.lt y x f) h) rest a.0)

    module _ {i m n : ℕ} {before : List (Item D)} (c : Checked s e k i before m n) (fewer : i < k) (items : List (Item D)) (n' : ℕ) where
      -- to the next label
      pub goes_on : (r : Arrival D) → Next s (Before e) before items n n' (Some r) → Checked s e k (i + 1) (left s (take r.waiting items)) m n'
      goes_on r (front, is, passes, meter, admitted, waits) =
          let rest = left s (take r.waiting items) in
          let there = past-nodes n front (found r.distance r.label ∷ rest) (subst (λ l. Checked s e k i l m n) is c) fewer passes in
          past-label (found r.distance r.label) rest (subst (Checked s e k i (found r.distance r.label ∷ rest) m) (sym meter) there) refl admitted

      -- the end before k labels have come
      pub stops-short : Next s (Before e) before items n n' None → (ltb (nearer_in s e) k ≡ true) × (n' ≡ m + nodes_before s e k)
      stops-short (front, rest, is, passes, meter, stops) =
          let there = past-nodes n front rest (subst (λ l. Checked s e k i l m n) is c) fewer passes in
          let g = there.gone in
          let far = stopped g rest there.split stops in (
            lt-ltb _ k (omega (arith, there.came, at_most g rest there.split e far)),
            omega (arith, meter, there.many, walked g rest there.split e k there.near there.few (All-weaker _ (λ y. near_node s e k y ≡ false) (λ y f. and_right _ _ (and_left _ _ f)) rest far)),
          )

    -- the end where k labels have come
    pub stops-full : {m n : ℕ} {rest : List (Item D)} → Checked s e k k rest m n → (ltb (nearer_in s e) k ≡ false) × (n ≡ m + nodes_before s e k)
    stops-full {m} {n} {rest} c =
        let g = c.gone in
        let beyond : AllByRecursion (λ y. near_node s e k y ≡ false) rest = All-weaker _ _ (λ y h. none y h) rest (rest-behind (ahead s.lt) g rest (rises g rest c.split)) in (
          le-ltb _ k (omega (arith, c.came, at_least g rest c.split e (All-weaker _ _ (λ x t u. t) g c.near))),
          omega (arith, c.many, walked g rest c.split e k c.near c.few beyond),
        )
      where
        none : (y : Item D) → AllByRecursion (λ x. ahead s.lt y x ≡ false) c.gone → near_node s e k y ≡ false
        none y h = ⊎_elim
            (λ (t : is_node y ≡ true). and_right (is_node y) _ (and_right (s.lt y.distance e) _ (le-ltb (nearer_in s y.distance) k (omega (arith, c.came, at_least c.gone rest c.split y.distance (All-weaker _ _ (λ x f u. label-nearer s.lt y x f t u) c.gone h))))))
            (λ (f : is_node y ≡ false). and_left _ _ f)
            (cases_Bool (is_node y))

    -- the openings so far, and all that may come, are no more than a work list has places
    pub checked-meter : {i m n : ℕ} {rest : List (Item D)} → Checked s e k i rest m n → n + length rest ≤ m + work_places s.table
    checked-meter {rest = rest} c = omega (arith, c.many, ap length c.split, length-append c.gone rest, length-filter_both is_node (λ x. not (is_node x)) (λ x. refl) c.gone, ap length (whole s fair), enough-room s fair)

pub boxed-many : (t : Table) → Lawful t → length (boxed t) ≡ node_count t
boxed-many t lawful = sym (length-map (boxed t) (λ b. b.0)) ∙ sym (length-sorted number-order (map (λ b. b.0) (boxed t))) ∙ ap length (boxed-once t lawful)
    ∙ length-sorted number-order (range_with_len 0 (node_count t)) ∙ length-range_with_len 0 (node_count t)

no-more-nodes : (t : Table) → Lawful t → (p : ℕ × Rect → Bool) → length (filter p (boxed t)) ≤ node_count t
no-more-nodes t lawful p = omega (arith, boxed-many t lawful, length-filter_both p (λ n. not (p n)) (λ n. refl) (boxed t))

pub nodes-bound : {D : Type 0} (s : Scene D) (e : D) (k : ℕ) → Lawful s.table → nodes_before s e k ≤ node_count s.table
unfolding nodes_before
nodes-bound s e k lawful = no-more-nodes s.table lawful (λ n. s.lt (s.near n.1) e && ltb (nearer_in s (s.near n.1)) k)

pub reach-of-bound : (near : Ranking) (t : Table) (q : Place) (k : ℕ) (ls : List Label) (c : Label) → Lawful t → reach_of near t q k ls c ≤ node_count t
unfolding reach_of
reach-of-bound near t q k ls c lawful = no-more-nodes t lawful (λ n. in_reach_of near q k (others (Some c.number) ls) c n.1)

-- the same in the terms of a query, of its candidate c
module _ {D : Type 0} (lt : D → D → Bool) (dist : Place → Place → D) (bound : Place → Rect → D) (t : Table) (own : Option ℕ) (c : Label) where
  -- what the check of c sees
  abbrev pub checked : Scene D
  checked = scene lt t dist bound (record { from = c.place; own = own; candidate = Some c.number })

  pub tells-confirmed : (q : Place) (k : ℕ) → ltb (nearer_in checked (dist c.place q)) k ≡ confirmed (ranking lt dist bound) q k (others own (plan t)) c
  unfolding nearer_in shown confirmed nearer_than
  tells-confirmed q k = refl

  pub tells-reach-of : Order lt → (q : Place) (k : ℕ) → 1 ≤ k → nodes_before checked (dist c.place q) k ≡ reach_of (ranking lt dist bound) t q k (others own (plan t)) c
  unfolding nodes_before nearer_in shown reach_of nearer_than
  tells-reach-of o q k one = ap (λ (p : ℕ × Rect → Bool). length (filter p (boxed t)))
      (sym (λ i n. in-reach-of (ranking lt dist bound) q k (others (Some c.number) (others own (plan t))) c (ranks o dist bound c.place) n.1 one i))
