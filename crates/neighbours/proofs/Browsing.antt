-- A query walks through exactly the items than which fewer than k labels are nearer.
use Rattle.std.proofs.Common.{◌≡◌, ℕ, ◌-◌, ◌<◌, ◌≤◌, Bool, true, false, cond, not, ◌&&◌, ltb, List, [], ◌∷◌, ◌++◌, map, length, filter, sym, refl, ap, ◌∙◌, subst, ⊎_elim, arith}
use Rattle.std.specs.List.{flat_map, AllByRecursion}
use Rattle.std.proofs.lemmas.List.{append-nil, append_assoc, map-append, length-map, drop_all, drop_more, get_or_past}
use Rattle.std.proofs.lemmas.List.Elements.{filter-append}
use Rattle.std.proofs.ByRecursion.{All-append, All-weaker, All-map, all_kept_by}
use Rattle.std.proofs.lemmas.Bool.{cases_Bool, cases_lt, both_ways, cond_both, cond-true, cond-false, not_from_true}
use Rattle.std.proofs.lemmas.Bool.Decides.{nat_tests}
use Rattle.geometry.specs.declared.label.Label.{Label}
use Rattle.queue.specs.Order.{Order, sorted}
use Rattle.queue.proofs.Sorting.{chain-not}
use Rattle.queue.proofs.Keeping.{keeps, leaves, keeps-none, keeps-more}
use Rattle.queue.proofs.Ascending.{Ascending, sorted-ascends}
use Rattle.listing.specs.Rising.{counts-before, decides-candidate}
use Rattle.index.specs.Table.{plan, boxed}
use Rattle.neighbours.specs.declared.item.Item.{Item}
use Rattle.neighbours.specs.declared.item.Subject.{Subject}
use Rattle.neighbours.specs.declared.item.Subject.TheVariants.{OfNode, OfLabel}
use Rattle.neighbours.specs.declared.limit.Limit.{Limit}
use Rattle.neighbours.specs.Items.{ahead}
use Rattle.neighbours.specs.Limits.{admits, up_to_first, limit_of}
use Rattle.neighbours.specs.Scene.{Scene, label_item, node_item, shown, all_items}
use Rattle.neighbours.specs.Walks.{is_node, Stops, Passes, nearer_in}
use Rattle.neighbours.proofs.Bags.{all-parts}
use Rattle.neighbours.proofs.Arranging.{count-arranged}
use Rattle.neighbours.proofs.Whole.{kept-twice}
use Rattle.neighbours.proofs.Scenes.{Fair, order}

-- the labels of items
abbrev pub label_of : Subject → List Label
label_of (OfNode n) = []
label_of (OfLabel l) = l ∷ []

abbrev pub labels_of : {D : Type 0} → List (Item D) → List Label
labels_of xs = flat_map (λ x. label_of x.subject) xs

-- the distances of the labels of items
unfoldable pub dists : {D : Type 0} → List (Item D) → List D
dists xs = map (λ x. x.distance) (filter (λ x. not (is_node x)) xs)

-- fewer than k of the labels shown are nearer than the item
unfoldable pub passes : {D : Type 0} → Scene D → ℕ → Item D → Bool
passes s k x = ltb (nearer_in s x.distance) k

-- all items of the tree, in order
abbrev pub in_turn : {D : Type 0} → Scene D → List (Item D)
in_turn s = sorted (ahead s.lt) (all_items s)

module _ {X : Type 0} where
  pub keeps-all : (p : X → Bool) (xs : List X) → AllByRecursion (λ x. p x ≡ true) xs → filter p xs ≡ xs
  keeps-all p [] h = refl
  keeps-all p (x ∷ xs) h = keeps p x xs h.0 ∙ ap (λ l. x ∷ l) (keeps-all p xs h.1)

  pub kept_map : {Y : Type 0} (p : Y → Bool) (f : X → Y) (xs : List X) → filter p (map f xs) ≡ map f (filter (λ x. p (f x)) xs)
  kept_map p f [] = refl
  kept_map p f (x ∷ xs) = cond_both (p (f x)) (x ∷ filter (λ x. p (f x)) xs) (filter (λ x. p (f x)) xs) (λ l. cond (p (f x)) (f x ∷ filter p (map f xs)) (filter p (map f xs)) ≡ map f l)
      (λ t. cond-true (p (f x)) _ _ t ∙ ap (λ l. f x ∷ l) (kept_map p f xs))
      (λ e. cond-false (p (f x)) _ _ e ∙ kept_map p f xs)

  pub none_left : {Y : Type 0} (p : Y → Bool) (f : X → Y) → ((x : X) → p (f x) ≡ false) → (xs : List X) → filter p (map f xs) ≡ []
  none_left p f h [] = refl
  none_left p f h (x ∷ xs) = leaves p (f x) (map f xs) (h x) ∙ none_left p f h xs

-- how many nodes, and how many labels, of all items pass a test
module _ {D : Type 0} (s : Scene D) (p : Item D → Bool) where
  pub count-nodes : length (filter (λ x. is_node x && p x) (in_turn s)) ≡ length (filter (λ n. p (node_item s.near n)) (boxed s.table))
  unfolding all_items
  count-nodes =
      let r : Item D → Bool = λ x. is_node x && p x in
      let nodes = map (node_item s.near) (boxed s.table) in
      let labels = map (label_item s.to) (shown s.view (plan s.table)) in
      count-arranged (ahead s.lt) r (nodes ++ labels) ∙ ap length (filter-append r nodes labels
      ∙ (λ i. kept_map r (node_item s.near) (boxed s.table) i ++ none_left r (label_item s.to) (λ l. refl) (shown s.view (plan s.table)) i) ∙ append-nil _)
      ∙ length-map (filter (λ n. p (node_item s.near n)) (boxed s.table)) (node_item s.near)

  pub count-labels : length (filter (λ x. not (is_node x) && p x) (in_turn s)) ≡ length (filter (λ l. p (label_item s.to l)) (shown s.view (plan s.table)))
  unfolding all_items
  count-labels =
      let r : Item D → Bool = λ x. not (is_node x) && p x in
      let ls = shown s.view (plan s.table) in
      let nodes = map (node_item s.near) (boxed s.table) in
      count-arranged (ahead s.lt) r (nodes ++ map (label_item s.to) ls) ∙ ap length (filter-append r nodes (map (label_item s.to) ls)
      ∙ (λ i. none_left r (node_item s.near) (λ n. refl) (boxed s.table) i ++ kept_map r (label_item s.to) ls i))
      ∙ length-map (filter (λ l. p (label_item s.to l)) ls) (label_item s.to)

-- the distances of the labels, where the items rise
module _ {D : Type 0} where
  count-dists : (p : D → Bool) (xs : List (Item D)) → length (filter p (dists xs)) ≡ length (filter (λ x. not (is_node x) && p x.distance) xs)
  unfolding dists
  count-dists p xs =
      let labels = filter (λ (x : Item D). not (is_node x)) xs in
      ap length (kept_map p (λ (x : Item D). x.distance) labels) ∙ length-map (filter (λ x. p x.distance) labels) (λ x. x.distance)
      ∙ ap length (kept-twice (λ x. not (is_node x)) (λ x. p x.distance) xs)

  pub dists-append : (xs ys : List (Item D)) → dists (xs ++ ys) ≡ dists xs ++ dists ys
  unfolding dists
  dists-append xs ys = ap (map (λ x. x.distance)) (filter-append (λ x. not (is_node x)) xs ys) ∙ map-append (λ x. x.distance) (filter (λ x. not (is_node x)) xs) (filter (λ x. not (is_node x)) ys)

  dists-nodes : (xs : List (Item D)) → AllByRecursion (λ x. is_node x ≡ true) xs → dists xs ≡ []
  unfolding dists
  dists-nodes xs h = ap (map (λ x. x.distance)) (keeps-none (λ x. not (is_node x)) xs (All-weaker (λ x. is_node x ≡ true) (λ x. not (is_node x) ≡ false) (λ x t. not_from_true (is_node x) t) xs h))

  -- nodes leave them as they are
  pub dists-past : (gone front : List (Item D)) → AllByRecursion (λ x. is_node x ≡ true) front → dists (gone ++ front) ≡ dists gone
  dists-past gone front h = dists-append gone front ∙ ap (λ l. dists gone ++ l) (dists-nodes front h) ∙ append-nil (dists gone)

  all-dists : (P : D → Type 0) (xs : List (Item D)) → AllByRecursion (λ x. P x.distance) xs → AllByRecursion P (dists xs)
  unfolding dists
  all-dists P xs h = All-map P (λ (x : Item D). x.distance) (filter (λ x. not (is_node x)) xs) (all_kept_by (λ x. not (is_node x)) (λ x. P x.distance) xs h)

  module _ (lt : D → D → Bool) where
    rising : (gone : List (Item D)) (x : Item D) (rest : List (Item D)) → Ascending (λ a b. lt a.distance b.distance) (gone ++ x ∷ rest) → Ascending lt (dists gone ++ x.distance ∷ [])
    unfolding dists
    rising [] x rest h = (tt, tt)
    rising (y ∷ gone) x rest h =
        let P : Item D → Type 0 = λ z. lt z.distance y.distance ≡ false in
        let parts = all-parts P gone (x ∷ rest) h.0 in
        let here = All-append (λ e. lt e y.distance ≡ false) (dists gone) (x.distance ∷ []) (all-dists (λ e. lt e y.distance ≡ false) gone parts.0) (parts.1.0, tt) in
        let labels = filter (λ (z : Item D). not (is_node z)) gone in
        cond_both (not (is_node y)) (y ∷ labels) labels (λ l. Ascending lt (map (λ z. z.distance) l ++ x.distance ∷ [])) (λ t. (here, rising gone x rest h.1)) (λ f. rising gone x rest h.1)

    pub nodes : (limit : Limit D) (front : List (Item D)) → Passes lt limit front → AllByRecursion (λ x. is_node x ≡ true) front
    nodes limit front h = All-weaker (λ x. (is_node x ≡ true) × (admits lt limit x.distance ≡ true)) (λ x. is_node x ≡ true) (λ x e. e.0) front h

    -- what comes no earlier is no nearer
    pub no-nearer : (x y : Item D) → ahead lt x y ≡ false → lt x.distance y.distance ≡ false
    no-nearer x y h = ⊎_elim (λ t. absurd (both_ways (ahead lt x y) h (cond-true (lt x.distance y.distance) _ _ t))) (λ f. f) (cases_Bool (lt x.distance y.distance))

    by-distance : (xs : List (Item D)) → Ascending (ahead lt) xs → Ascending (λ a b. lt a.distance b.distance) xs
    by-distance [] h = tt
    by-distance (x ∷ xs) h = (All-weaker (λ y. ahead lt y x ≡ false) (λ y. lt y.distance x.distance ≡ false) (λ y f. no-nearer y x f) xs h.0, by-distance xs h.1)

-- of distances that rise up to d, the limit admits d when fewer than k are less
admits-few : {D : Type 0} {lt : D → D → Bool} → Order lt → (k : ℕ) (ds : List D) (d : D) → 1 ≤ k → Ascending lt (ds ++ d ∷ []) → admits lt (limit_of k ds) d ≡ ltb (length (filter (λ e. lt e d) ds)) k
admits-few {D} {lt} o k ds d one r =
    let key : D → D = λ e. e in
    let decided = decides-candidate o key k ds d [] one r in
    let before = ap (λ n. ltb n k) (counts-before o key ds d [] r) in
    ⊎_elim
    (λ (l : k - 1 < length ds). ap (λ l. admits lt (up_to_first l) d) (drop_more ds (k - 1) d l))
    (λ (l : length ds ≤ k - 1). ap (λ l. admits lt (up_to_first l) d) (drop_all (k - 1) ds l) ∙ ap not (sym (o.never d)) ∙ ap (λ e. not (lt e d)) (sym (get_or_past ds (k - 1) d l)))
    (cases_lt (k - 1) (length ds))
    ∙ sym decided ∙ before

module _ {D : Type 0} (s : Scene D) (fair : Fair s) where
  in-turn-rises : Ascending (λ a b. s.lt a.distance b.distance) (in_turn s)
  in-turn-rises = by-distance s.lt (in_turn s) (sorted-ascends (order s fair) (all_items s))

  nearer-dists : (d : D) → nearer_in s d ≡ length (filter (λ e. s.lt e d) (dists (in_turn s)))
  unfolding nearer_in
  nearer-dists d = sym (count-labels s (λ x. s.lt x.distance d)) ∙ sym (count-dists (λ e. s.lt e d) (in_turn s))

  -- what comes from x on is no nearer than x
  from_on : (gone : List (Item D)) (x : Item D) (rest : List (Item D)) → in_turn s ≡ gone ++ x ∷ rest → AllByRecursion (λ y. s.lt y.distance x.distance ≡ false) (x ∷ rest)
  from_on gone x rest e = (fair.order.never x.distance, (behind gone (subst (Ascending _) e in-turn-rises)).0)
    where
      behind : (ys : List (Item D)) → Ascending (λ a b. s.lt a.distance b.distance) (ys ++ x ∷ rest) → Ascending (λ a b. s.lt a.distance b.distance) (x ∷ rest)
      behind [] r = r
      behind (y ∷ ys) r = behind ys r.1

  nearer-gone : (gone : List (Item D)) (x : Item D) (rest : List (Item D)) → in_turn s ≡ gone ++ x ∷ rest → nearer_in s x.distance ≡ length (filter (λ e. s.lt e x.distance) (dists gone))
  nearer-gone gone x rest e =
      let near : D → Bool = λ e. s.lt e x.distance in
      nearer-dists x.distance ∙ ap length (ap (λ l. filter near (dists l)) e ∙ ap (filter near) (dists-append gone (x ∷ rest)) ∙ filter-append near (dists gone) (dists (x ∷ rest))
      ∙ ap (λ l. filter near (dists gone) ++ l) (keeps-none near (dists (x ∷ rest)) (all-dists (λ e. near e ≡ false) (x ∷ rest) (from_on gone x rest e))) ∙ append-nil _)

  -- none nearer, then no fewer are nearer
  nearer-more : (d e : D) → s.lt e d ≡ false → nearer_in s d ≤ nearer_in s e
  unfolding nearer_in
  nearer-more d e h = keeps-more (λ l. s.lt (s.to l.place) d) (λ l. s.lt (s.to l.place) e)
      (λ l t. ⊎_elim (λ g. g) (λ f. absurd (both_ways (s.lt (s.to l.place) d) (chain-not fair.order (s.to l.place) e d f h) t)) (cases_Bool (s.lt (s.to l.place) e))) (shown s.view (plan s.table))

  module _ (k : ℕ) (one : 1 ≤ k) where
    pub decision : (gone : List (Item D)) (x : Item D) (rest : List (Item D)) → in_turn s ≡ gone ++ x ∷ rest → admits s.lt (limit_of k (dists gone)) x.distance ≡ passes s k x
    unfolding passes
    decision gone x rest e = admits-few fair.order k (dists gone) x.distance one (rising s.lt gone x rest (subst (Ascending _) e in-turn-rises))
        ∙ ap (λ n. ltb n k) (sym (nearer-gone gone x rest e))

    -- past an item that does not pass none passes
    none_passes : (gone : List (Item D)) (x : Item D) (rest : List (Item D)) → in_turn s ≡ gone ++ x ∷ rest → passes s k x ≡ false → filter (passes s k) (x ∷ rest) ≡ []
    unfolding passes
    none_passes gone x rest e f = keeps-none (passes s k) (x ∷ rest) (All-weaker (λ y. s.lt y.distance x.distance ≡ false) (λ y. passes s k y ≡ false) (λ y h. farther y h) (x ∷ rest) (from_on gone x rest e))
      where
        farther : (y : Item D) → s.lt y.distance x.distance ≡ false → passes s k y ≡ false
        farther y h = let m = nearer-more x.distance y.distance h in grind (arith, nat_tests)

    -- nodes that the limit admits pass
    front-passes : (gone front rest : List (Item D)) → in_turn s ≡ gone ++ (front ++ rest) → Passes s.lt (limit_of k (dists gone)) front → AllByRecursion (λ x. passes s k x ≡ true) front
    front-passes gone [] rest e h = tt
    front-passes gone (x ∷ front) rest e h = (
      sym (decision gone x (front ++ rest) e) ∙ h.0.1,
      front-passes (gone ++ x ∷ []) front rest (e ∙ sym (append_assoc gone (x ∷ []) (front ++ rest)))
          (subst (λ ds. Passes s.lt (limit_of k ds) front) (sym (dists-past gone (x ∷ []) (h.0.0, tt))) h.1),
    )

    -- the walk goes on to one more item, or it stops
    module _ (gone before front rest : List (Item D)) (so_far : AllByRecursion (λ x. passes s k x ≡ true) gone) (all : in_turn s ≡ gone ++ before) (front-in : Passes s.lt (limit_of k (dists gone)) front) where
      at-limit : (x : Item D) (more : List (Item D)) → before ≡ front ++ x ∷ more → admits s.lt (limit_of k (dists gone)) x.distance ≡ passes s k x
      at-limit x more e = ap (λ ds. admits s.lt (limit_of k ds) x.distance) (sym (dists-past gone front (nodes s.lt (limit_of k (dists gone)) front front-in)))
          ∙ decision (gone ++ front) x more (all ∙ ap (λ l. gone ++ l) e ∙ sym (append_assoc gone front (x ∷ more)))

      walked : (more : List (Item D)) → before ≡ front ++ more → AllByRecursion (λ x. passes s k x ≡ true) (gone ++ front)
      walked more e = All-append (λ x. passes s k x ≡ true) gone front so_far (front-passes gone front more (all ∙ ap (λ l. gone ++ l) e) front-in)

      pub more-passes : (x : Item D) → before ≡ front ++ x ∷ rest → admits s.lt (limit_of k (dists gone)) x.distance ≡ true → AllByRecursion (λ x. passes s k x ≡ true) (gone ++ (front ++ x ∷ []))
      more-passes x e h = subst (AllByRecursion (λ x. passes s k x ≡ true)) (append_assoc gone front (x ∷ []))
          (All-append (λ x. passes s k x ≡ true) (gone ++ front) (x ∷ []) (walked (x ∷ rest) e) (sym (at-limit x rest e) ∙ h, tt))

      pub more-gone : (x : Item D) → before ≡ front ++ x ∷ rest → in_turn s ≡ (gone ++ (front ++ x ∷ [])) ++ rest
      more-gone x e = all ∙ ap (λ l. gone ++ l) (e ∙ sym (append_assoc front (x ∷ []) rest)) ∙ sym (append_assoc gone (front ++ x ∷ []) rest)

      pub whole-walk : before ≡ front ++ rest → Stops s.lt (limit_of k (dists gone)) rest → filter (passes s k) (in_turn s) ≡ gone ++ front
      whole-walk e stops =
          let split : in_turn s ≡ (gone ++ front) ++ rest = all ∙ ap (λ l. gone ++ l) e ∙ sym (append_assoc gone front rest) in
          ap (filter (passes s k)) split ∙ filter-append (passes s k) (gone ++ front) rest
          ∙ (λ i. keeps-all (passes s k) (gone ++ front) (walked rest e) i ++ past rest e split stops i) ∙ append-nil (gone ++ front)
        where
          past : (more : List (Item D)) → before ≡ front ++ more → in_turn s ≡ (gone ++ front) ++ more → Stops s.lt (limit_of k (dists gone)) more → filter (passes s k) more ≡ []
          past [] e split h = refl
          past (x ∷ more) e split h = none_passes (gone ++ front) x more split (sym (at-limit x more e) ∙ h)
