-- A query collects its answers candidate by candidate.
use Rattle.std.proofs.Common.{◌≡◌, ℕ, ◌+◌, ◌*◌, ◌<◌, ◌≤◌, Bool, true, false, cond, not, eqb, leb, List, [], ◌∷◌, ◌++◌, map, length, get_or, take, drop, set, Some, None, sum_by, filter, Option, sym, refl, ap, ◌∙◌, subst, arith, length-append}
use Rattle.std.specs.List.{AllByRecursion}
use Rattle.std.proofs.lemmas.List.{append_assoc, append-nil, map-append, drop_more, drop_all, set_at, take_all, take_at}
use Rattle.std.proofs.lemmas.List.Elements.{filter-append}
use Rattle.std.proofs.ByRecursion.{All-append, sum_by_le}
use Rattle.std.proofs.lemmas.List.Sums.{sum_by_push}
use Rattle.std.proofs.lemmas.List.Filters.{length-filter_both}
use Rattle.std.proofs.lemmas.Bool.Decides.{nat_tests}
use Rattle.std.proofs.lemmas.Bool.{cond-true, cond-false, le-leb, lt-leb}
use Rattle.geometry.specs.declared.place.Place.{Place}
use Rattle.geometry.specs.declared.rect.Rect.{Rect}
use Rattle.geometry.specs.declared.label.Label.{Label}
use Rattle.queue.specs.Order.{sorted}
use Rattle.queue.proofs.Keeping.{keeps, leaves}
use Rattle.index.specs.Table.{Table, plan, boxed}
use Rattle.neighbours.specs.declared.arrival.Arrival.{Arrival}
use Rattle.neighbours.specs.declared.item.Item.{Item}
use Rattle.neighbours.specs.declared.item.Subject.{Subject}
use Rattle.neighbours.specs.declared.item.Subject.TheVariants.{OfNode, OfLabel}
use Rattle.neighbours.specs.declared.limit.Limit.{Limit}
use Rattle.neighbours.specs.declared.limit.Limit.TheVariants.{Anywhere, UpTo}
use Rattle.neighbours.specs.Limits.{admits, limit_of}
use Rattle.neighbours.specs.Items.{ahead}
use Rattle.neighbours.specs.Ranking.{ranking}
use Rattle.neighbours.specs.Neighbours.{others, candidates, confirmed, mutuals, closer, in_order, nearest_answers, mutual_answers}
use Rattle.neighbours.specs.Reach.{reach, reach_of, nearest_openings, mutual_openings}
use Rattle.neighbours.specs.Scene.{Scene, label_item, node_item, shown, left, all_items, work_places}
use Rattle.neighbours.specs.Walks.{is_node, Passes, Stops, found, Next}
use Rattle.neighbours.proofs.Bags.{all-parts}
use Rattle.neighbours.proofs.Scenes.{Fair}
use Rattle.neighbours.proofs.Arranging.{all-arranged}
use Rattle.neighbours.proofs.Answering.{kept-in-order, distinct-kept, distinct-others}
use Rattle.neighbours.proofs.Confirming.{reach-of-bound}
use Rattle.neighbours.proofs.Browsing.{labels_of, dists, passes, in_turn, keeps-all, more-passes, more-gone, whole-walk}
use Rattle.neighbours.proofs.Browsed.{asking, no-limit, one_more, as_many, dists-more, labels-past, labels-more, nodes-past, nodes-more, walk-labels, walk-nodes, part-labels, few-items, few-parts, sum-arranged}
use Rattle.search.specs.Answers.{answers_of, openings_of, accepts, costs, put_at, fitting}

-- the answers ns were put into the front of a list
pub record Put (before after : List ℕ) (count : ℕ) (ns : List ℕ) : Type 0 where
  pub many : count ≡ length ns
  pub fits : length ns ≤ length before
  pub list : after ≡ ns ++ drop (length ns) before

pub put-none : (before : List ℕ) → Put before before 0 []
put-none before = record { many = refl; fits = omega arith; list = refl }

pub put-more : (before after : List ℕ) (count : ℕ) (ns : List ℕ) (n : ℕ) → Put before after count ns → count < length before → Put before (set after count n) (count + 1) (ns ++ n ∷ [])
put-more before after count ns n p room =
    let long = length-append ns (n ∷ []) in
    record {
      many = omega (arith, p.many, long);
      fits = omega (arith, p.many, long);
      list = ap (λ l. set l count n) (p.list ∙ ap (λ l. ns ++ l) (drop_more before (length ns) n (omega (arith, p.many))))
          ∙ set_at ns (get_or before (length ns) n) (drop (length ns + 1) before) n count (sym p.many)
          ∙ sym (append_assoc ns (n ∷ []) (drop (length ns + 1) before))
          ∙ ap (λ i. (ns ++ n ∷ []) ++ drop i before) (omega (arith, long));
    }

-- what putting an answer tells of the room
pub put-room : (answers : List ℕ) (count n : ℕ) → put_at answers count ≡ Some n → (count < length answers) × (n ≡ count + 1)
put-room answers count n e = grind (arith, nat_tests)

pub put_full : (answers : List ℕ) (count : ℕ) → put_at answers count ≡ None → length answers ≤ count
put_full answers count e = grind (arith, nat_tests)

-- all answers were put: they fit
pub put_all : (before after : List ℕ) (count : ℕ) (ns : List ℕ) → Put before after count ns → (Some count ≡ fitting ns (length before)) × (after ≡ take (length before) ns ++ drop (length ns) before)
put_all before after count ns p = (
  ap (λ n. Some n) p.many ∙ sym (cond-true (leb (length ns) (length before)) (Some (length ns)) None (le-leb (length ns) (length before) p.fits)),
  p.list ∙ ap (λ l. l ++ drop (length ns) before) (sym (take_all (length before) ns p.fits)),
)

-- there is one answer more than places
pub put-over : (before after : List ℕ) (count : ℕ) (ns : List ℕ) (n : ℕ) (more : List ℕ) → Put before after count ns → length before ≤ count
    → (None ≡ fitting (ns ++ n ∷ more) (length before)) × (after ≡ take (length before) (ns ++ n ∷ more) ++ drop (length (ns ++ n ∷ more)) before)
put-over before after count ns n more p full =
    let long = length-append ns (n ∷ more) in
    let same : length ns ≡ length before = omega (arith, p.many, p.fits) in (
      sym (cond-false (leb (length (ns ++ n ∷ more)) (length before)) (Some (length (ns ++ n ∷ more))) None (lt-leb (length (ns ++ n ∷ more)) (length before) (omega (arith, long)))),
      p.list
          ∙ ap (λ l. ns ++ l) (drop_all (length ns) before (omega arith) ∙ sym (drop_all (length (ns ++ n ∷ more)) before (omega (arith, long))))
          ∙ ap (λ l. l ++ drop (length (ns ++ n ∷ more)) before) (sym (take_at ns (n ∷ more) (length before) same)),
    )

-- the numbers of the labels that a test keeps
abbrev numbers : (Label → Bool) → List Label → List ℕ
numbers test ls = map (λ l. l.number) (filter test ls)

numbers-append : (test : Label → Bool) (ls ms : List Label) → numbers test (ls ++ ms) ≡ numbers test ls ++ numbers test ms
numbers-append test ls ms = ap (map (λ l. l.number)) (filter-append test ls ms) ∙ map-append (λ (l : Label). l.number) (filter test ls) (filter test ms)

-- a label stands at its distance
abbrev Stands : {D : Type 0} → Scene D → D → Subject → Type 0
Stands s d (OfNode n) = Unit {0}
Stands s d (OfLabel l) = d ≡ s.to l.place

all-stand : {D : Type 0} (s : Scene D) → AllByRecursion (λ x. Stands s x.distance x.subject) (in_turn s)
unfolding all_items
all-stand s = all-arranged (ahead s.lt) (λ x. Stands s x.distance x.subject) (all_items s)
    (All-append (λ x. Stands s x.distance x.subject) (map (node_item s.near) (boxed s.table)) (map (label_item s.to) (shown s.view (plan s.table))) (nodes-stand (boxed s.table)) (labels-stand (shown s.view (plan s.table))))
  where
    nodes-stand : (ns : List (ℕ × Rect)) → AllByRecursion (λ x. Stands s x.distance x.subject) (map (node_item s.near) ns)
    nodes-stand [] = tt
    nodes-stand (n ∷ ns) = (tt, nodes-stand ns)

    labels-stand : (ls : List Label) → AllByRecursion (λ x. Stands s x.distance x.subject) (map (label_item s.to) ls)
    labels-stand [] = tt
    labels-stand (l ∷ ls) = (refl, labels-stand ls)

module _ {D : Type 0} (lt : D → D → Bool) (t : Table) (dist : Place → Place → D) (bound : Place → Rect → D) (q : Place) (own : Option ℕ) (k : ℕ) (confirming : Option ℕ) where
  abbrev scene-of : Scene D
  scene-of = asking lt t dist bound q own

  abbrev test : Label → Bool
  test = accepts (ranking lt dist bound) t q own confirming

  abbrev cost : Label → ℕ
  cost = costs (ranking lt dist bound) t q own confirming

  -- the items gone through so far are within the limit; their labels that are answers are put into the list, and the meter
  -- went from m to n
  pub record Collected (before after : List ℕ) (count came : ℕ) (limit : Limit D) (rest : List (Item D)) (m n : ℕ) : Type 0 where
    pub gone : List (Item D)
    pub split : in_turn scene-of ≡ gone ++ rest
    pub passed : AllByRecursion (λ x. passes scene-of k x ≡ true) gone
    pub limited : limit ≡ limit_of k (dists gone)
    pub labels : came ≡ length (dists gone)
    pub put : Put before after count (numbers test (labels_of gone))
    pub meter : n ≡ m + (length (filter is_node gone) + sum_by cost (labels_of gone))

  module _ (fair : Fair scene-of) (one : 1 ≤ k) where
    pub collected-none : (before : List ℕ) (m : ℕ) → Collected before before 0 0 Anywhere (in_turn scene-of) m m
    unfolding dists
    collected-none before m = record { gone = []; split = refl; passed = tt; limited = sym (no-limit k); labels = refl; put = put-none before; meter = omega arith }

    cost-few : (l : Label) → cost l ≤ 300
    cost-few l = few confirming
      where
        few : (c : Option ℕ) → costs (ranking lt dist bound) t q own c l ≤ 300
        few None = omega arith
        few (Some k2) = omega (arith, reach-of-bound (ranking lt dist bound) t q k2 (others own (plan t)) l fair.lawful, fair.lawful.few)

    costs-few : (ls : List Label) → sum_by cost ls ≤ length ls * 300
    costs-few ls = sum_by_le cost 300 ls (each ls)
      where
        each : (ls : List Label) → AllByRecursion (λ l. cost l ≤ 300) ls
        each [] = tt
        each (l ∷ ls) = (cost-few l, each ls)

    -- the answers and the openings, from the candidates in order
    answers-are : answers_of (ranking lt dist bound) t q own k confirming ≡ numbers test (sorted (closer (ranking lt dist bound) q) (candidates (ranking lt dist bound) q k (others own (plan t))))
    unfolding nearest_answers mutual_answers in_order mutuals candidates
    answers-are = by confirming
      where
        ls : List Label
        ls = candidates (ranking lt dist bound) q k (others own (plan t))

        every : (ls : List Label) → AllByRecursion (λ (l : Label). ◌≡◌ {A = Bool} true true) ls
        every [] = tt
        every (l ∷ ls) = (refl, every ls)

        by : (c : Option ℕ) → answers_of (ranking lt dist bound) t q own k c ≡ numbers (accepts (ranking lt dist bound) t q own c) (sorted (closer (ranking lt dist bound) q) ls)
        by None = ap (map (λ l. l.number)) (sym (keeps-all (λ l. true) (sorted (closer (ranking lt dist bound) q) ls) (every (sorted (closer (ranking lt dist bound) q) ls))))
        by (Some k2) = ap (map (λ l. l.number)) (sym (kept-in-order fair.order dist bound q (confirmed (ranking lt dist bound) q k2 (others own (plan t))) ls (distinct-kept _ (others own (plan t)) (distinct-others own (plan t) fair.lawful.apart))))

    openings-are : openings_of (ranking lt dist bound) t q own k confirming ≡ reach (ranking lt dist bound) t q k (others own (plan t)) + sum_by cost (sorted (closer (ranking lt dist bound) q) (candidates (ranking lt dist bound) q k (others own (plan t))))
    unfolding nearest_openings mutual_openings
    openings-are = by confirming
      where
        ls : List Label
        ls = candidates (ranking lt dist bound) q k (others own (plan t))

        free : (ls : List Label) → sum_by (λ l. 0) ls ≡ 0
        free [] = refl
        free (l ∷ ls) = free ls

        by : (c : Option ℕ) → openings_of (ranking lt dist bound) t q own k c ≡ reach (ranking lt dist bound) t q k (others own (plan t)) + sum_by (costs (ranking lt dist bound) t q own c) (sorted (closer (ranking lt dist bound) q) ls)
        by None = omega (arith, free (sorted (closer (ranking lt dist bound) q) ls))
        by (Some k2) = ap (λ n. reach (ranking lt dist bound) t q k (others own (plan t)) + n) (sym (sum-arranged (reach_of (ranking lt dist bound) t q k2 (others own (plan t))) (closer (ranking lt dist bound) q) ls))

    module _ {before after : List ℕ} {count came : ℕ} {limit : Limit D} {rest : List (Item D)} {m n : ℕ} (c : Collected before after count came limit rest m n) where
      few-gone : length (filter is_node c.gone) + length (labels_of c.gone) ≤ 3601
      few-gone = omega (arith, few-parts scene-of fair c.gone rest c.split, fair.lawful.few)

      pub collected-few : came ≤ 3601
      collected-few = omega (arith, few-gone, c.labels, as_many c.gone)

      pub collected-meter : n + length rest ≤ m + 1090000
      collected-meter = omega (arith, c.meter, ap length c.split, length-append c.gone rest, length-filter_both is_node (λ x. not (is_node x)) (λ x. refl) c.gone, few-items scene-of fair, fair.lawful.few, costs-few (labels_of c.gone), few-gone)

      -- one candidate more
      module _ (items : List (Item D)) (n' : ℕ) (r : Arrival D) (next : Next scene-of limit rest items n n' (Some r)) where
        abbrev d : D
        d = r.distance

        abbrev l : Label
        l = r.label

        abbrev walked : List (Item D)
        walked = c.gone ++ (next.0 ++ found d l ∷ [])

        abbrev coming : List (Item D)
        coming = left scene-of (take r.waiting items)

        front-in : Passes lt (limit_of k (dists c.gone)) next.0
        front-in = subst (λ w. Passes lt w next.0) c.limited next.2

        walked-split : in_turn scene-of ≡ walked ++ coming
        walked-split = more-gone scene-of fair k one c.gone rest next.0 coming c.passed c.split front-in (found d l) next.1

        walked-passed : AllByRecursion (λ x. passes scene-of k x ≡ true) walked
        walked-passed = more-passes scene-of fair k one c.gone rest next.0 coming c.passed c.split front-in (found d l) next.1 (subst (λ w. admits lt w d ≡ true) c.limited next.4)

        labels-are : labels_of walked ≡ labels_of c.gone ++ l ∷ []
        labels-are = labels-more lt (limit_of k (dists c.gone)) c.gone next.0 front-in d l

        dists-are : dists walked ≡ dists c.gone ++ d ∷ []
        dists-are = dists-more lt (limit_of k (dists c.gone)) c.gone next.0 front-in d l

        nodes-are : length (filter is_node walked) ≡ length (filter is_node c.gone) + length next.0
        nodes-are = nodes-more lt (limit_of k (dists c.gone)) c.gone next.0 front-in d l

        pub next-stands : d ≡ dist q l.place
        next-stands =
            (all-parts (λ x. Stands scene-of x.distance x.subject) (c.gone ++ next.0) (found d l ∷ coming)
            (subst (AllByRecursion (λ x. Stands scene-of x.distance x.subject)) (c.split ∙ ap (λ w. c.gone ++ w) next.1 ∙ sym (append_assoc c.gone next.0 (found d l ∷ coming))) (all-stand scene-of))).1.0

        pub next-meter : n' + work_places t ≤ m + 1100000
        next-meter = omega (arith, next.3, c.meter, nodes-are, few-parts scene-of fair walked coming walked-split, fair.lawful.few, costs-few (labels_of c.gone), few-gone)

        -- the state then, whatever was put
        then : (after' : List ℕ) (count' : ℕ) → Put before after' count' (numbers test (labels_of walked)) → Collected before after' count' (came + 1) (cond (eqb (came + 1) k) (UpTo d) limit) coming m (n' + cost l)
        then after' count' p = record {
          gone = walked;
          split = walked-split;
          passed = walked-passed;
          limited = ap (λ w. cond (eqb (came + 1) k) (UpTo d) w) c.limited ∙ sym (one_more k (dists c.gone) d came one c.labels) ∙ ap (limit_of k) (sym dists-are);
          labels = omega (arith, c.labels, ap length dists-are, length-append (dists c.gone) (d ∷ []));
          put = p;
          meter = omega (arith, next.3, c.meter, nodes-are, ap (sum_by cost) labels-are, sum_by_push cost (labels_of c.gone) l);
        }

        pub takes : test l ≡ true → count < length before → Collected before (set after count l.number) (count + 1) (came + 1) (cond (eqb (came + 1) k) (UpTo d) limit) coming m (n' + cost l)
        takes yes' room = then (set after count l.number) (count + 1)
            (subst (Put before (set after count l.number) (count + 1)) (sym (ap (numbers test) labels-are ∙ numbers-append test (labels_of c.gone) (l ∷ []) ∙ ap (λ w. numbers test (labels_of c.gone) ++ map (λ l. l.number) w) (keeps test l [] yes')))
            (put-more before after count (numbers test (labels_of c.gone)) l.number c.put room))

        pub passes_over : test l ≡ false → Collected before after count (came + 1) (cond (eqb (came + 1) k) (UpTo d) limit) coming m (n' + cost l)
        passes_over no' = then after count
            (subst (Put before after count) (sym (ap (numbers test) labels-are ∙ numbers-append test (labels_of c.gone) (l ∷ []) ∙ ap (λ w. numbers test (labels_of c.gone) ++ map (λ l. l.number) w) (leaves test l [] no') ∙ append-nil (numbers test (labels_of c.gone)))) c.put)

        pub overflows : test l ≡ true → length before ≤ count
            → (None ≡ fitting (answers_of (ranking lt dist bound) t q own k confirming) (length before))
            × (after ≡ take (length before) (answers_of (ranking lt dist bound) t q own k confirming) ++ drop (length (answers_of (ranking lt dist bound) t q own k confirming)) before)
        overflows yes' full =
            let later = labels_of (filter (passes scene-of k) coming) in
            let all : answers_of (ranking lt dist bound) t q own k confirming ≡ numbers test (labels_of c.gone) ++ l.number ∷ numbers test later =
            answers-are ∙ ap (numbers test) (part-labels lt t dist bound q own fair k walked coming walked-split walked-passed ∙ ap (λ w. w ++ later) labels-are ∙ append_assoc (labels_of c.gone) (l ∷ []) later)
            ∙ numbers-append test (labels_of c.gone) (l ∷ later) ∙ ap (λ w. numbers test (labels_of c.gone) ++ map (λ l. l.number) w) (keeps test l later yes') in
            subst (λ w. (None ≡ fitting w (length before)) × (after ≡ take (length before) w ++ drop (length w) before)) (sym all) (put-over before after count (numbers test (labels_of c.gone)) l.number (numbers test later) c.put full)

      pub concludes : (items : List (Item D)) (n' : ℕ) → Next scene-of limit rest items n n' None
          → (Some count ≡ fitting (answers_of (ranking lt dist bound) t q own k confirming) (length before))
          × (after ≡ take (length before) (answers_of (ranking lt dist bound) t q own k confirming) ++ drop (length (answers_of (ranking lt dist bound) t q own k confirming)) before)
          × (n' ≡ m + openings_of (ranking lt dist bound) t q own k confirming)
      concludes items n' next =
          let front-in = subst (λ w. Passes lt w next.0) c.limited next.3 in
          let whole = whole-walk scene-of fair k one c.gone rest next.0 next.1 c.passed c.split front-in next.2 (subst (λ w. Stops lt w next.1) c.limited next.5) in
          let labels : labels_of c.gone ≡ sorted (closer (ranking lt dist bound) q) (candidates (ranking lt dist bound) q k (others own (plan t))) =
          sym (labels-past lt (limit_of k (dists c.gone)) c.gone next.0 front-in) ∙ walk-labels lt t dist bound q own fair k (c.gone ++ next.0) whole in
          let all = ap (numbers test) labels ∙ sym answers-are in
          let p = put_all before after count (answers_of (ranking lt dist bound) t q own k confirming) (subst (Put before after count) all c.put) in (
            p.0,
            p.1,
            omega (arith, next.4, c.meter, nodes-past lt (limit_of k (dists c.gone)) c.gone next.0 front-in, walk-nodes lt t dist bound q own fair k (c.gone ++ next.0) whole one, ap (sum_by cost) labels, openings-are),
          )
