-- Popping a queue until the first that is no candidate gives the candidates.
use Rattle.std.specs.Prelude.{◌≡◌, ℕ, ◌-◌, ◌≤◌, Bool, true, false, not, List, [], ◌∷◌, ◌++◌, length, take, filter, nat_lt, slice_index_or, refl}
use Rattle.std.proofs.Math.Path.{sym, ap}
use Rattle.std.proofs.Common.{subst, ◌∙◌, ⊎_elim, arith}
use Rattle.std.specs.List.{AllByRecursion}
use Rattle.std.proofs.lemmas.Bool.{cases_Bool, cond-true, both_ways}
use Rattle.std.proofs.lemmas.List.{append_assoc, append-nil, take_all}
use Rattle.std.proofs.lemmas.List.Elements.{filter-append}
use Rattle.queue.specs.Order.{Order, sorted}
use Rattle.queue.specs.Shape.{Heap}
use Rattle.queue.specs.Numbers.{number-order}
use Rattle.queue.specs.Keys.{by_key, then-weak, tells-level, decided}
use Rattle.queue.proofs.Keeping.{keeps}
use Rattle.queue.proofs.Ascending.{Ascending, sorted-ascends, sorted-kept, count-sorted}
use Rattle.listing.specs.declared.found.Found.{Found}
use Rattle.listing.specs.Neighbours.{candidate, nearer, closer, nearest}
use Rattle.listing.specs.Rising.{decides-candidate, stops}

module _ {D : Type 0} {lt : D → D → Bool} (o : Order lt) where
  pub found-order : Order (closer lt)
  found-order =
      let d = by_key o (λ (a : Found D). a.distance) in
      let n = by_key number-order (λ (a : Found D). a.number) in
      decided (then-weak d n) (λ a b h g.
      let e = tells-level d n a b h g in
      let ed = o.decides a.distance b.distance e.0 e.1 in
      let en = number-order.decides a.number b.number e.2 e.3 in
      λ t. record { distance = ed t; number = en t })

  -- what rises by distance and number rises by distance
  all_first : (x : Found D) (ys : List (Found D)) → AllByRecursion (λ y. closer lt y x ≡ false) ys → AllByRecursion (λ y. nearer lt y x ≡ false) ys
  all_first x [] h = tt
  all_first x (y ∷ ys) h = (⊎_elim (λ t. absurd (both_ways (closer lt y x) h.0 (cond-true (nearer lt y x) _ _ t))) (λ f. f) (cases_Bool (nearer lt y x)), all_first x ys h.1)

  rises : (xs : List (Found D)) → Ascending (closer lt) xs → Ascending (nearer lt) xs
  rises [] h = tt
  rises (x ∷ xs) h = (all_first x xs h.0, rises xs h.1)

-- of the items as lent, those in got have come; the rest is the queue in the first len of items
pub record Walked {D : Type 0} (lt : D → D → Bool) (k : ℕ) (lent got items : List (Found D)) (len : ℕ) : Type 0 where
  pub shape : Heap (closer lt) items len
  pub within : len ≤ length items
  pub split : sorted (closer lt) lent ≡ got ++ sorted (closer lt) (take len items)
  pub kept : filter (candidate (nearer lt) k (sorted (closer lt) lent)) got ≡ got

module _ {D : Type 0} {lt : D → D → Bool} (o : Order lt) (k : ℕ) (lent : List (Found D)) where
  abbrev all : List (Found D)
  all = sorted (closer lt) lent

  abbrev test : Found D → Bool
  test = candidate (nearer lt) k all

  -- the candidates of a list in order are those of the list, in order
  in_order : filter test all ≡ nearest lt k lent
  unfolding nearest
  in_order =
      let same : (λ x. test x) ≡ (λ x. candidate (nearer lt) k lent x) = λ i x. nat_lt (count-sorted (found-order o) (λ y. nearer lt y x) lent i) k in
      ap (λ t. filter t all) same ∙ sym (sorted-kept (found-order o) (λ x. candidate (nearer lt) k lent x) lent)

  pub walked_none : Heap (closer lt) lent (length lent) → Walked lt k lent [] lent (length lent)
  walked_none h = record { shape = h; within = omega arith; split = ap (sorted (closer lt)) (sym (take_all (length lent) lent (omega arith))); kept = refl }

  module _ (got items after : List (Found D)) (len rest : ℕ) (x : Found D) (w : Walked lt k lent got items len) (e : sorted (closer lt) (take len items) ≡ x ∷ sorted (closer lt) (take rest after)) (one : 1 ≤ k) where
    whole : all ≡ got ++ x ∷ sorted (closer lt) (take rest after)
    whole = w.split ∙ ap (λ l. got ++ l) e

    rising : Ascending (nearer lt) (got ++ x ∷ sorted (closer lt) (take rest after))
    rising = subst (Ascending (nearer lt)) whole (rises o all (sorted-ascends (found-order o) lent))

    decided-by : test x ≡ not (nearer lt (slice_index_or got (k - 1) x) x)
    decided-by = ap (λ l. candidate (nearer lt) k l x) whole ∙ decides-candidate o (λ f. f.distance) k got x (sorted (closer lt) (take rest after)) one rising

    pub walked_more : Heap (closer lt) after rest → rest ≤ length after → nearer lt (slice_index_or got (k - 1) x) x ≡ false → Walked lt k lent (got ++ x ∷ []) after rest
    walked_more h i f = record {
      shape = h;
      within = i;
      split = whole ∙ sym (append_assoc got (x ∷ []) (sorted (closer lt) (take rest after)));
      kept = filter-append test got (x ∷ []) ∙ (λ i. w.kept i ++ keeps test x [] (decided-by ∙ ap not f) i);
    }

    pub walked-stops : nearer lt (slice_index_or got (k - 1) x) x ≡ true → got ≡ nearest lt k lent
    walked-stops t =
        sym w.kept ∙ ap (λ l. filter (candidate (nearer lt) k l) got) whole
        ∙ sym (stops o (λ f. f.distance) k got x (sorted (closer lt) (take rest after)) rising (ap (λ l. candidate (nearer lt) k l x) (sym whole) ∙ decided-by ∙ ap not t))
        ∙ ap (λ l. filter (candidate (nearer lt) k l) l) (sym whole) ∙ in_order

  pub walked_all : (got items : List (Found D)) (len : ℕ) → Walked lt k lent got items len → len ≡ 0 → got ≡ nearest lt k lent
  unfolding sorted
  walked_all got items len w z =
      let all-got : all ≡ got = w.split ∙ ap (λ n. got ++ sorted (closer lt) (take n items)) z ∙ append-nil got in
      sym w.kept ∙ ap (filter test) (sym all-got) ∙ in_order

-- lists of the same items have the same candidates
pub nearest-alike : {D : Type 0} {lt : D → D → Bool} → Order lt → (k : ℕ) (xs ys : List (Found D)) → sorted (closer lt) xs ≡ sorted (closer lt) ys → nearest lt k xs ≡ nearest lt k ys
nearest-alike {lt = lt} o k xs ys e = sym (in_order o k xs) ∙ ap (λ l. filter (candidate (nearer lt) k l) l) e ∙ in_order o k ys
