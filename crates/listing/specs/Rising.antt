-- In a list that rises by distance the candidates come first.
use Rattle.std.specs.Prelude.{◌≡◌, ℕ, zero, suc, ◌-◌, ◌<◌, ◌≤◌, Bool, true, false, not, List, [], ◌∷◌, ◌++◌, length, filter, nat_lt, slice_index_or}
use Rattle.std.proofs.Common.{sym, ap, subst, ◌∙◌, ⊎_elim, arith}
use Rattle.std.specs.List.{AllByRecursion}
use Rattle.std.proofs.lemmas.Bool.{cases_Bool, cases_lt, both_ways}
use Rattle.std.proofs.lemmas.Bool.Decides.{nat_tests}
use Rattle.std.proofs.lemmas.List.{append-nil, get_or_past}
use Rattle.std.proofs.lemmas.List.Elements.{filter-append}
use Rattle.std.proofs.ByRecursion.{All-get_or}
use Rattle.queue.specs.Order.{Order}
use Rattle.queue.proofs.Sorting.{chain-not}
use Rattle.queue.proofs.Keeping.{keeps, keeps-none, keeps-more}
use Rattle.queue.proofs.Ascending.{Ascending}
use Rattle.listing.specs.Neighbours.{candidate}

all-front : {X : Type 0} (P : X → Type 0) (ys zs : List X) → AllByRecursion P (ys ++ zs) → AllByRecursion P ys
all-front P [] zs h = tt
all-front P (y ∷ ys) zs h = (h.0, all-front P ys zs h.1)

module _ {X D : Type 0} {lt : D → D → Bool} (o : Order lt) (key : X → D) where
  -- how many of xs are nearer than d
  abbrev count : D → List X → ℕ
  count d xs = length (filter (λ y. lt (key y) d) xs)

  abbrev Rising : List X → Type 0
  Rising xs = Ascending (λ a b. lt (key a) (key b)) xs

  -- what comes after something that is not nearer than d is not nearer than d
  none-nearer : (x : X) (d : D) (ys : List X) → lt (key x) d ≡ false → AllByRecursion (λ y. lt (key y) (key x) ≡ false) ys → AllByRecursion (λ y. lt (key y) d ≡ false) ys
  none-nearer x d [] h a = tt
  none-nearer x d (y ∷ ys) h a = (chain-not o (key y) (key x) d a.0 h, none-nearer x d ys h a.1)

  -- what is no farther than something nearer than d is nearer than d
  nearer-too : (a b d : D) → lt b a ≡ false → lt b d ≡ true → lt a d ≡ true
  nearer-too a b d h t = ⊎_elim (λ e. e) (λ f. absurd (both_ways (lt b d) (chain-not o b a d h f) t)) (cases_Bool (lt a d))

  -- the item at k is nearer than d exactly when more than k items are
  pub counts-front : (ys : List X) (d : D) (k : ℕ) (x : X) → Rising ys → k < length ys → lt (key (slice_index_or ys k x)) d ≡ true → k < count d ys
  counts-front [] d k x r h t = absurd (omega arith)
  counts-front (y ∷ ys) d zero x r h t = omega (arith, ap length (keeps (λ y. lt (key y) d) y ys t))
  counts-front (y ∷ ys) d (suc k) x r h t =
      let first : lt (key y) d ≡ true = nearer-too (key y) (key (slice_index_or ys k x)) d (All-get_or (λ z. lt (key z) (key y) ≡ false) ys k x (omega arith) r.0) t in
      omega (arith, counts-front ys d k x r.1 (omega arith) t, ap length (keeps (λ y. lt (key y) d) y ys first))

  pub front-counts : (ys : List X) (d : D) (k : ℕ) (x : X) → Rising ys → k < count d ys → (k < length ys) × (lt (key (slice_index_or ys k x)) d ≡ true)
  front-counts [] d k x r h = absurd (omega arith)
  front-counts (y ∷ ys) d zero x r h = (
    omega arith,
    ⊎_elim (λ t. t)
        (λ f. absurd (omega (arith, ap length (keeps-none (λ y. lt (key y) d) (y ∷ ys) (f, none-nearer y d ys f r.0))))) (cases_Bool (lt (key y) d)),
  )
  front-counts (y ∷ ys) d (suc k) x r h = ⊎_elim
      (λ (t : lt (key y) d ≡ true). let rest = front-counts ys d k x r.1 (omega (arith, ap length (keeps (λ y. lt (key y) d) y ys t))) in (omega (arith, rest.0), rest.1))
      (λ (f : lt (key y) d ≡ false). absurd (omega (arith, ap length (keeps-none (λ y. lt (key y) d) (y ∷ ys) (f, none-nearer y d ys f r.0)))))
      (cases_Bool (lt (key y) d))

  rising-rest : (ys zs : List X) → Rising (ys ++ zs) → Rising zs
  rising-rest [] zs r = r
  rising-rest (y ∷ ys) zs r = rising-rest ys zs r.1

  -- what comes from x on is not nearer than x
  pub counts-before : (ys : List X) (x : X) (zs : List X) → Rising (ys ++ x ∷ zs) → count (key x) (ys ++ x ∷ zs) ≡ count (key x) ys
  counts-before ys x zs r =
      let near : X → Bool = λ y. lt (key y) (key x) in
      let here = rising-rest ys (x ∷ zs) r in
      ap length (filter-append near ys (x ∷ zs) ∙ ap (λ l. filter near ys ++ l) (keeps-none near (x ∷ zs) (o.never (key x), here.0)) ∙ append-nil (filter near ys))

  -- of what comes after no candidate none is one
  none_after : (k : ℕ) (xs : List X) (x : X) (zs : List X) → candidate (λ a b. lt (key a) (key b)) k xs x ≡ false → AllByRecursion (λ z. lt (key z) (key x) ≡ false) zs → AllByRecursion (λ z. candidate (λ a b. lt (key a) (key b)) k xs z ≡ false) zs
  none_after k xs x [] h a = tt
  none_after k xs x (z ∷ zs) h a =
      let more : count (key x) xs ≤ count (key z) xs = keeps-more (λ y. lt (key y) (key x)) (λ y. lt (key y) (key z)) (λ y t. later y t) xs in
      (grind (arith, nat_tests), none_after k xs x zs h a.1)
    where
      later : (y : X) → lt (key y) (key x) ≡ true → lt (key y) (key z) ≡ true
      later y t = ⊎_elim (λ e. e) (λ f. absurd (both_ways (lt (key y) (key x)) (chain-not o (key y) (key z) (key x) f a.0) t)) (cases_Bool (lt (key y) (key z)))

  pub stops : (k : ℕ) (ys : List X) (x : X) (zs : List X) → Rising (ys ++ x ∷ zs) → candidate (λ a b. lt (key a) (key b)) k (ys ++ x ∷ zs) x ≡ false
      → filter (candidate (λ a b. lt (key a) (key b)) k (ys ++ x ∷ zs)) (ys ++ x ∷ zs) ≡ filter (candidate (λ a b. lt (key a) (key b)) k (ys ++ x ∷ zs)) ys
  stops k ys x zs r h =
      let test : X → Bool = candidate (λ a b. lt (key a) (key b)) k (ys ++ x ∷ zs) in
      let here = rising-rest ys (x ∷ zs) r in
      filter-append test ys (x ∷ zs) ∙ ap (λ l. filter test ys ++ l) (keeps-none test (x ∷ zs) (h, none_after k (ys ++ x ∷ zs) x zs h here.0)) ∙ append-nil (filter test ys)

  rising-front : (ys zs : List X) → Rising (ys ++ zs) → Rising ys
  rising-front [] zs r = tt
  rising-front (y ∷ ys) zs r = (all-front (λ z. lt (key z) (key y) ≡ false) ys zs r.0, rising-front ys zs r.1)

  -- x is a candidate unless the k-th before it is nearer
  pub decides-candidate : (k : ℕ) (ys : List X) (x : X) (zs : List X) → 1 ≤ k → Rising (ys ++ x ∷ zs) → candidate (λ a b. lt (key a) (key b)) k (ys ++ x ∷ zs) x ≡ not (lt (key (slice_index_or ys (k - 1) x)) (key x))
  decides-candidate k ys x zs h r =
      let before = counts-before ys x zs r in
      let front = rising-front ys (x ∷ zs) r in
      ap (λ n. nat_lt n k) before ∙ ⊎_elim
      (λ (t : lt (key (slice_index_or ys (k - 1) x)) (key x) ≡ true).
      let inside : k - 1 < length ys = ⊎_elim (λ l. l) (λ g. absurd (both_ways (lt (key x) (key x)) (o.never (key x)) (subst (λ z. lt (key z) (key x) ≡ true) (get_or_past ys (k - 1) x g) t))) (cases_lt (k - 1) (length ys)) in
      let many = counts-front ys (key x) (k - 1) x front inside t in
      let no : nat_lt (count (key x) ys) k ≡ false = grind (arith, nat_tests) in no ∙ ap not (sym t))
      (λ (f : lt (key (slice_index_or ys (k - 1) x)) (key x) ≡ false).
      let few : count (key x) ys < k = ⊎_elim (λ l. l) (λ g. absurd (both_ways (lt (key (slice_index_or ys (k - 1) x)) (key x)) f (front-counts ys (key x) (k - 1) x front (omega arith)).1)) (cases_lt (count (key x) ys) k) in
      let yes' : nat_lt (count (key x) ys) k ≡ true = grind (arith, nat_tests) in yes' ∙ ap not (sym f))
      (cases_Bool (lt (key (slice_index_or ys (k - 1) x)) (key x)))
