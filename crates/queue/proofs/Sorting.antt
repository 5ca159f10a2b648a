-- What `insert` and `sorted` keep.
use Rattle.std.proofs.Common.{◌≡◌, ℕ, zero, suc, ◌<◌, Bool, true, false, List, [], ◌∷◌, ◌++◌, length, get_or, take, drop, set, sym, refl, ap, ◌∙◌, subst, ⊎_elim, arith}
use Rattle.std.proofs.lemmas.Bool.{cases_Bool, cond-true, cond-false, both_ways}
use Rattle.std.proofs.lemmas.List.{drop-set-lt}
use Rattle.std.specs.List.{AllByRecursion}
use Rattle.queue.specs.Order.{Order, insert, sorted}

-- what stands behind the first n is not touched by a swap among them
pub drop-swapped : {X : Type 0} (n : ℕ) (xs ys : List X) (i j : ℕ) → i < n → j < n → ((d : X) → ys ≡ set (set xs i (get_or xs j d)) j (get_or xs i d)) → i < length xs → drop n ys ≡ drop n xs
drop-swapped n [] ys i j a b e h = absurd (omega arith)
drop-swapped n (x ∷ xs) ys i j a b e h =
    ap (drop n) (e x) ∙ drop-set-lt n (set (x ∷ xs) i (get_or (x ∷ xs) j x)) j (get_or (x ∷ xs) i x) b ∙ drop-set-lt n (x ∷ xs) i (get_or (x ∷ xs) j x) a

module _ {X : Type 0} {lt : X → X → Bool} (o : Order lt) where
  pub one_way : (x y : X) → lt x y ≡ true → lt y x ≡ false
  one_way x y h = ⊎_elim (λ t. absurd (both_ways (lt x x) (o.never x) (o.chain x y x h t))) (λ f. f) (cases_Bool (lt y x))

  -- not before, twice
  pub chain-not : (x y z : X) → lt x y ≡ false → lt y z ≡ false → lt x z ≡ false
  chain-not x y z f g = ⊎_elim
      (λ t. ⊎_elim
      (λ (u : lt y x ≡ true). absurd (both_ways (lt y z) g (o.chain y x z u t)))
      (λ (u : lt y x ≡ false). absurd (both_ways (lt y z) g (subst (λ w. lt w z ≡ true) (o.decides x y f u) t)))
      (cases_Bool (lt y x)))
      (λ h. h) (cases_Bool (lt x z))

  pub insert-past : (x y : X) (ys : List X) → lt y x ≡ true → insert lt x (y ∷ ys) ≡ y ∷ insert lt x ys
  unfolding insert
  insert-past x y ys h = cond-true (lt y x) _ _ h

  pub insert-here : (x y : X) (ys : List X) → lt y x ≡ false → insert lt x (y ∷ ys) ≡ x ∷ (y ∷ ys)
  unfolding insert
  insert-here x y ys h = cond-false (lt y x) _ _ h

  -- x before y, both into zs
  two : (x y : X) (zs : List X) → lt x y ≡ true → insert lt x (insert lt y zs) ≡ insert lt y (insert lt x zs)
  unfolding insert
  two x y [] h = insert-here x y [] (one_way x y h) ∙ sym (insert-past y x [] h)
  two x y (z ∷ zs) h = ⊎_elim
      (λ (zx : lt z x ≡ true).
      let zy = o.chain z x y zx h in
      ap (insert lt x) (insert-past y z zs zy) ∙ insert-past x z (insert lt y zs) zx ∙ ap (λ l. z ∷ l) (two x y zs h)
      ∙ sym (insert-past y z (insert lt x zs) zy) ∙ ap (insert lt y) (sym (insert-past x z zs zx)))
      (λ (zx : lt z x ≡ false).
      let right : insert lt y (insert lt x (z ∷ zs)) ≡ x ∷ insert lt y (z ∷ zs) = ap (insert lt y) (insert-here x z zs zx) ∙ insert-past y x (z ∷ zs) h in
      ⊎_elim
      (λ (zy : lt z y ≡ true). ap (insert lt x) (insert-past y z zs zy) ∙ insert-here x z (insert lt y zs) zx ∙ ap (λ l. x ∷ l) (sym (insert-past y z zs zy)) ∙ sym right)
      (λ (zy : lt z y ≡ false). ap (insert lt x) (insert-here y z zs zy) ∙ insert-here x y (z ∷ zs) (one_way x y h) ∙ ap (λ l. x ∷ l) (sym (insert-here y z zs zy)) ∙ sym right)
      (cases_Bool (lt z y)))
      (cases_Bool (lt z x))

  pub insert_comm : (x y : X) (zs : List X) → insert lt x (insert lt y zs) ≡ insert lt y (insert lt x zs)
  insert_comm x y zs = ⊎_elim (two x y zs)
      (λ f. ⊎_elim (λ t. sym (two y x zs t)) (λ g. ap (λ w. insert lt w (insert lt y zs)) (o.decides x y f g) ∙ ap (λ w. insert lt y (insert lt w zs)) (sym (o.decides x y f g))) (cases_Bool (lt y x)))
      (cases_Bool (lt x y))

  -- one element for another among the first n
  pub sorted-set : (n : ℕ) (xs : List X) (i : ℕ) (v d : X) → i < n → i < length xs → insert lt (get_or xs i d) (sorted lt (take n (set xs i v))) ≡ insert lt v (sorted lt (take n xs))
  unfolding sorted
  sorted-set zero xs i v d h l = absurd (omega arith)
  sorted-set (suc n) [] i v d h l = absurd (omega arith)
  sorted-set (suc n) (x ∷ xs) zero v d h l = insert_comm x v (sorted lt (take n xs))
  sorted-set (suc n) (x ∷ xs) (suc i) v d h l = insert_comm (get_or xs i d) x (sorted lt (take n (set xs i v)))
      ∙ ap (insert lt x) (sorted-set n xs i v d (omega arith) (omega arith)) ∙ insert_comm x v (sorted lt (take n xs))

  pub sorted-swap : (n : ℕ) (xs : List X) (i j : ℕ) (d : X) → i < n → j < n → i < length xs → j < length xs
      → sorted lt (take n (set (set xs i (get_or xs j d)) j (get_or xs i d))) ≡ sorted lt (take n xs)
  unfolding sorted
  sorted-swap zero xs i j d a b p q = absurd (omega arith)
  sorted-swap (suc n) [] i j d a b p q = absurd (omega arith)
  sorted-swap (suc n) (x ∷ xs) zero zero d a b p q = refl
  sorted-swap (suc n) (x ∷ xs) zero (suc j) d a b p q = sorted-set n xs j x d (omega arith) (omega arith)
  sorted-swap (suc n) (x ∷ xs) (suc i) zero d a b p q = sorted-set n xs i x d (omega arith) (omega arith)
  sorted-swap (suc n) (x ∷ xs) (suc i) (suc j) d a b p q = ap (insert lt x) (sorted-swap n xs i j d (omega arith) (omega arith) (omega arith) (omega arith))

  -- the same of what `swap` leaves
  pub sorted-swapped : (n : ℕ) (xs ys : List X) (i j : ℕ) → i < n → j < n → i < length xs → j < length xs → ((d : X) → ys ≡ set (set xs i (get_or xs j d)) j (get_or xs i d)) → sorted lt (take n ys) ≡ sorted lt (take n xs)
  sorted-swapped n [] ys i j a b p q e = absurd (omega arith)
  sorted-swapped n (x ∷ xs) ys i j a b p q e = ap (λ l. sorted lt (take n l)) (e x) ∙ sorted-swap n (x ∷ xs) i j x a b p q

  pub sorted-push : (xs : List X) (y : X) → sorted lt (xs ++ y ∷ []) ≡ insert lt y (sorted lt xs)
  unfolding sorted
  sorted-push [] y = refl
  sorted-push (x ∷ xs) y = ap (insert lt x) (sorted-push xs y) ∙ insert_comm x y (sorted lt xs)

  -- x is before none of ys
  pub all_insert : (P : X → Type 0) (x : X) (ys : List X) → P x → AllByRecursion P ys → AllByRecursion P (insert lt x ys)
  unfolding insert
  all_insert P x [] p h = (p, tt)
  all_insert P x (y ∷ ys) p h = ⊎_elim
      (λ t. subst (AllByRecursion P) (sym (insert-past x y ys t)) (h.0, all_insert P x ys p h.1))
      (λ f. subst (AllByRecursion P) (sym (insert-here x y ys f)) (p, h))
      (cases_Bool (lt y x))

  all-sorted : (P : X → Type 0) (xs : List X) → AllByRecursion P xs → AllByRecursion P (sorted lt xs)
  unfolding sorted
  all-sorted P [] h = h
  all-sorted P (x ∷ xs) h = all_insert P x (sorted lt xs) h.0 (all-sorted P xs h.1)

  pub least_first : (x : X) (ys : List X) → AllByRecursion (λ y. lt y x ≡ false) ys → insert lt x ys ≡ x ∷ ys
  unfolding insert
  least_first x [] h = refl
  least_first x (y ∷ ys) h = insert-here x y ys h.0

  pub least-sorted : (x : X) (xs : List X) → AllByRecursion (λ y. lt y x ≡ false) xs → insert lt x (sorted lt xs) ≡ x ∷ sorted lt xs
  least-sorted x xs h = least_first x (sorted lt xs) (all-sorted (λ y. lt y x ≡ false) xs h)
