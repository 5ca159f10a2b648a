-- A sorted list rises, and sorting keeps what a test keeps.
use Rattle.std.proofs.Common.{◌≡◌, suc, Bool, true, false, cond, List, [], ◌∷◌, length, filter, sym, refl, ap, ◌∙◌, subst, ⊎_elim}
use Rattle.std.proofs.lemmas.Bool.{cases_Bool}
use Rattle.std.specs.List.{AllByRecursion}
use Rattle.queue.specs.Order.{Order, insert, sorted}
use Rattle.queue.proofs.Keeping.{keeps, leaves}
use Rattle.queue.proofs.Sorting.{insert-past, insert-here, chain-not, one_way, all_insert, least_first}

-- none of the rest comes before the first, and so on
abbrev pub Ascending : {X : Type 0} → (X → X → Bool) → List X → Type 0
Ascending lt [] = Unit {0}
Ascending lt (x ∷ xs) = AllByRecursion (λ y. lt y x ≡ false) xs × Ascending lt xs

module _ {X : Type 0} {lt : X → X → Bool} (o : Order lt) where
  pub all_after : (x y : X) (zs : List X) → lt x y ≡ false → AllByRecursion (λ z. lt z x ≡ false) zs → AllByRecursion (λ z. lt z y ≡ false) zs
  all_after x y [] h a = tt
  all_after x y (z ∷ zs) h a = (chain-not o z x y a.0 h, all_after x y zs h a.1)

  insert-ascends : (x : X) (ys : List X) → Ascending lt ys → Ascending lt (insert lt x ys)
  unfolding insert
  insert-ascends x [] h = (tt, tt)
  insert-ascends x (y ∷ ys) h = ⊎_elim
      (λ t. subst (Ascending lt) (sym (insert-past o x y ys t)) (all_insert o (λ z. lt z y ≡ false) x ys (one_way o y x t) h.0, insert-ascends x ys h.1))
      (λ f. subst (Ascending lt) (sym (insert-here o x y ys f)) ((f, all_after y x ys f h.0), h))
      (cases_Bool (lt y x))

  pub sorted-ascends : (xs : List X) → Ascending lt (sorted lt xs)
  unfolding sorted
  sorted-ascends [] = tt
  sorted-ascends (x ∷ xs) = insert-ascends x (sorted lt xs) (sorted-ascends xs)

  length-insert : (x : X) (ys : List X) → length (insert lt x ys) ≡ suc (length ys)
  unfolding insert
  length-insert x [] = refl
  length-insert x (y ∷ ys) = ⊎_elim
      (λ t. ap length (insert-past o x y ys t) ∙ ap suc (length-insert x ys))
      (λ f. ap length (insert-here o x y ys f))
      (cases_Bool (lt y x))

  pub length-sorted : (xs : List X) → length (sorted lt xs) ≡ length xs
  unfolding sorted
  length-sorted [] = refl
  length-sorted (x ∷ xs) = length-insert x (sorted lt xs) ∙ ap suc (length-sorted xs)

  -- what a test keeps of a list in order
  module _ (p : X → Bool) where
    all-kept : (P : X → Type 0) (ys : List X) → AllByRecursion P ys → AllByRecursion P (filter p ys)
    all-kept P [] h = tt
    all-kept P (y ∷ ys) h = ⊎_elim
        (λ t. subst (AllByRecursion P) (sym (keeps p y ys t)) (h.0, all-kept P ys h.1))
        (λ f. subst (AllByRecursion P) (sym (leaves p y ys f)) (all-kept P ys h.1))
        (cases_Bool (p y))

    insert-kept : (x : X) (ys : List X) → p x ≡ true → Ascending lt ys → filter p (insert lt x ys) ≡ insert lt x (filter p ys)
    unfolding insert
    insert-kept x [] t a = keeps p x [] t
    insert-kept x (y ∷ ys) t a = ⊎_elim
        (λ (past : lt y x ≡ true). ap (filter p) (insert-past o x y ys past) ∙ ⊎_elim
        (λ (u : p y ≡ true). keeps p y (insert lt x ys) u ∙ ap (λ l. y ∷ l) (insert-kept x ys t a.1) ∙ sym (insert-past o x y (filter p ys) past) ∙ ap (insert lt x) (sym (keeps p y ys u)))
        (λ (u : p y ≡ false). leaves p y (insert lt x ys) u ∙ insert-kept x ys t a.1 ∙ ap (insert lt x) (sym (leaves p y ys u)))
        (cases_Bool (p y)))
        (λ (here : lt y x ≡ false). ap (filter p) (insert-here o x y ys here) ∙ keeps p x (y ∷ ys) t
        ∙ sym (least_first o x (filter p (y ∷ ys)) (all-kept (λ z. lt z x ≡ false) (y ∷ ys) (here, all_after y x ys here a.0))))
        (cases_Bool (lt y x))

    insert-left : (x : X) (ys : List X) → p x ≡ false → filter p (insert lt x ys) ≡ filter p ys
    unfolding insert
    insert-left x [] f = leaves p x [] f
    insert-left x (y ∷ ys) f = ⊎_elim
        (λ (past : lt y x ≡ true). ap (filter p) (insert-past o x y ys past) ∙ ap (λ l. cond (p y) (y ∷ l) l) (insert-left x ys f))
        (λ (here : lt y x ≡ false). ap (filter p) (insert-here o x y ys here) ∙ leaves p x (y ∷ ys) f)
        (cases_Bool (lt y x))

    pub sorted-kept : (xs : List X) → sorted lt (filter p xs) ≡ filter p (sorted lt xs)
    unfolding sorted
    sorted-kept [] = refl
    sorted-kept (x ∷ xs) = ⊎_elim
        (λ (t : p x ≡ true). ap (sorted lt) (keeps p x xs t) ∙ ap (insert lt x) (sorted-kept xs) ∙ sym (insert-kept x (sorted lt xs) t (sorted-ascends xs)))
        (λ (f : p x ≡ false). ap (sorted lt) (leaves p x xs f) ∙ sorted-kept xs ∙ sym (insert-left x (sorted lt xs) f))
        (cases_Bool (p x))

    -- a test passes as many of a list as of the list in order
    pub count-sorted : (xs : List X) → length (filter p (sorted lt xs)) ≡ length (filter p xs)
    count-sorted xs = ap length (sym (sorted-kept xs)) ∙ length-sorted (filter p xs)
