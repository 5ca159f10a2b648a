-- What `sorted` keeps by whatever test it compares.
use Rattle.std.proofs.Common.{◌≡◌, ℕ, suc, Bool, true, false, cond, List, [], ◌∷◌, map, length, filter, sym, refl, ap, ◌∙◌}
use Rattle.std.specs.List.{AllByRecursion}
use Rattle.std.proofs.lemmas.Bool.{cond_both}
use Rattle.queue.specs.Order.{insert, sorted}

module _ {X : Type 0} (f : X → X → Bool) where
  all_inserted : (P : X → Type 0) (x : X) (ys : List X) → P x → AllByRecursion P ys → AllByRecursion P (insert f x ys)
  unfolding insert
  all_inserted P x [] p h = (p, tt)
  all_inserted P x (y ∷ ys) p h = cond_both (f y x) (y ∷ insert f x ys) (x ∷ (y ∷ ys)) (AllByRecursion P) (λ t. (h.0, all_inserted P x ys p h.1)) (λ e. (p, h))

  pub all-arranged : (P : X → Type 0) (xs : List X) → AllByRecursion P xs → AllByRecursion P (sorted f xs)
  unfolding sorted
  all-arranged P [] h = tt
  all-arranged P (x ∷ xs) h = all_inserted P x (sorted f xs) h.0 (all-arranged P xs h.1)

  -- what is gathered over a list, one after the other in whichever order, is gathered over the list in order
  module _ {Y : Type 0} (op : X → Y → Y) (F : List X → Y) (next : (x : X) (xs : List X) → F (x ∷ xs) ≡ op x (F xs)) (swap : (x y : X) (a : Y) → op x (op y a) ≡ op y (op x a)) where
    gathered-insert : (x : X) (ys : List X) → F (insert f x ys) ≡ op x (F ys)
    unfolding insert
    gathered-insert x [] = next x []
    gathered-insert x (y ∷ ys) = cond_both (f y x) (y ∷ insert f x ys) (x ∷ (y ∷ ys)) (λ l. F l ≡ op x (F (y ∷ ys)))
        (λ t. next y (insert f x ys) ∙ ap (op y) (gathered-insert x ys) ∙ swap y x (F ys) ∙ ap (op x) (sym (next y ys)))
        (λ e. next x (y ∷ ys))

    pub gathered : (xs : List X) → F (sorted f xs) ≡ F xs
    unfolding sorted
    gathered [] = refl
    gathered (x ∷ xs) = gathered-insert x (sorted f xs) ∙ ap (op x) (gathered xs) ∙ sym (next x xs)

  pub count-arranged : (p : X → Bool) (xs : List X) → length (filter p (sorted f xs)) ≡ length (filter p xs)
  count-arranged p xs = gathered (λ x n. cond (p x) (suc n) n) (λ l. length (filter p l)) (λ x l. one x l (p x)) (λ x y n. two (p x) (p y) n) xs
    where
      one : (x : X) (l : List X) (b : Bool) → length (cond b (x ∷ filter p l) (filter p l)) ≡ cond b (suc (length (filter p l))) (length (filter p l))
      one x l true = refl
      one x l false = refl

      two : (a b : Bool) (n : ℕ) → cond a (suc (cond b (suc n) n)) (cond b (suc n) n) ≡ cond b (suc (cond a (suc n) n)) (cond a (suc n) n)
      two true true n = refl
      two true false n = refl
      two false true n = refl
      two false false n = refl

-- f and g compare each with those before it alike
abbrev pub Agree : {X : Type 0} → (X → X → Bool) → (X → X → Bool) → List X → Type 0
Agree f g [] = Unit {0}
Agree f g (x ∷ xs) = AllByRecursion (λ y. f y x ≡ g y x) xs × Agree f g xs

module _ {X : Type 0} (f g : X → X → Bool) where
  insert-alike : (x : X) (ys : List X) → AllByRecursion (λ y. f y x ≡ g y x) ys → insert f x ys ≡ insert g x ys
  unfolding insert
  insert-alike x [] h = refl
  insert-alike x (y ∷ ys) h = λ i. cond (h.0 i) (y ∷ insert-alike x ys h.1 i) (x ∷ (y ∷ ys))

  pub sorted-alike : (xs : List X) → Agree f g xs → sorted f xs ≡ sorted g xs
  unfolding sorted
  sorted-alike [] h = refl
  sorted-alike (x ∷ xs) h = insert-alike x (sorted f xs) (all-arranged f (λ y. f y x ≡ g y x) xs h.0) ∙ ap (insert g x) (sorted-alike xs h.1)

module _ {X Y : Type 0} (f : Y → Y → Bool) (h : X → Y) where
  insert-map : (x : X) (ys : List X) → insert f (h x) (map h ys) ≡ map h (insert (λ a b. f (h a) (h b)) x ys)
  unfolding insert
  insert-map x [] = refl
  insert-map x (y ∷ ys) = ap (λ l. cond (f (h y) (h x)) (h y ∷ l) (h x ∷ (h y ∷ map h ys))) (insert-map x ys)
      ∙ inside (f (h y) (h x))
    where
      inside : (b : Bool) → cond b (h y ∷ map h (insert (λ a b. f (h a) (h b)) x ys)) (h x ∷ (h y ∷ map h ys)) ≡ map h (cond b (y ∷ insert (λ a b. f (h a) (h b)) x ys) (x ∷ (y ∷ ys)))
      inside true = refl
      inside false = refl

  pub sorted-map : (xs : List X) → sorted f (map h xs) ≡ map h (sorted (λ a b. f (h a) (h b)) xs)
  unfolding sorted
  sorted-map [] = refl
  sorted-map (x ∷ xs) = ap (insert f (h x)) (sorted-map xs) ∙ insert-map x (sorted (λ a b. f (h a) (h b)) xs)
