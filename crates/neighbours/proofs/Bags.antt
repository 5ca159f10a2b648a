-- Lists up to their order: two lists hold the same items when they are equal once sorted.
use Rattle.std.proofs.Common.{◌≡◌, Bool, false, cond, List, [], ◌∷◌, ◌++◌, sym, refl, ap, ◌∙◌, subst, ⊎_elim}
use Rattle.std.specs.List.{flat_map, AllByRecursion}
use Rattle.std.proofs.lemmas.List.{append-nil}
use Rattle.std.proofs.lemmas.Grind.{flat_map-append}
use Rattle.std.proofs.ByRecursion.{All-append}
use Rattle.std.proofs.lemmas.Bool.{cases_Bool, cond-true, cond-false}
use Rattle.queue.specs.Order.{Order, insert, sorted}
use Rattle.queue.proofs.Sorting.{insert_comm, insert-past, insert-here, all_insert}
use Rattle.queue.proofs.Ascending.{Ascending, sorted-ascends}
use Rattle.neighbours.specs.Forest.{inserts}

pub joined-joined : {A B C : Type 0} (f : B → List C) (g : A → List B) (xs : List A) → flat_map (λ x. flat_map f (g x)) xs ≡ flat_map f (flat_map g xs)
joined-joined f g [] = refl
joined-joined f g (x ∷ xs) = ap (λ l. flat_map f (g x) ++ l) (joined-joined f g xs) ∙ sym (flat_map-append f (g x) (flat_map g xs))

pub joined_same : {X Y : Type 0} (f g : X → List Y) (xs : List X) (P : X → Type 0) → ((x : X) → P x → f x ≡ g x) → AllByRecursion P xs → flat_map f xs ≡ flat_map g xs
joined_same f g [] P e h = refl
joined_same f g (x ∷ xs) P e h = λ i. e x h.0 i ++ joined_same f g xs P e h.1 i

pub all-joined : {X Y : Type 0} (f : X → List Y) (Q : Y → Type 0) (xs : List X) (P : X → Type 0) → ((x : X) → P x → AllByRecursion Q (f x)) → AllByRecursion P xs → AllByRecursion Q (flat_map f xs)
all-joined f Q [] P e h = tt
all-joined f Q (x ∷ xs) P e h = All-append Q (f x) (flat_map f xs) (e x h.0) (all-joined f Q xs P e h.1)

pub all-parts : {X : Type 0} (P : X → Type 0) (xs ys : List X) → AllByRecursion P (xs ++ ys) → AllByRecursion P xs × AllByRecursion P ys
all-parts P [] ys h = (tt, h)
all-parts P (x ∷ xs) ys h = let rest = all-parts P xs ys h.1 in ((h.0, rest.0), rest.1)

pub joined-parts : {X Y : Type 0} (f : X → List Y) (Q : Y → Type 0) (xs : List X) → AllByRecursion Q (flat_map f xs) → AllByRecursion (λ x. AllByRecursion Q (f x)) xs
joined-parts f Q [] h = tt
joined-parts f Q (x ∷ xs) h = let parts = all-parts Q (f x) (flat_map f xs) h in (parts.0, joined-parts f Q xs parts.1)

pub all_both : {X : Type 0} (P Q : X → Type 0) (xs : List X) → AllByRecursion P xs → AllByRecursion Q xs → AllByRecursion (λ x. P x × Q x) xs
all_both P Q [] p q = tt
all_both P Q (x ∷ xs) p q = ((p.0, q.0), all_both P Q xs p.1 q.1)

module _ {X : Type 0} {lt : X → X → Bool} (o : Order lt) where
  pub sorted-append : (xs ys : List X) → sorted lt (xs ++ ys) ≡ inserts lt xs (sorted lt ys)
  unfolding sorted inserts
  sorted-append [] ys = refl
  sorted-append (x ∷ xs) ys = ap (insert lt x) (sorted-append xs ys)

  insert-inserts : (x : X) (xs ys : List X) → insert lt x (inserts lt xs ys) ≡ inserts lt xs (insert lt x ys)
  unfolding inserts
  insert-inserts x [] ys = refl
  insert-inserts x (y ∷ xs) ys = insert_comm o x y (inserts lt xs ys) ∙ ap (insert lt y) (insert-inserts x xs ys)

  inserts-comm : (xs ys zs : List X) → inserts lt xs (inserts lt ys zs) ≡ inserts lt ys (inserts lt xs zs)
  unfolding inserts
  inserts-comm [] ys zs = refl
  inserts-comm (x ∷ xs) ys zs = ap (insert lt x) (inserts-comm xs ys zs) ∙ insert-inserts x ys (inserts lt xs zs)

  pub sorted-turn : (xs ys zs : List X) → sorted lt (xs ++ (ys ++ zs)) ≡ sorted lt (ys ++ (xs ++ zs))
  sorted-turn xs ys zs = sorted-append xs (ys ++ zs) ∙ ap (inserts lt xs) (sorted-append ys zs) ∙ inserts-comm xs ys (sorted lt zs)
      ∙ ap (inserts lt ys) (sym (sorted-append xs zs)) ∙ sym (sorted-append ys (xs ++ zs))

  pub sorted-under : (xs ys zs : List X) → sorted lt ys ≡ sorted lt zs → sorted lt (xs ++ ys) ≡ sorted lt (xs ++ zs)
  sorted-under xs ys zs e = sorted-append xs ys ∙ ap (inserts lt xs) e ∙ sym (sorted-append xs zs)

  pub sorted-swap-parts : (xs ys : List X) → sorted lt (xs ++ ys) ≡ sorted lt (ys ++ xs)
  sorted-swap-parts xs ys = ap (λ l. sorted lt (xs ++ l)) (sym (append-nil ys)) ∙ sorted-turn xs ys [] ∙ ap (λ l. sorted lt (ys ++ l)) (append-nil xs)

  pub all-inserts : (P : X → Type 0) (xs ys : List X) → AllByRecursion P xs → AllByRecursion P ys → AllByRecursion P (inserts lt xs ys)
  unfolding inserts
  all-inserts P [] ys p q = q
  all-inserts P (x ∷ xs) ys p q = all_insert o P x (inserts lt xs ys) p.0 (all-inserts P xs ys p.1 q)

  pub head-least : (xs : List X) (x : X) (ys : List X) → sorted lt xs ≡ x ∷ ys → AllByRecursion (λ y. lt y x ≡ false) ys
  head-least xs x ys e = (subst (Ascending lt) e (sorted-ascends o xs)).0

  -- x out of a list that it was put into
  abbrev without : X → List X → List X
  without x [] = []
  without x (y ∷ ys) = cond (lt y x) (y ∷ without x ys) ys

  without-insert : (x : X) (ys : List X) → without x (insert lt x ys) ≡ ys
  unfolding insert
  without-insert x [] = cond-false (lt x x) _ _ (o.never x)
  without-insert x (y ∷ ys) = ⊎_elim
      (λ t. ap (without x) (insert-past o x y ys t) ∙ cond-true (lt y x) _ _ t ∙ ap (λ l. y ∷ l) (without-insert x ys))
      (λ f. ap (without x) (insert-here o x y ys f) ∙ cond-false (lt x x) _ _ (o.never x))
      (cases_Bool (lt y x))

  inserts-cancel : (xs ys zs : List X) → inserts lt xs ys ≡ inserts lt xs zs → ys ≡ zs
  unfolding inserts
  inserts-cancel [] ys zs e = e
  inserts-cancel (x ∷ xs) ys zs e = inserts-cancel xs ys zs (sym (without-insert x (inserts lt xs ys)) ∙ ap (without x) e ∙ without-insert x (inserts lt xs zs))

  pub sorted-cancel : (xs ys zs : List X) → sorted lt (xs ++ zs) ≡ sorted lt (ys ++ zs) → sorted lt xs ≡ sorted lt ys
  sorted-cancel xs ys zs e = inserts-cancel zs (sorted lt xs) (sorted lt ys)
      (sym (sorted-append zs xs) ∙ sorted-swap-parts zs xs ∙ e ∙ sorted-swap-parts ys zs ∙ sorted-append zs ys)

  -- each item, and what hangs on the items right below it
  pub joined-opened : (f below : X → List X) (xs : List X) → sorted lt (flat_map (λ x. x ∷ flat_map f (below x)) xs) ≡ sorted lt (xs ++ flat_map f (flat_map below xs))
  unfolding sorted
  joined-opened f below [] = refl
  joined-opened f below (x ∷ xs) = ap (insert lt x)
      (sorted-under (flat_map f (below x)) (flat_map (λ x. x ∷ flat_map f (below x)) xs) (xs ++ flat_map f (flat_map below xs)) (joined-opened f below xs)
      ∙ sorted-turn (flat_map f (below x)) xs (flat_map f (flat_map below xs))
      ∙ ap (λ l. sorted lt (xs ++ l)) (sym (flat_map-append f (below x) (flat_map below xs))))

-- what hangs on the items of a list, wherever they stand in it
module _ {A : Type 0} {less : A → A → Bool} (p : Order less) {X : Type 0} {lt : X → X → Bool} (o : Order lt) (f : A → List X) where
  joined-insert : (x : A) (ys : List A) → sorted lt (flat_map f (insert less x ys)) ≡ sorted lt (f x ++ flat_map f ys)
  unfolding insert
  joined-insert x [] = refl
  joined-insert x (y ∷ ys) = ⊎_elim
      (λ t. ap (λ l. sorted lt (flat_map f l)) (insert-past p x y ys t) ∙ sorted-under o (f y) (flat_map f (insert less x ys)) (f x ++ flat_map f ys) (joined-insert x ys) ∙ sorted-turn o (f y) (f x) (flat_map f ys))
      (λ e. ap (λ l. sorted lt (flat_map f l)) (insert-here p x y ys e))
      (cases_Bool (less y x))

  pub joined-sorted : (xs : List A) → sorted lt (flat_map f (sorted less xs)) ≡ sorted lt (flat_map f xs)
  unfolding sorted
  joined-sorted [] = refl
  joined-sorted (x ∷ xs) = joined-insert x (sorted less xs) ∙ sorted-under o (f x) (flat_map f (sorted less xs)) (flat_map f xs) (joined-sorted xs)

  pub joined-alike : (xs ys : List A) → sorted less xs ≡ sorted less ys → sorted lt (flat_map f xs) ≡ sorted lt (flat_map f ys)
  joined-alike xs ys e = sym (joined-sorted xs) ∙ ap (λ l. sorted lt (flat_map f l)) e ∙ joined-sorted ys
