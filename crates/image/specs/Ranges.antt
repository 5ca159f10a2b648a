-- Lists gone through by index.
use Rattle.std.specs.Prelude.{◌≡◌, ℕ, zero, suc, ◌+◌, ◌-◌, ◌<◌, ◌≤◌, cond, List, [], ◌∷◌, ◌++◌, map, nat_lt, refl}
use Rattle.std.proofs.Common.{sym, ap, subst, ◌∙◌, ⊎_elim, arith}
use Rattle.std.specs.List.{range_with_len, flat_map, AllByRecursion}
use Rattle.std.proofs.lemmas.List.{append_assoc}
use Rattle.std.proofs.ByRecursion.{All-append}
use Rattle.std.proofs.lemmas.Bool.{cases_lt, cases_eq, cond-true, cond-false}
use Rattle.std.proofs.lemmas.Bool.Decides.{nat_tests}

pub counting-append : (a m k : ℕ) → range_with_len a (m + k) ≡ range_with_len a m ++ range_with_len (a + m) k
counting-append a zero k = λ i. range_with_len (let z : a ≡ a + 0 = omega arith in z i) (let w : 0 + k ≡ k = omega arith in w i)
counting-append a (suc m) k =
    ap (range_with_len a) (let w : suc m + k ≡ suc (m + k) = omega arith in w) ∙ ap (λ l. a ∷ l) (counting-append (a + 1) m k ∙ ap (λ b. range_with_len (a + 1) m ++ range_with_len b k) (let w : a + 1 + m ≡ a + suc m = omega arith in w))

pub joined-append : {A B : Type 0} (f : A → List B) (xs ys : List A) → flat_map f (xs ++ ys) ≡ flat_map f xs ++ flat_map f ys
joined-append f [] ys = refl
joined-append f (x ∷ xs) ys = ap (λ l. f x ++ l) (joined-append f xs ys) ∙ sym (append_assoc (f x) (flat_map f xs) (flat_map f ys))

pub joined-map : {A B C : Type 0} (f : B → List C) (g : A → B) (xs : List A) → flat_map f (map g xs) ≡ flat_map (λ x. f (g x)) xs
joined-map f g [] = refl
joined-map f g (x ∷ xs) = ap (λ l. f (g x) ++ l) (joined-map f g xs)

-- functions that agree from a to a + n
pub joined_same : {X : Type 0} (f g : ℕ → List X) (a n : ℕ) → ((e : ℕ) → a ≤ e → e < a + n → f e ≡ g e) → flat_map f (range_with_len a n) ≡ flat_map g (range_with_len a n)
joined_same f g a zero h = refl
joined_same f g a (suc n) h = λ i. h a (omega arith) (omega arith) i ++ joined_same f g (a + 1) n (λ e l m. h e (omega arith) (omega arith)) i

-- what holds of all that each index gives
pub all-joined : {X : Type 0} (P : X → Type 0) (f : ℕ → List X) (a n : ℕ) → ((e : ℕ) → a ≤ e → e < a + n → AllByRecursion P (f e)) → AllByRecursion P (flat_map f (range_with_len a n))
all-joined P f a zero h = tt
all-joined P f a (suc n) h = All-append P (f a) (flat_map f (range_with_len (a + 1) n)) (h a (omega arith) (omega arith)) (all-joined P f (a + 1) n (λ e l m. h e (omega arith) (omega arith)))

all-parts : {X : Type 0} (P : X → Type 0) (xs ys : List X) → AllByRecursion P (xs ++ ys) → AllByRecursion P xs × AllByRecursion P ys
all-parts P [] ys h = (tt, h)
all-parts P (x ∷ xs) ys h = let rest = all-parts P xs ys h.1 in ((h.0, rest.0), rest.1)

pub joined-all : {X : Type 0} (P : X → Type 0) (f : ℕ → List X) (a n : ℕ) → AllByRecursion P (flat_map f (range_with_len a n)) → (e : ℕ) → a ≤ e → e < a + n → AllByRecursion P (f e)
joined-all P f a zero h e l m = absurd (omega arith)
joined-all P f a (suc n) h e l m =
    let parts = all-parts P (f a) (flat_map f (range_with_len (a + 1) n)) h in
    ⊎_elim (λ (q : a ≡ e). subst (λ k. AllByRecursion P (f k)) q parts.0) (λ (q : a ≡ e → ⊥). joined-all P f (a + 1) n parts.1 e (omega (arith, q)) (omega arith)) (cases_eq a e)

-- the first c of m places are taken
pub padded : {X : Type 0} (g : ℕ → List X) (a c b m : ℕ) → c ≤ b + m → flat_map (λ j. cond (nat_lt j c) (g (a + j)) []) (range_with_len b m) ≡ flat_map g (range_with_len (a + b) (c - b))
padded g a c b zero h = ap (λ k. flat_map g (range_with_len (a + b) k)) (let z : 0 ≡ c - b = omega arith in z)
padded g a c b (suc m) h = ⊎_elim
    (λ (l : b < c).
    (λ i. cond-true (nat_lt b c) (g (a + b)) [] (grind (arith, nat_tests)) i ++ padded g a c (b + 1) m (omega arith) i)
    ∙ ap (λ k. g (a + b) ++ flat_map g (range_with_len k (c - (b + 1)))) (let w : a + (b + 1) ≡ a + b + 1 = omega arith in w)
    ∙ ap (λ k. flat_map g (range_with_len (a + b) k)) (let w : suc (c - (b + 1)) ≡ c - b = omega arith in w))
    (λ (l : c ≤ b).
    (λ i. cond-false (nat_lt b c) (g (a + b)) [] (grind (arith, nat_tests)) i ++ padded g a c (b + 1) m (omega arith) i)
    ∙ ap (λ k. flat_map g (range_with_len (a + (b + 1)) k)) (let w : c - (b + 1) ≡ 0 = omega arith in w)
    ∙ ap (λ k. flat_map g (range_with_len (a + b) k)) (let w : 0 ≡ c - b = omega arith in w))
    (cases_lt b c)
