-- Lists made from numbers counted up.
use Rattle.std.specs.Prelude.{◌≡◌, ℕ, zero, suc, ◌+◌, ◌<◌, ◌≤◌, Bool, List, [], ◌∷◌, ◌++◌, map, length, filter, ◌==◌, refl}
use Rattle.std.proofs.Common.{ap, ◌∙◌, ⊎_elim, arith}
use Rattle.std.specs.List.{range_with_len, flat_map, AllByRecursion}
use Rattle.std.proofs.lemmas.Bool.{eq-eqb, ne_eqb, cond-true, cond-false, cases_eq}

-- what holds at each number holds of the list made from them
pub all-counted : {X : Type 0} (P : X → Type 0) (f : ℕ → X) (a n : ℕ) → ((i : ℕ) → i < a + n → P (f i)) → AllByRecursion P (map f (range_with_len a n))
all-counted P f a zero h = tt
all-counted P f a (suc n) h = (h a (omega arith), all-counted P f (a + 1) n (λ i p. h i (omega arith)))

-- the lists joined from a list made from numbers
pub joined-counted : {X A : Type 0} (g : X → List A) (f : ℕ → X) (h : ℕ → List A) → ((i : ℕ) → g (f i) ≡ h i) → (a n : ℕ) → flat_map g (map f (range_with_len a n)) ≡ flat_map h (range_with_len a n)
joined-counted g f h e a zero = refl
joined-counted g f h e a (suc n) = ap (λ l. l ++ flat_map g (map f (range_with_len (a + 1) n))) (e a) ∙ ap (λ l. h a ++ l) (joined-counted g f h e (a + 1) n)

pub joined-none : {A : Type 0} (a n : ℕ) → flat_map {A = A} (λ _. []) (range_with_len a n) ≡ []
joined-none a zero = refl
joined-none a (suc n) = joined-none (a + 1) n

pub joined-one : {A : Type 0} (h : ℕ → A) (a n : ℕ) → flat_map (λ j. h j ∷ []) (range_with_len a n) ≡ map h (range_with_len a n)
joined-one h a zero = refl
joined-one h a (suc n) = ap (λ l. h a ∷ l) (joined-one h (a + 1) n)

-- of pairs that begin with the numbers after a, exactly one begins with k
module _ {B : Type 0} (f : ℕ → B) (k : ℕ) where
  abbrev begins : ℕ × B → Bool
  begins b = b.0 == k

  abbrev pair : ℕ → ℕ × B
  pair i = (i + 1, f i)

  none-begins : (a n : ℕ) → k ≤ a → length (filter begins (map pair (range_with_len a n))) ≡ 0
  none-begins a zero h = refl
  none-begins a (suc n) h = ap length (cond-false (a + 1 == k) _ _ (ne_eqb (a + 1) k (λ e. omega arith))) ∙ none-begins (a + 1) n (omega arith)

  pub one-begins : (a n : ℕ) → a < k → k ≤ a + n → length (filter begins (map pair (range_with_len a n))) ≡ 1
  one-begins a zero h l = absurd (omega arith)
  one-begins a (suc n) h l = ⊎_elim
      (λ (e : a + 1 ≡ k). ap length (cond-true (a + 1 == k) _ _ (eq-eqb (a + 1) k e)) ∙ ap suc (none-begins (a + 1) n (omega arith)))
      (λ (d : a + 1 ≡ k → ⊥). ap length (cond-false (a + 1 == k) _ _ (ne_eqb (a + 1) k d)) ∙ one-begins (a + 1) n (omega arith) (omega arith))
      (cases_eq (a + 1) k)
