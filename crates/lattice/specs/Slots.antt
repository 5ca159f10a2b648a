-- Twelve slots of which the first n are filled.
use Rattle.std.specs.Prelude.{◌≡◌, ℕ, zero, suc, ◌+◌, ◌<◌, ◌≤◌, cond, List, [], ◌∷◌, ◌++◌, map, length, nat_lt, slice_index_or, refl}
use Rattle.std.proofs.Common.{sym, ap, ◌∙◌, ⊎_elim, arith}
use Rattle.std.specs.List.{range_with_len, flat_map, AllByRecursion}
use Rattle.std.proofs.lemmas.Bool.{ltb-true, lt-ltb, le-ltb, cond-true, cond-false, cond_both, cases_lt}
use Rattle.std.proofs.lemmas.List.{get_or_past}
use Rattle.std.proofs.lemmas.List.FromFn.{length-map-range_with_len, get_or-map-range_with_len}
use Rattle.index.specs.declared.slot.Slot.{Slot}
use Rattle.index.specs.declared.slot.Slot.TheVariants.{Empty}
use Rattle.lattice.specs.Grid.{first_slots}
use Rattle.lattice.specs.Counting.{all-counted, joined-none, joined-one}

-- there are twelve
pub first-length : (n : ℕ) (f : ℕ → Slot) → length (first_slots n f) ≡ 12
unfolding first_slots
first-length n f = length-map-range_with_len (λ j. cond (nat_lt j n) (f j) Empty) 0 12

-- slot j
first-at : (n : ℕ) (f : ℕ → Slot) (j : ℕ) → n ≤ 12 → slice_index_or (first_slots n f) j Empty ≡ cond (nat_lt j n) (f j) Empty
unfolding first_slots
first-at n f j h = ⊎_elim
    (λ (l : j < 12). get_or-map-range_with_len (λ j. cond (nat_lt j n) (f j) Empty) 0 12 j j Empty l (omega arith))
    (λ (g : 12 ≤ j). get_or_past (first_slots n f) j Empty g ∙ sym (cond-false (nat_lt j n) (f j) Empty (le-ltb j n (omega arith))))
    (cases_lt j 12)

pub first-filled : (n : ℕ) (f : ℕ → Slot) (j : ℕ) → n ≤ 12 → j < n → f j ≡ slice_index_or (first_slots n f) j Empty
first-filled n f j h l = sym (cond-true (nat_lt j n) (f j) Empty (lt-ltb j n l)) ∙ sym (first-at n f j h)

pub first-empty : (n : ℕ) (f : ℕ → Slot) (j : ℕ) → n ≤ 12 → n ≤ j → Empty ≡ slice_index_or (first_slots n f) j Empty
first-empty n f j h l = sym (cond-false (nat_lt j n) (f j) Empty (le-ltb j n l)) ∙ sym (first-at n f j h)

-- what holds of the empty slot and of the first n holds of all
pub first-all : (P : Slot → Type 0) (n : ℕ) (f : ℕ → Slot) → P Empty → ((j : ℕ) → j < n → P (f j)) → AllByRecursion P (first_slots n f)
unfolding first_slots
first-all P n f e h = all-counted P (λ j. cond (nat_lt j n) (f j) Empty) 0 12 (λ j p. cond_both (nat_lt j n) (f j) Empty P (λ t. h j (ltb-true j n t)) (λ _. e))

-- what is joined from the slots is joined from the first n alone
module _ {A : Type 0} (g : Slot → List A) (none : g Empty ≡ []) (f : ℕ → Slot) (m : ℕ) where
  abbrev slot : ℕ → Slot
  slot j = cond (nat_lt j m) (f j) Empty

  past : (a n : ℕ) → m ≤ a → flat_map g (map slot (range_with_len a n)) ≡ []
  past a zero h = refl
  past a (suc n) h = ap (λ s. g s ++ flat_map g (map slot (range_with_len (a + 1) n))) (cond-false (nat_lt a m) (f a) Empty (le-ltb a m h)) ∙ ap (λ l. l ++ flat_map g (map slot (range_with_len (a + 1) n))) none ∙ past (a + 1) n (omega arith)

  upto : (h : ℕ → List A) → ((j : ℕ) → g (f j) ≡ h j) → (a n k : ℕ) → a + k ≡ m → k ≤ n → flat_map g (map slot (range_with_len a n)) ≡ flat_map h (range_with_len a k)
  upto h e a n zero p q = past a n (omega arith)
  upto h e a zero (suc k) p q = absurd (omega arith)
  upto h e a (suc n) (suc k) p q = ap (λ s. g s ++ flat_map g (map slot (range_with_len (a + 1) n))) (cond-true (nat_lt a m) (f a) Empty (lt-ltb a m (omega arith))) ∙ ap (λ l. l ++ flat_map g (map slot (range_with_len (a + 1) n))) (e a) ∙ ap (λ l. h a ++ l) (upto h e (a + 1) n k (omega arith) (omega arith))

-- so nothing is joined where none of them gives anything, and one each where each gives one
pub first-none : {A : Type 0} (g : Slot → List A) (n : ℕ) (f : ℕ → Slot) → g Empty ≡ [] → ((j : ℕ) → g (f j) ≡ []) → n ≤ 12 → flat_map g (first_slots n f) ≡ []
unfolding first_slots
first-none {A} g n f e s h = upto g e f n (λ _. []) s 0 12 n (omega arith) h ∙ joined-none {A = A} 0 n

pub first_one : {A : Type 0} (g : Slot → List A) (n : ℕ) (f : ℕ → Slot) (h : ℕ → A) → g Empty ≡ [] → ((j : ℕ) → g (f j) ≡ h j ∷ []) → n ≤ 12 → flat_map g (first_slots n f) ≡ map h (range_with_len 0 n)
unfolding first_slots
first_one g n f h e s l = upto g e f n (λ j. h j ∷ []) s 0 12 n (omega arith) l ∙ joined-one h 0 n
