-- One element moves up or down in a heap.
use Rattle.std.proofs.Common.{◌≡◌, ℕ, zero, suc, ◌+◌, ◌*◌, ◌<◌, ◌≤◌, Bool, true, false, List, get_or, sym, refl, ap, ◌∙◌, ⊎_elim, arith}
use Rattle.std.proofs.lemmas.Bool.{cases_eq}
use Rattle.queue.specs.Order.{Order}
use Rattle.queue.specs.Shape.{up, Heap, Loose, Least}
use Rattle.queue.proofs.Sorting.{one_way, chain-not}

-- ys is xs with the elements at i and j exchanged
abbrev pub Swap : {X : Type 0} → List X → List X → ℕ → ℕ → Type 0
Swap {X} xs ys i j = ((d : X) → get_or ys i d ≡ get_or xs j d) × ((d : X) → get_or ys j d ≡ get_or xs i d) × ((k : ℕ) (d : X) → (k ≡ i → ⊥) → (k ≡ j → ⊥) → get_or ys k d ≡ get_or xs k d)

module _ {X : Type 0} (lt : X → X → Bool) where
  by : (a b x y : X) → a ≡ x → b ≡ y → lt x y ≡ false → lt a b ≡ false
  by a b x y p q h = (λ k. lt (p k) (q k)) ∙ h

  -- the children of j are not before j's parent
  abbrev Bridged : List X → ℕ → ℕ → Type 0
  Bridged xs n j = (k : ℕ) (d : X) → 0 < k → k < n → up k ≡ j → 0 < j → lt (get_or xs k d) (get_or xs (up j) d) ≡ false

  -- a heap but that the element at j may be before its parent
  unfoldable pub Rising : List X → ℕ → ℕ → Type 0
  Rising xs n j = ((k : ℕ) (d : X) → 0 < k → k < n → (k ≡ j → ⊥) → lt (get_or xs k d) (get_or xs (up k) d) ≡ false) × Bridged xs n j

  -- a heap but that children of j may be before j
  unfoldable pub Sinking : List X → ℕ → ℕ → Type 0
  Sinking xs n j = ((k : ℕ) (d : X) → 0 < k → k < n → (up k ≡ j → ⊥) → lt (get_or xs k d) (get_or xs (up k) d) ≡ false) × Bridged xs n j

  pub rise_begins : (xs : List X) (n : ℕ) → Heap lt xs n → Rising xs (n + 1) n
  unfolding Heap Rising
  rise_begins xs n h = (λ k d a b e. h k d a (omega arith), λ k d a b e f. absurd (omega arith))

  pub rise_tops : (xs : List X) (n j : ℕ) → j ≡ 0 → Rising xs n j → Heap lt xs n
  unfolding Heap Rising
  rise_tops xs n j z r = λ k d a b. r.0 k d a b (omega arith)

  pub rise_rests : (xs : List X) (n j : ℕ) → ((d : X) → lt (get_or xs j d) (get_or xs (up j) d) ≡ false) → Rising xs n j → Heap lt xs n
  unfolding Heap Rising
  rise_rests xs n j t r = λ k d a b. ⊎_elim
      (λ e. by _ _ _ _ (ap (λ m. get_or xs m d) e) (ap (λ m. get_or xs (up m) d) e) (t d))
      (λ u. r.0 k d a b u) (cases_eq k j)

  pub heap-none : (xs : List X) → Heap lt xs 0
  unfolding Heap
  heap-none xs = λ k d a b. absurd (omega arith)

  -- what agrees on the first n
  pub heap-agrees : (xs ys : List X) (n : ℕ) → ((k : ℕ) (d : X) → k < n → get_or ys k d ≡ get_or xs k d) → Heap lt xs n → Heap lt ys n
  unfolding Heap
  heap-agrees xs ys n e h = λ k d a b. by _ _ _ _ (e k d b) (e (up k) d (omega arith)) (h k d a b)

  pub loose-agrees : (xs ys : List X) (n m : ℕ) → n ≤ m → ((k : ℕ) (d : X) → 0 < k → k < n → get_or ys k d ≡ get_or xs k d) → Heap lt xs m → Loose lt ys n
  unfolding Heap Loose
  loose-agrees xs ys n m le e h = λ k d a b. by _ _ _ _ (e k d (omega arith) b) (e (up k) d a (omega arith)) (h k d (omega arith) (omega arith))

  pub sink_begins : (xs : List X) (n : ℕ) → Loose lt xs n → Sinking xs n 0
  unfolding Loose Sinking
  sink_begins xs n h = (λ k d a b u. h k d (omega arith) b, λ k d a b f g. absurd (omega arith))

  pub sink_ends : (xs : List X) (n j : ℕ) → n ≤ 2 * j + 1 → Sinking xs n j → Heap lt xs n
  unfolding Heap Sinking
  sink_ends xs n j le s = λ k d a b. s.0 k d a b (omega arith)

  module _ (o : Order lt) where
    pub sink_rests : (xs : List X) (n j c : ℕ) → Least lt xs n j c → ((d : X) → lt (get_or xs c d) (get_or xs j d) ≡ false) → Sinking xs n j → Heap lt xs n
    unfolding Heap Sinking Least
    sink_rests xs n j c least t s = λ k d a b. ⊎_elim
        (λ e. by _ _ _ _ refl (ap (λ m. get_or xs m d) e) (chain-not o _ _ _ (least k d a b e) (t d)))
        (λ u. s.0 k d a b u) (cases_eq (up k) j)

    pub rise_steps : (xs ys : List X) (n j : ℕ) → 0 < j → j < n → Swap xs ys j (up j) → ((d : X) → lt (get_or xs j d) (get_or xs (up j) d) ≡ true) → Rising xs n j → Rising ys n (up j)
    unfolding Rising
    rise_steps xs ys n j z in' s t r = (
      λ k d a b u. ⊎_elim
          (λ (e : k ≡ j). by _ _ _ _ (ap (λ m. get_or ys m d) e ∙ s.0 d) (ap (λ m. get_or ys (up m) d) e ∙ s.1 d) (one_way o _ _ (t d)))
          (λ (v : k ≡ j → ⊥). ⊎_elim
          (λ (e : up k ≡ j). by _ _ _ _ (s.2 k d v u) (ap (λ m. get_or ys m d) e ∙ s.0 d) (r.1 k d a b e z))
          (λ (w : up k ≡ j → ⊥). ⊎_elim
          (λ (e : up k ≡ up j). by _ _ _ _ (s.2 k d v u) (ap (λ m. get_or ys m d) e ∙ s.1 d)
          (chain-not o _ _ _ (by _ _ _ _ refl (ap (λ m. get_or xs m d) (sym e)) (r.0 k d a b v)) (one_way o _ _ (t d))))
          (λ (x : up k ≡ up j → ⊥). by _ _ _ _ (s.2 k d v u) (s.2 (up k) d w x) (r.0 k d a b v))
          (cases_eq (up k) (up j)))
          (cases_eq (up k) j))
          (cases_eq k j),
      λ k d a b e f.
          let over = r.0 (up j) d f (omega arith) (omega arith) in
          let same = s.2 (up (up j)) d (omega arith) (omega arith) in ⊎_elim
          (λ (g : k ≡ j). by _ _ _ _ (ap (λ m. get_or ys m d) g ∙ s.0 d) same over)
          (λ (v : k ≡ j → ⊥). by _ _ _ _ (s.2 k d v (omega arith)) same (chain-not o _ _ _ (by _ _ _ _ refl (ap (λ m. get_or xs m d) (sym e)) (r.0 k d a b v)) over))
          (cases_eq k j),
    )

    pub sink_steps : (xs ys : List X) (n j c : ℕ) → 0 < c → c < n → up c ≡ j → Swap xs ys j c → Least lt xs n j c → ((d : X) → lt (get_or xs c d) (get_or xs j d) ≡ true) → Sinking xs n j → Sinking ys n c
    unfolding Sinking Least
    sink_steps xs ys n j c z in' e s least t r = (
      λ k d a b u. ⊎_elim
          (λ (f : k ≡ c). by _ _ _ _ (ap (λ m. get_or ys m d) f ∙ s.1 d) (ap (λ m. get_or ys (up m) d) f ∙ ap (λ m. get_or ys m d) e ∙ s.0 d) (one_way o _ _ (t d)))
          (λ (v : k ≡ c → ⊥). ⊎_elim
          (λ (f : k ≡ j). by _ _ _ _ (ap (λ m. get_or ys m d) f ∙ s.0 d) (s.2 (up k) d (omega arith) u ∙ ap (λ m. get_or xs (up m) d) f) (r.1 c d z in' e (omega arith)))
          (λ (w : k ≡ j → ⊥). ⊎_elim
          (λ (f : up k ≡ j). by _ _ _ _ (s.2 k d w v) (ap (λ m. get_or ys m d) f ∙ s.0 d) (least k d a b f))
          (λ (x : up k ≡ j → ⊥). by _ _ _ _ (s.2 k d w v) (s.2 (up k) d x u) (r.0 k d a b x))
          (cases_eq (up k) j))
          (cases_eq k j))
          (cases_eq k c),
      λ k d a b f g. by _ _ _ _ (s.2 k d (omega arith) (omega arith)) (ap (λ m. get_or ys m d) e ∙ s.0 d)
          (by _ _ _ _ refl (ap (λ m. get_or xs m d) (sym f)) (r.0 k d a b (omega arith))),
    )

    -- the root is before none
    top : (xs : List X) (n : ℕ) (d : X) → Heap lt xs n → (fuel k : ℕ) → k ≤ fuel → k < n → lt (get_or xs k d) (get_or xs 0 d) ≡ false
    unfolding Heap
    top xs n d h zero k a b = by _ _ _ _ (ap (λ m. get_or xs m d) (omega arith)) refl (o.never (get_or xs 0 d))
    top xs n d h (suc fuel) k a b = ⊎_elim
        (λ e. by _ _ _ _ (ap (λ m. get_or xs m d) e) refl (o.never (get_or xs 0 d)))
        (λ u. chain-not o _ _ _ (h k d (omega arith) b) (top xs n d h fuel (up k) (omega arith) (omega arith)))
        (cases_eq k 0)

    pub root-least : (xs : List X) (n : ℕ) (d : X) → Heap lt xs n → (k : ℕ) → k < n → lt (get_or xs k d) (get_or xs 0 d) ≡ false
    root-least xs n d h k b = top xs n d h k k (omega arith) b

    pub only_child : (xs : List X) (n j c : ℕ) → c ≡ 2 * j + 1 → n ≤ c + 1 → Least lt xs n j c
    unfolding Least
    only_child xs n j c e l = λ k d a b f. by _ _ _ _ (let g : k ≡ c = omega arith in ap (λ m. get_or xs m d) g) refl (o.never (get_or xs c d))

    -- either child, which is not after the other
    pub one-child : (xs : List X) (n j c c' : ℕ) → c + c' ≡ 4 * j + 3 → up c ≡ j → up c' ≡ j → ((d : X) → lt (get_or xs c' d) (get_or xs c d) ≡ false) → Least lt xs n j c
    unfolding Least
    one-child xs n j c c' s e e' t = λ k d a b f. ⊎_elim
        (λ g. by _ _ _ _ (ap (λ m. get_or xs m d) g) refl (o.never (get_or xs c d)))
        (λ u. by _ _ _ _ (let g : k ≡ c' = omega arith in ap (λ m. get_or xs m d) g) refl (t d))
        (cases_eq k c)
