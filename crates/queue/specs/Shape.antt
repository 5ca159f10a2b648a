-- A binary heap in the front of a list.
use Rattle.std.specs.Prelude.{◌≡◌, ℕ, ◌-◌, ◌/◌, ◌<◌, Bool, false, List, slice_index_or}

-- the parent of k
abbrev pub up : ℕ → ℕ
up k = (k - 1) / 2

-- among the first n, none comes before its parent
unfoldable pub Heap : {X : Type 0} → (X → X → Bool) → List X → ℕ → Type 0
Heap {X} lt xs n = (k : ℕ) (d : X) → 0 < k → k < n → lt (slice_index_or xs k d) (slice_index_or xs (up k) d) ≡ false

-- the same but for the root
unfoldable pub Loose : {X : Type 0} → (X → X → Bool) → List X → ℕ → Type 0
Loose {X} lt xs n = (k : ℕ) (d : X) → 0 < up k → k < n → lt (slice_index_or xs k d) (slice_index_or xs (up k) d) ≡ false

-- no child of j comes before the element at c
unfoldable pub Least : {X : Type 0} → (X → X → Bool) → List X → ℕ → ℕ → ℕ → Type 0
Least {X} lt xs n j c = (k : ℕ) (d : X) → 0 < k → k < n → up k ≡ j → lt (slice_index_or xs k d) (slice_index_or xs c d) ≡ false
