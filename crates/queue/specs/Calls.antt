-- What the calls on a queue give and leave. A queue of length n means the sorted list of the first n items.
use Rattle.std.specs.Prelude.{◌≡◌, ℕ, ◌+◌, ◌-◌, ◌<◌, ◌≤◌, Bool, cond, ◌&&◌, List, [], ◌∷◌, length, take, drop, Some, None, Option, nat_le, nat_lt}
use Rattle.queue.specs.Order.{insert, sorted}
use Rattle.queue.specs.Shape.{Heap}

-- a push tells the new length, or nothing where the list is full
abbrev pub pushed : {X : Type 0} → List X → ℕ → Option ℕ
pushed items n = cond (nat_lt n (length items)) (Some (n + 1)) None

-- a pop tells the item at the root and the new length, or nothing where the queue is empty or longer than the list
abbrev pub popped : {X : Type 0} → List X → ℕ → Option (X × ℕ)
popped [] n = None
popped (x ∷ items) n = cond (nat_lt 0 n && nat_le n (length (x ∷ items))) (Some (x, n - 1)) None

-- the items as they were where the list is full; else x is put in among the first n, and a heap stays one
pub record Pushed {X : Type 0} (lt : X → X → Bool) (before after : List X) (n : ℕ) (x : X) : Type 0 where
  pub full : length before ≤ n → after ≡ before
  pub contents : n < length before → sorted lt (take (n + 1) after) ≡ insert lt x (sorted lt (take n before))
  pub shape : n < length before → Heap lt before n → Heap lt after (n + 1)
  pub rest : drop (n + 1) after ≡ drop (n + 1) before

-- the items as they were where nothing is told; else the head of the queue is told and its tail stays, again a heap
abbrev pub Popped : {X : Type 0} → (X → X → Bool) → List X → List X → ℕ → Option (X × ℕ) → Type 0
Popped lt before after n None = after ≡ before
Popped lt before after n (Some r) = (Heap lt before n → (sorted lt (take n before) ≡ r.0 ∷ sorted lt (take r.1 after)) × Heap lt after r.1) × (drop n after ≡ drop n before)
