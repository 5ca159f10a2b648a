-- Strict total orders as tests, and lists in their order.
use Rattle.std.specs.Prelude.{◌≡◌, ℕ, Bool, true, false, cond, List, [], ◌∷◌, nat_lt}

-- a strict total order that decides equality
pub record Order {X : Type 0} (lt : X → X → Bool) : Type 0 where
  pub never : (x : X) → lt x x ≡ false
  pub chain : (x y z : X) → lt x y ≡ true → lt y z ≡ true → lt x z ≡ true
  pub decides : (x y : X) → lt x y ≡ false → lt y x ≡ false → x ≡ y

-- x put in among ys, which are in order
unfoldable pub insert : {X : Type 0} → (X → X → Bool) → X → List X → List X
insert lt x [] = x ∷ []
insert lt x (y ∷ ys) = cond (lt y x) (y ∷ insert lt x ys) (x ∷ (y ∷ ys))

-- the items of a list in order; two lists hold the same items when these are equal
unfoldable pub sorted : {X : Type 0} → (X → X → Bool) → List X → List X
sorted lt [] = []
sorted lt (x ∷ xs) = insert lt x (sorted lt xs)

-- by f, and by g where f puts neither first
abbrev pub then_by : {X : Type 0} → (X → X → Bool) → (X → X → Bool) → X → X → Bool
then_by f g x y = cond (f x y) true (cond (f y x) false (g x y))

-- pairs by the first, then by the second
abbrev pub by_first : {X Y : Type 0} → (X → X → Bool) → (Y → Y → Bool) → X × Y → X × Y → Bool
by_first lt mt = then_by (λ a b. lt a.0 b.0) (λ a b. mt a.1 b.1)

-- pairs of numbers in lexicographic order: the first decides, then the second
abbrev pub smaller : ℕ × ℕ → ℕ × ℕ → Bool
smaller = by_first nat_lt nat_lt
