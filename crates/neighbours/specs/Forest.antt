-- Trees of items, each of which leads to those right below it, and all items of a tree.
use Rattle.std.specs.Prelude.{◌≡◌, ℕ, zero, suc, ◌<◌, Bool, false, List, [], ◌∷◌}
use Rattle.std.specs.List.{flat_map, AllByRecursion}
use Rattle.queue.specs.Order.{insert, sorted}

-- x and the items below it, as far as k levels
unfoldable pub flatten : {X : Type 0} → (X → List X) → ℕ → X → List X
flatten below zero x = []
flatten below (suc k) x = x ∷ flat_map (λ y. flatten below k y) (below x)

-- a good item leads to good items of a lower rank, none of which comes before it
pub record Hangs {X : Type 0} (lt : X → X → Bool) (below : X → List X) (rank : X → ℕ) (Good : X → Type 0) : Type 0 where
  pub lower : (x : X) → Good x → AllByRecursion (λ y. rank y < rank x) (below x)
  pub after : (x : X) → Good x → AllByRecursion (λ y. lt y x ≡ false) (below x)
  pub good : (x : X) → Good x → AllByRecursion Good (below x)

-- x and all items below it
unfoldable pub tree : {X : Type 0} → (X → List X) → (X → ℕ) → X → List X
tree below rank x = flatten below (suc (rank x)) x

-- all items of the trees of xs, in order
unfoldable pub still : {X : Type 0} → (X → X → Bool) → (X → List X) → (X → ℕ) → List X → List X
still lt below rank xs = sorted lt (flat_map (tree below rank) xs)

-- each of xs put in among ys, which are in order
unfoldable pub inserts : {X : Type 0} → (X → X → Bool) → List X → List X → List X
inserts lt [] ys = ys
inserts lt (x ∷ xs) ys = insert lt x (inserts lt xs ys)
