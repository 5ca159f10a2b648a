-- The best-first walk of a tree gives its items in order.
use Rattle.std.proofs.Common.{◌≡◌, ℕ, zero, suc, ◌<◌, ◌≤◌, Bool, false, List, [], ◌∷◌, ◌++◌, length, sym, ap, ◌∙◌, subst, arith, length-append}
use Rattle.std.specs.List.{flat_map, AllByRecursion}
use Rattle.std.proofs.ByRecursion.{All-append}
use Rattle.std.proofs.lemmas.Grind.{flat_map-append}
use Rattle.queue.specs.Order.{Order, sorted}
use Rattle.queue.proofs.Sorting.{least-sorted, chain-not}
use Rattle.queue.proofs.Ascending.{length-sorted}
use Rattle.neighbours.specs.Forest.{flatten, Hangs, tree, still}
use Rattle.neighbours.proofs.Bags.{
  joined_same,
  all-joined,
  all_both,
  sorted-append,
  sorted-under,
  sorted-swap-parts,
  all-inserts,
  head-least,
  sorted-cancel,
  joined-opened,
  joined-sorted,
  joined-alike,
}

module _ {X : Type 0} {lt : X → X → Bool} {below : X → List X} {rank : X → ℕ} {Good : X → Type 0} (o : Order lt) (hangs : Hangs lt below rank Good) where
  -- enough levels are enough
  steady : (k j : ℕ) (x : X) → Good x → rank x < k → rank x < j → flatten below k x ≡ flatten below j x
  unfolding flatten
  steady zero j x g a b = absurd (omega arith)
  steady (suc k) zero x g a b = absurd (omega arith)
  steady (suc k) (suc j) x g a b = ap (λ l. x ∷ l)
      (joined_same _ _ (below x) (λ y. Good y × (rank y < rank x)) (λ y h. steady k j y h.0 (omega arith) (omega arith)) (all_both Good _ (below x) (hangs.good x g) (hangs.lower x g)))

  tree_opens : (x : X) → Good x → tree below rank x ≡ x ∷ flat_map (tree below rank) (below x)
  unfolding tree flatten
  tree_opens x g = ap (λ l. x ∷ l)
      (joined_same _ _ (below x) (λ y. Good y × (rank y < rank x)) (λ y h. steady (rank x) (suc (rank y)) y h.0 h.1 (omega arith)) (all_both Good _ (below x) (hangs.good x g) (hangs.lower x g)))

  -- no item of a tree comes before its root
  none_before : (k : ℕ) (r x : X) → Good x → lt x r ≡ false → AllByRecursion (λ y. lt y r ≡ false) (flatten below k x)
  unfolding flatten
  none_before zero r x g h = tt
  none_before (suc k) r x g h = (h, all-joined _ (λ y. lt y r ≡ false) (below x) (λ y. Good y × (lt y x ≡ false)) (λ y e. none_before k r y e.0 (chain-not o y x r e.1 h)) (all_both Good _ (below x) (hangs.good x g) (hangs.after x g)))

  tree-after : (r x : X) → Good x × (lt x r ≡ false) → AllByRecursion (λ y. lt y r ≡ false) (tree below rank x)
  unfolding tree
  tree-after r x h = none_before (suc (rank x)) r x h.0 h.1

  -- the least of the queue is opened
  opened : (x : X) (ys : List X) → Good x → AllByRecursion Good ys → AllByRecursion (λ y. lt y x ≡ false) ys → sorted lt (flat_map (tree below rank) (x ∷ ys)) ≡ x ∷ sorted lt (flat_map (tree below rank) (below x) ++ flat_map (tree below rank) ys)
  unfolding sorted
  opened x ys g gs h =
      let f = tree below rank in
      let rest = flat_map f (below x) ++ flat_map f ys in
      let under : AllByRecursion (λ y. lt y x ≡ false) rest = All-append (λ y. lt y x ≡ false) (flat_map f (below x)) (flat_map f ys)
      (all-joined f (λ y. lt y x ≡ false) (below x) _ (tree-after x) (all_both Good _ (below x) (hangs.good x g) (hangs.after x g)))
      (all-joined f (λ y. lt y x ≡ false) ys _ (tree-after x) (all_both Good _ ys gs h)) in
      ap (λ l. sorted lt (l ++ flat_map f ys)) (tree_opens x g) ∙ least-sorted o x rest under

  -- one turn: `pop` gave x and left `after`, and the items right below x are pushed
  pub turn : (before after : List X) (x : X) → sorted lt before ≡ x ∷ sorted lt after → AllByRecursion Good (sorted lt before) → still lt below rank before ≡ x ∷ still lt below rank (after ++ below x)
  unfolding still
  turn before after x e gs =
      let f = tree below rank in
      let gs' = subst (AllByRecursion Good) e gs in
      sym (joined-sorted o o f before) ∙ ap (λ l. sorted lt (flat_map f l)) e
      ∙ opened x (sorted lt after) gs'.0 gs'.1 (head-least o before x (sorted lt after) e)
      ∙ ap (λ l. x ∷ l) (sorted-under o (flat_map f (below x)) (flat_map f (sorted lt after)) (flat_map f after) (joined-sorted o o f after)
      ∙ sorted-swap-parts o (flat_map f (below x)) (flat_map f after)
      ∙ ap (sorted lt) (sym (flat_map-append f after (below x))))

  pub turn-good : (before after : List X) (x : X) → sorted lt before ≡ x ∷ sorted lt after → AllByRecursion Good (sorted lt before) → AllByRecursion Good (sorted lt (after ++ below x))
  turn-good before after x e gs =
      let gs' = subst (AllByRecursion Good) e gs in
      subst (AllByRecursion Good) (sym (sorted-swap-parts o after (below x) ∙ sorted-append o (below x) after)) (all-inserts o Good (below x) (sorted lt after) (hangs.good x gs'.0) gs'.1)

  -- as many items as trees at least
  longer : (xs : List X) → length xs ≤ length (flat_map (tree below rank) xs)
  unfolding tree flatten
  longer [] = omega arith
  longer (x ∷ xs) = omega (arith, longer xs, length-append (tree below rank x) (flat_map (tree below rank) xs))

  pub still-long : (xs : List X) → length xs ≤ length (still lt below rank xs)
  unfolding still
  still-long xs = omega (arith, length-sorted o (flat_map (tree below rank) xs), longer xs)

  -- where each item but r is right below one item, once, the tree of r has all items
  pub all-items : (xs : List X) (r : X) → AllByRecursion Good xs → sorted lt xs ≡ sorted lt (r ∷ flat_map below xs) → sorted lt (tree below rank r) ≡ sorted lt xs
  all-items xs r gs once =
      let f = tree below rank in
      let rest = flat_map f (flat_map below xs) in
      sorted-cancel o (f r) xs rest
      (sym (joined-alike o o f xs (r ∷ flat_map below xs) once) ∙ ap (sorted lt) (joined_same f (λ x. x ∷ flat_map f (below x)) xs Good tree_opens gs) ∙ joined-opened o f below xs)
