-- The root leaves a heap.
use Rattle.std.proofs.Common.{◌≡◌, ℕ, ◌+◌, ◌-◌, ◌<◌, ◌≤◌, Bool, true, false, ◌&&◌, ltb, leb, List, [], ◌∷◌, length, get_or, take, drop, set, Some, None, sym, ap, ◌∙◌, subst, ⊎_elim, arith, drop-drop}
use Rattle.std.proofs.lemmas.Bool.{cases_eq, cases_Bool, cond-true, cond-false}
use Rattle.std.proofs.lemmas.Bool.Decides.{nat_tests}
use Rattle.std.proofs.lemmas.List.{get_or-take, take_more, length-take-le}
use Rattle.std.proofs.ByRecursion.{All-from_get_or}
use Rattle.std.specs.List.{AllByRecursion}
use Rattle.queue.specs.Order.{Order, insert, sorted}
use Rattle.queue.specs.Shape.{Heap}
use Rattle.queue.specs.Calls as calls
use Rattle.queue.proofs.Sorting.{sorted-swapped, sorted-push, least-sorted}
use Rattle.queue.proofs.Sifting.{Swap, root-least}

-- what a pop tells, by the element that was read
pub popped-is : {X : Type 0} (xs : List X) (n : ℕ) (x : X) → 0 < n → n ≤ length xs → x ≡ get_or xs 0 x → Some (x, n - 1) ≡ calls.popped xs n
popped-is [] n x h k e = absurd (omega arith)
popped-is (y ∷ xs) n x h k e = ap (λ w. Some (w, n - 1)) e ∙ grind (arith, nat_tests)

-- what it tells of the length
pub popped-none : {X : Type 0} (xs : List X) (n : ℕ) → None ≡ calls.popped xs n → n ≤ length xs → n ≡ 0
popped-none [] n e h = omega arith
popped-none (x ∷ xs) n e h = ⊎_elim
    (λ (z : n ≡ 0). z)
    (λ (u : n ≡ 0 → ⊥). let t : (ltb 0 n && leb n (length (x ∷ xs))) ≡ true = grind (arith, nat_tests) in let w = e ∙ cond-true _ (Some (x, n - 1)) None t in let z : ◌≡◌ {A = ℕ} 0 1 = cc in absurd (omega arith))
    (cases_eq n 0)

pub popped-some : {X : Type 0} (xs : List X) (n : ℕ) (r : X × ℕ) → Some r ≡ calls.popped xs n → (r.1 + 1 ≡ n) × (n ≤ length xs)
popped-some [] n r e = let w : ◌≡◌ {A = ℕ} 0 1 = cc in absurd (omega arith)
popped-some {X} (x ∷ xs) n r e = ⊎_elim
    (λ (t : (ltb 0 n && leb n (length (x ∷ xs))) ≡ true). let same : r.1 ≡ n - 1 = second r (x, n - 1) (e ∙ cond-true _ (Some (x, n - 1)) None t) in (grind (arith, nat_tests), grind (arith, nat_tests)))
    (λ (f : (ltb 0 n && leb n (length (x ∷ xs))) ≡ false). let w = e ∙ cond-false _ (Some (x, n - 1)) None f in let z : ◌≡◌ {A = ℕ} 0 1 = cc in absurd (omega arith))
    (cases_Bool (ltb 0 n && leb n (length (x ∷ xs))))
  where
    second : (a b : X × ℕ) → Some a ≡ Some b → a.1 ≡ b.1
    second a b h = cc

-- what agrees from m on agrees from n on
pub drop_more : {X : Type 0} (m n : ℕ) (xs ys : List X) → m ≤ n → drop m xs ≡ drop m ys → drop n xs ≡ drop n ys
drop_more {X} m n xs ys h e =
    let parts : (zs : List X) → drop n zs ≡ drop (n - m) (drop m zs) = λ zs. ap (λ k. drop k zs) (omega arith) ∙ sym (drop-drop (n - m) m zs) in
    parts xs ∙ ap (drop (n - m)) e ∙ sym (parts ys)

module _ {X : Type 0} {lt : X → X → Bool} (o : Order lt) where
  -- ys is xs with the root and the last of the first n + 1 exchanged
  pops : (xs ys : List X) (n : ℕ) (x : X) → x ≡ get_or xs 0 x → n < length xs → length ys ≡ length xs → Swap xs ys 0 n → ((d : X) → ys ≡ set (set xs 0 (get_or xs n d)) n (get_or xs 0 d)) → Heap lt xs (n + 1)
      → sorted lt (take (n + 1) xs) ≡ x ∷ sorted lt (take n ys)
  pops xs ys n x first in' long s e h =
      let rest : AllByRecursion (λ y. lt y x ≡ false) (take n ys) = All-from_get_or (λ y. lt y x ≡ false) (take n ys) x (λ i b.
      let i' : i < n = omega (arith, length-take-le n ys (omega arith)) in
      subst (λ (y : X). lt y x ≡ false) (sym (get_or-take n ys i x i')) (subst (λ (y : X). lt (get_or ys i x) y ≡ false) (sym first) (⊎_elim
      (λ (z : i ≡ 0). subst (λ (y : X). lt y (get_or xs 0 x) ≡ false) (sym (ap (λ m. get_or ys m x) z ∙ s.0 x)) (root-least lt o xs (n + 1) x h n (omega arith)))
      (λ (u : i ≡ 0 → ⊥). subst (λ (y : X). lt y (get_or xs 0 x) ≡ false) (sym (s.2 i x u (omega arith))) (root-least lt o xs (n + 1) x h i (omega arith)))
      (cases_eq i 0)))) in
      sym (sorted-swapped o (n + 1) xs ys 0 n (omega arith) (omega arith) (omega arith) in' e)
      ∙ ap (sorted lt) (take_more ys n x (omega arith))
      ∙ sorted-push o (take n ys) (get_or ys n x)
      ∙ ap (λ y. insert lt y (sorted lt (take n ys))) (s.1 x ∙ sym first)
      ∙ least-sorted o x (take n ys) rest

  pub popped : (xs ys : List X) (m n : ℕ) (x : X) → m ≡ n + 1 → x ≡ get_or xs 0 x → n < length xs → length ys ≡ length xs → Swap xs ys 0 n → ((d : X) → ys ≡ set (set xs 0 (get_or xs n d)) n (get_or xs 0 d)) → Heap lt xs m
      → sorted lt (take m xs) ≡ x ∷ sorted lt (take n ys)
  popped xs ys m n x m' first in' long s e h = ap (λ k. sorted lt (take k xs)) m' ∙ pops xs ys n x first in' long s e (subst (Heap lt xs) m' h)
