-- A list becomes a queue from its front on.
use Rattle.std.proofs.Common.{◌≡◌, ℕ, ◌+◌, ◌<◌, ◌≤◌, Bool, List, length, get_or, take, drop, sym, refl, ap, ◌∙◌, add-zero, arith}
use Rattle.std.proofs.lemmas.List.{take_more, take_all, get_or-drop}
use Rattle.queue.specs.Order.{Order, insert, sorted}
use Rattle.queue.specs.Shape.{Heap}
use Rattle.queue.specs.Calls.{Pushed}
use Rattle.queue.proofs.Sorting.{sorted-push}
use Rattle.queue.proofs.Sifting.{heap-none}
use Rattle.queue.proofs.Popping.{drop_more}

-- the first n of xs are a queue in ys, and the rest is as it was
pub record Built {X : Type 0} (lt : X → X → Bool) (xs ys : List X) (n : ℕ) : Type 0 where
  pub shape : Heap lt ys n
  pub contents : sorted lt (take n ys) ≡ sorted lt (take n xs)
  pub rest : drop n ys ≡ drop n xs

pub built-none : {X : Type 0} (lt : X → X → Bool) (xs : List X) → Built lt xs xs 0
built-none lt xs = record { shape = heap-none lt xs; contents = refl; rest = refl }

pub built-more : {X : Type 0} {lt : X → X → Bool} → Order lt → (xs ys zs : List X) (n : ℕ) (x : X) → n < length xs → length ys ≡ length xs → x ≡ get_or ys n x → Pushed lt ys zs n x → Built lt xs ys n → Built lt xs zs (n + 1)
built-more {lt = lt} o xs ys zs n x h long e p b =
    let same : get_or xs n x ≡ x = ap (λ k. get_or xs k x) (sym (add-zero n)) ∙ sym (get_or-drop n xs 0 x) ∙ ap (λ l. get_or l 0 x) (sym b.rest) ∙ get_or-drop n ys 0 x ∙ ap (λ k. get_or ys k x) (add-zero n) ∙ sym e in
    record {
      shape = p.shape (omega arith) b.shape;
      contents = p.contents (omega arith) ∙ ap (insert lt x) b.contents ∙ ap (λ y. insert lt y (sorted lt (take n xs))) (sym same)
          ∙ sym (sorted-push o (take n xs) (get_or xs n x)) ∙ ap (sorted lt) (sym (take_more xs n x h));
      rest = p.rest ∙ drop_more n (n + 1) ys xs (omega arith) b.rest;
    }

pub built-all : {X : Type 0} (lt : X → X → Bool) (xs ys : List X) (n : ℕ) → length xs ≤ n → length ys ≡ length xs → Built lt xs ys n → sorted lt ys ≡ sorted lt xs
built-all lt xs ys n h long b = ap (sorted lt) (sym (take_all n ys (omega arith))) ∙ b.contents ∙ ap (sorted lt) (take_all n xs h)
