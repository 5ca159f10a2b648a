-- The label numbers in a queue, and the first that comes twice.
use Rattle.std.proofs.Common.{◌≡◌, ℕ, ◌+◌, ◌<◌, ◌≤◌, true, false, ltb, List, [], ◌∷◌, ◌++◌, length, take, Some, None, Option, sym, refl, ap, ◌∙◌, subst, arith}
use Rattle.std.proofs.lemmas.List.{length_push}
use Rattle.std.proofs.lemmas.Bool.{cond-true, lt-ltb}
use Rattle.queue.specs.Order.{insert, sorted}
use Rattle.queue.specs.Shape.{Heap}
use Rattle.queue.specs.Calls.{pushed, popped, Pushed, Popped}
use Rattle.queue.specs.Numbers.{number-order}
use Rattle.queue.proofs.Sorting.{sorted-push}
use Rattle.queue.proofs.Popping.{popped-some, popped-none}
use Rattle.image.specs.Layout.{Image}
use Rattle.image.specs.Nodes.{is_leaf_entry, label_numbers}
use Rattle.image.specs.Checks.{repeated_from, repeated_in}
use Rattle.image.specs.Results.{numbers_below, Queued}
use Rattle.image.proofs.Scanning.{numbers-none, numbers-all, numbers-leaf, numbers-other, numbers-rise}

pub queued-none : (d : Image) (items : List ℕ) → Queued (numbers_below d 0) items 0
unfolding Heap
queued-none d items = subst (λ ns. Queued ns items 0) (sym (numbers-none d)) (record { long = refl; within = omega arith; shape = λ k x a b. absurd (omega arith); contents = refl })

-- a push tells the next length where there is room
pub pushed-told : (items : List ℕ) (n : ℕ) → n < length items → pushed items n ≡ Some (n + 1)
pushed-told items n l = cond-true (ltb n (length items)) (Some (n + 1)) None (lt-ltb n (length items) l)

pub pushed_room : (items : List ℕ) (n : ℕ) → n < length items → None ≡ pushed items n → ⊥
pushed_room items n l h = let e = h ∙ pushed-told items n l in let z : ◌≡◌ {A = ℕ} 0 1 = cc in omega arith

module _ (d : Image) (items : List ℕ) (n e : ℕ) (queued : Queued (numbers_below d e) items n) where
  -- an entry that is no label's
  pub queued-other : is_leaf_entry d e ≡ false → Queued (numbers_below d (e + 1)) items n
  queued-other f = subst (λ ns. Queued ns items n) (sym (numbers-other d e f)) queued

  -- there is room for a label's number
  pub queued-room : (m : ℕ) → m ≡ d.entries → e < m → is_leaf_entry d e ≡ true → length (label_numbers d) ≤ length items → n < length items
  queued-room m m' l t room =
      omega (arith, queued.long, ap length (numbers-leaf d e t), length_push (numbers_below d e) (d.target e), numbers-rise d (e + 1) d.entries (omega arith), ap length (numbers-all d))

  pub queued-leaf : (after : List ℕ) (x more : ℕ) → is_leaf_entry d e ≡ true → x ≡ d.target e → n < length items → length after ≡ length items → more ≡ n + 1 → Pushed ltb items after n x → Queued (numbers_below d (e + 1)) after more
  queued-leaf after x more t x' l long m p =
      let put : Queued (numbers_below d e ++ x ∷ []) after (n + 1) = record {
        long = omega (arith, queued.long, length_push (numbers_below d e) x);
        within = omega arith;
        shape = p.shape l queued.shape;
        contents = p.contents l ∙ ap (insert ltb x) queued.contents ∙ sym (sorted-push number-order (numbers_below d e) x);
      } in
      let same : numbers_below d e ++ x ∷ [] ≡ numbers_below d (e + 1) = ap (λ y. numbers_below d e ++ y ∷ []) x' ∙ sym (numbers-leaf d e t) in
      subst (λ k. Queued (numbers_below d (e + 1)) after k) (sym m) (subst (λ ns. Queued ns after (n + 1)) same put)

-- what is left of a queue after `last`, and the first that comes twice from there on
pub record Repeating (items : List ℕ) (last left : ℕ) (told : Option ℕ) : Type 0 where
  pub within : left ≤ length items
  pub shape : Heap ltb items left
  pub same : repeated_from last (sorted ltb (take left items)) ≡ told

pub repeating-empty : (items : List ℕ) (n : ℕ) → None ≡ popped items n → n ≤ length items → None ≡ repeated_in (sorted ltb (take n items))
unfolding sorted
repeating-empty items n e l = ap (λ k. repeated_in (sorted ltb (take k items))) (sym (popped-none items n e l))

module _ (items after : List ℕ) (n x rest : ℕ) (told : Some (x, rest) ≡ popped items n) (left : Popped ltb items after n (Some (x, rest))) (long : length after ≡ length items) (heap : Heap ltb items n) where
  pub repeating-first : Repeating after x rest (repeated_in (sorted ltb (take n items)))
  repeating-first = record {
    within = let p = popped-some items n (x, rest) told in omega (arith, p.0, p.1);
    shape = (left.0 heap).1;
    same = ap repeated_in (sym (left.0 heap).0);
  }

pub repeating-none : (items : List ℕ) (last n : ℕ) (o : Option ℕ) → None ≡ popped items n → Repeating items last n o → None ≡ o
unfolding sorted
repeating-none items last n o e r = ap (λ k. repeated_from last (sorted ltb (take k items))) (sym (popped-none items n e r.within)) ∙ r.same
