-- Lists of numbers in which every number occurs equally often hold the same numbers.
use Rattle.std.proofs.Common.{◌≡◌, ℕ, zero, suc, ◌+◌, ◌<◌, ◌≤◌, true, false, eqb, ltb, List, [], ◌∷◌, map, length, filter, sym, refl, ap, ◌∙◌, ⊎_elim, arith}
use Rattle.std.specs.List.{range_with_len, AllByRecursion}
use Rattle.std.proofs.ByRecursion.{All-weaker}
use Rattle.std.proofs.lemmas.Bool.{cases_Bool, cases_eq, cases_order, ltb-false, ne_eqb, eq-eqb}
use Rattle.queue.specs.Order.{sorted}
use Rattle.queue.specs.Numbers.{number-order}
use Rattle.queue.proofs.Keeping.{keeps, leaves, keeps-none}
use Rattle.queue.proofs.Ascending.{Ascending, sorted-ascends, count-sorted}

-- how often n occurs
abbrev pub occurs : ℕ → List ℕ → ℕ
occurs n ns = length (filter (λ m. eqb m n) ns)

pub occurs-first : (n : ℕ) (ns : List ℕ) → occurs n (n ∷ ns) ≡ suc (occurs n ns)
occurs-first n ns = ap length (keeps (λ m. eqb m n) n ns (eq-eqb n n refl))

pub occurs-past : (n m : ℕ) (ns : List ℕ) → (m ≡ n → ⊥) → occurs n (m ∷ ns) ≡ occurs n ns
occurs-past n m ns u = ap length (leaves (λ k. eqb k n) m ns (ne_eqb m n u))

pub occurs-none : (n : ℕ) (ns : List ℕ) → AllByRecursion (λ m. m ≡ n → ⊥) ns → occurs n ns ≡ 0
occurs-none n ns h = ap length (keeps-none (λ m. eqb m n) ns (All-weaker _ (λ m. eqb m n ≡ false) (λ m u. ne_eqb m n u) ns h))

-- the first of a list in order is the least
not-before : (n m : ℕ) (ns : List ℕ) → n < m → AllByRecursion (λ k. ltb k m ≡ false) ns → occurs n (m ∷ ns) ≡ 0
not-before n m ns l h = occurs-none n (m ∷ ns) ((λ e. omega arith), All-weaker _ (λ k. k ≡ n → ⊥) (λ k f e. omega (arith, ltb-false k m f)) ns h)

-- the same first, and then
behind : (x : ℕ) (xs ys : List ℕ) (k : ℕ) → occurs k (x ∷ xs) ≡ occurs k (x ∷ ys) → occurs k xs ≡ occurs k ys
behind x xs ys k h = ⊎_elim
    (λ (t : eqb x k ≡ true). omega (arith, h, ap length (keeps (λ m. eqb m k) x xs t), ap length (keeps (λ m. eqb m k) x ys t)))
    (λ (f : eqb x k ≡ false). omega (arith, h, ap length (leaves (λ m. eqb m k) x xs f), ap length (leaves (λ m. eqb m k) x ys f)))
    (cases_Bool (eqb x k))

same-ascending : (xs ys : List ℕ) → Ascending ltb xs → Ascending ltb ys → ((k : ℕ) → occurs k xs ≡ occurs k ys) → xs ≡ ys
same-ascending [] [] a b h = refl
same-ascending [] (y ∷ ys) a b h = absurd (omega (arith, h y, occurs-first y ys))
same-ascending (x ∷ xs) [] a b h = absurd (omega (arith, h x, occurs-first x xs))
same-ascending (x ∷ xs) (y ∷ ys) a b h = ⊎_elim
    (λ (e : x ≡ y). λ i. e i ∷ same-ascending xs ys a.1 b.1 (λ k. behind x xs ys k (h k ∙ ap (λ m. occurs k (m ∷ ys)) (sym e))) i)
    (⊎_elim (λ (l : x < y). absurd (omega (arith, h x, occurs-first x xs, not-before x y ys l b.0))) (λ (l : y < x). absurd (omega (arith, h y, occurs-first y ys, not-before y x xs l a.0))))
    (cases_order x y)

pub same_numbers : (xs ys : List ℕ) → ((k : ℕ) → occurs k xs ≡ occurs k ys) → sorted ltb xs ≡ sorted ltb ys
same_numbers xs ys h = same-ascending (sorted ltb xs) (sorted ltb ys) (sorted-ascends number-order xs) (sorted-ascends number-order ys)
    (λ k. count-sorted number-order (λ m. eqb m k) xs ∙ h k ∙ sym (count-sorted number-order (λ m. eqb m k) ys))

-- of the numbers from a on, n of them
counting-from : (a n k : ℕ) → k < a → occurs k (range_with_len a n) ≡ 0
counting-from a zero k l = refl
counting-from a (suc n) k l = occurs-past k a (range_with_len (a + 1) n) (λ e. omega arith) ∙ counting-from (a + 1) n k (omega arith)

pub counting-out : (a n k : ℕ) → a + n ≤ k → occurs k (range_with_len a n) ≡ 0
counting-out a zero k l = refl
counting-out a (suc n) k l = occurs-past k a (range_with_len (a + 1) n) (λ e. omega arith) ∙ counting-out (a + 1) n k (omega arith)

pub counting-once : (a n k : ℕ) → a ≤ k → k < a + n → occurs k (range_with_len a n) ≡ 1
counting-once a zero k l m = absurd (omega arith)
counting-once a (suc n) k l m = ⊎_elim
    (λ (e : a ≡ k). ap (λ m. occurs m (range_with_len a (suc n))) (sym e) ∙ occurs-first a (range_with_len (a + 1) n) ∙ ap suc (counting-from (a + 1) n a (omega arith)))
    (λ (u : a ≡ k → ⊥). occurs-past k a (range_with_len (a + 1) n) u ∙ counting-once (a + 1) n k (omega (arith, u)) (omega arith))
    (cases_eq a k)

-- the same of items that have a number
pub occurs-map : {X : Type 0} (f : X → ℕ) (n : ℕ) (xs : List X) → occurs n (map f xs) ≡ length (filter (λ x. eqb (f x) n) xs)
occurs-map f n [] = refl
occurs-map f n (x ∷ xs) = ⊎_elim
    (λ (t : eqb (f x) n ≡ true). ap length (keeps (λ m. eqb m n) (f x) (map f xs) t) ∙ ap suc (occurs-map f n xs) ∙ sym (ap length (keeps (λ x. eqb (f x) n) x xs t)))
    (λ (u : eqb (f x) n ≡ false). ap length (leaves (λ m. eqb m n) (f x) (map f xs) u) ∙ occurs-map f n xs ∙ sym (ap length (leaves (λ x. eqb (f x) n) x xs u)))
    (cases_Bool (eqb (f x) n))
