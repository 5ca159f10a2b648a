-- No number occurs twice in a list exactly when none is its own next in the sorted list.
use Rattle.std.specs.Prelude.{◌≡◌, ℕ, suc, ◌<◌, ◌≤◌, true, false, not, ◌||◌, ltb, List, [], ◌∷◌, map, length, Some, None, filter, ◌==◌, ◌≢◌, nat_eq, nat_lt, refl}
use Rattle.std.proofs.Common.{sym, ap, subst, ◌∙◌, ⊎_elim, arith}
use Rattle.std.specs.List.{AllByRecursion}
use Rattle.std.proofs.lemmas.Bool.{cases_Bool, cases_eq, cond-true, cond-false, both_ways}
use Rattle.std.proofs.lemmas.Bool.Decides.{nat_tests}
use Rattle.queue.specs.Order.{sorted}
use Rattle.queue.specs.Numbers.{number-order}
use Rattle.queue.proofs.Keeping.{keeps, leaves, keeps-none}
use Rattle.queue.proofs.Ascending.{Ascending, sorted-ascends, count-sorted}
use Rattle.geometry.specs.declared.label.Label.{Label}
use Rattle.geometry.specs.Numbers.{present, distinct}
use Rattle.geometry.proofs.Boxes.{and_both, and-made}
use Rattle.image.specs.Checks.{repeated_from, repeated_in, smallest_repeated}

-- how often n occurs
abbrev pub occurs : ℕ → List ℕ → ℕ
occurs n ns = length (filter (λ m. nat_eq m n) ns)

occurs-here : (n : ℕ) (ns : List ℕ) → occurs n (n ∷ ns) ≡ suc (occurs n ns)
occurs-here n ns = ap length (keeps (λ m. nat_eq m n) n ns (grind (arith, nat_tests)))

occurs-past : (n m : ℕ) (ns : List ℕ) → (m ≢ n) → occurs n (m ∷ ns) ≡ occurs n ns
occurs-past n m ns u = ap length (leaves (λ k. nat_eq k n) m ns (grind (arith, nat_tests)))

larger : (n m : ℕ) (ns : List ℕ) → n < m → AllByRecursion (λ y. nat_lt y m ≡ false) ns → AllByRecursion (λ y. (y == n) ≡ false) ns
larger n m [] h a = tt
larger n m (k ∷ ns) h a = (let w = a.0 in grind (arith, nat_tests), larger n m ns h a.1)

-- the first of a list in order that has no repeat does not come again
first-once : (n : ℕ) (ns : List ℕ) → AllByRecursion (λ y. nat_lt y n ≡ false) ns → Ascending ltb ns → repeated_from n ns ≡ None → occurs n ns ≡ 0
first-once n [] a s h = refl
first-once n (m ∷ ns) a s h = ⊎_elim
    (λ (q : n ≡ m). let w = sym (cond-true (n == m) (Some n) (repeated_from m ns) (grind (arith, nat_tests))) ∙ h in let z : ◌≡◌ {A = ℕ} 0 1 = cc in absurd (omega arith))
    (λ (q : n ≡ m → ⊥). let more : n < m = (let w = a.0 in grind (arith, nat_tests)) in
    let one : nat_eq m n ≡ false = grind (arith, nat_tests) in
    ap length (keeps-none (λ k. nat_eq k n) (m ∷ ns) (one, larger n m ns more s.0)))
    (cases_eq n m)

rest_from : (n : ℕ) (ns : List ℕ) → repeated_from n ns ≡ None → repeated_in ns ≡ None
rest_from n [] h = refl
rest_from n (m ∷ ns) h = ⊎_elim
    (λ (t : nat_eq n m ≡ true). let w = sym (cond-true (n == m) (Some n) (repeated_from m ns) t) ∙ h in let z : ◌≡◌ {A = ℕ} 0 1 = cc in absurd (omega arith))
    (λ (f : nat_eq n m ≡ false). sym (cond-false (n == m) (Some n) (repeated_from m ns) f) ∙ h)
    (cases_Bool (n == m))

once-in-order : (ns : List ℕ) → Ascending ltb ns → repeated_in ns ≡ None → (k : ℕ) → occurs k ns ≤ 1
once-in-order [] s h k = omega arith
once-in-order (n ∷ ns) s h k = ⊎_elim
    (λ (q : n ≡ k). omega (arith, subst (λ j. occurs j (n ∷ ns) ≡ suc (occurs j ns)) q (occurs-here n ns), subst (λ j. occurs j ns ≡ 0) q (first-once n ns s.0 s.1 h)))
    (λ (q : n ≡ k → ⊥). omega (arith, occurs-past k n ns q, once-in-order ns s.1 (rest_from n ns h) k))
    (cases_eq n k)

none-repeats-from : (n : ℕ) (ns : List ℕ) → ((k : ℕ) → occurs k (n ∷ ns) ≤ 1) → repeated_from n ns ≡ None
none-repeats-from n [] h = refl
none-repeats-from n (m ∷ ns) h = ⊎_elim
    (λ (q : n ≡ m). absurd (omega (arith, h n, occurs-here n (m ∷ ns), subst (λ j. occurs j (m ∷ ns) ≡ suc (occurs j ns)) (sym q) (occurs-here m ns))))
    (λ (q : n ≡ m → ⊥). cond-false (n == m) (Some n) (repeated_from m ns) (grind (arith, nat_tests)) ∙ none-repeats-from m ns (λ k. rest k))
    (cases_eq n m)
  where
    rest : (k : ℕ) → occurs k (m ∷ ns) ≤ 1
    rest k = ⊎_elim
        (λ (q : n ≡ k). omega (arith, h k, subst (λ j. occurs j (n ∷ (m ∷ ns)) ≡ suc (occurs j (m ∷ ns))) q (occurs-here n (m ∷ ns))))
        (λ (q : n ≡ k → ⊥). omega (arith, h k, occurs-past k n (m ∷ ns) q))
        (cases_eq n k)

none-repeats : (ns : List ℕ) → ((k : ℕ) → occurs k ns ≤ 1) → repeated_in ns ≡ None
none-repeats [] h = refl
none-repeats (n ∷ ns) h = none-repeats-from n ns h

pub once-each : (ns : List ℕ) → smallest_repeated ns ≡ None → (k : ℕ) → occurs k ns ≤ 1
once-each ns h k = omega (arith, once-in-order (sorted ltb ns) (sorted-ascends number-order ns) h k, count-sorted number-order (λ m. nat_eq m k) ns)

pub no-repeats : (ns : List ℕ) → ((k : ℕ) → occurs k ns ≤ 1) → smallest_repeated ns ≡ None
no-repeats ns h = none-repeats (sorted ltb ns) (λ k. omega (arith, h k, count-sorted number-order (λ m. nat_eq m k) ns))

-- the same of labels
abbrev pub numbers_of : List Label → List ℕ
numbers_of ls = map (λ l. l.number) ls

present-occurs : (n : ℕ) (ls : List Label) → present n ls ≡ true → 1 ≤ occurs n (numbers_of ls)
present-occurs n [] h = absurd (both_ways false refl h)
present-occurs n (l ∷ ls) h = ⊎_elim
    (λ (t : nat_eq l.number n ≡ true). omega (arith, ap length (keeps (λ m. nat_eq m n) l.number (numbers_of ls) t)))
    (λ (f : nat_eq l.number n ≡ false). omega (arith, present-occurs n ls (subst (λ b. (b || present n ls) ≡ true) f h), ap length (leaves (λ m. nat_eq m n) l.number (numbers_of ls) f)))
    (cases_Bool (l.number == n))

absent-occurs : (n : ℕ) (ls : List Label) → present n ls ≡ false → occurs n (numbers_of ls) ≡ 0
absent-occurs n [] h = refl
absent-occurs n (l ∷ ls) h = ⊎_elim
    (λ (t : nat_eq l.number n ≡ true). absurd (both_ways true (subst (λ b. (b || present n ls) ≡ false) t h) refl))
    (λ (f : nat_eq l.number n ≡ false). ap length (leaves (λ m. nat_eq m n) l.number (numbers_of ls) f) ∙ absent-occurs n ls (subst (λ b. (b || present n ls) ≡ false) f h))
    (cases_Bool (l.number == n))

pub distinct-once : (ls : List Label) → ((k : ℕ) → occurs k (numbers_of ls) ≤ 1) → distinct ls ≡ true
distinct-once [] h = refl
distinct-once (l ∷ ls) h = and-made _ _ here (distinct-once ls rest)
  where
    here : not (present l.number ls) ≡ true
    here = ⊎_elim
        (λ (t : present l.number ls ≡ true). absurd (omega (arith, h l.number, occurs-here l.number (numbers_of ls), present-occurs l.number ls t)))
        (λ (f : present l.number ls ≡ false). ap not f)
        (cases_Bool (present l.number ls))

    rest : (k : ℕ) → occurs k (numbers_of ls) ≤ 1
    rest k = ⊎_elim
        (λ (t : nat_eq l.number k ≡ true). omega (arith, h k, ap length (keeps (λ m. nat_eq m k) l.number (numbers_of ls) t)))
        (λ (f : nat_eq l.number k ≡ false). omega (arith, h k, ap length (leaves (λ m. nat_eq m k) l.number (numbers_of ls) f)))
        (cases_Bool (l.number == k))

pub once-distinct : (ls : List Label) → distinct ls ≡ true → (k : ℕ) → occurs k (numbers_of ls) ≤ 1
once-distinct [] h k = omega arith
once-distinct (l ∷ ls) h k =
    let both = and_both _ _ h in
    let absent : present l.number ls ≡ false = ⊎_elim (λ t. absurd (both_ways (not (present l.number ls)) (ap not t) both.0)) (λ f. f) (cases_Bool (present l.number ls)) in
    ⊎_elim
    (λ (q : l.number ≡ k). omega (arith, subst (λ j. occurs j (l.number ∷ numbers_of ls) ≡ suc (occurs j (numbers_of ls))) q (occurs-here l.number (numbers_of ls)), subst (λ j. occurs j (numbers_of ls) ≡ 0) q (absent-occurs l.number ls absent)))
    (λ (q : l.number ≡ k → ⊥). omega (arith, occurs-past k l.number (numbers_of ls) q, once-distinct ls both.1 k))
    (cases_eq l.number k)
