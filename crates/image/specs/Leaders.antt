-- Which entry leads to a node.
use Rattle.std.specs.Prelude.{◌≡◌, ℕ, zero, suc, ◌+◌, ◌<◌, ◌≤◌, Bool, true, false, cond, ◌&&◌, List, [], ◌∷◌, ◌++◌, length, filter, ◌==◌, ◌≢◌, nat_eq}
use Rattle.std.proofs.Math.Path.{refl, ap, subst}
use Rattle.std.proofs.Common.{sym, ◌∙◌, length-append}
use Rattle.std.proofs.Math.Logic.{⊎_elim}
use native.Mathlib.Omega.{arith}
use Rattle.std.specs.List.{range_with_len, flat_map}
use Rattle.std.proofs.lemmas.List.Elements.{filter-append}
use Rattle.std.proofs.lemmas.List.{append-nil}
use Rattle.std.proofs.lemmas.Bool.{cases_Bool, cases_eq, cond-true, cond-false}
use Rattle.std.proofs.lemmas.Bool.Decides.{nat_tests}
use Rattle.queue.proofs.Keeping.{keeps, leaves}
use Rattle.geometry.specs.declared.rect.Rect.{Rect}
use Rattle.geometry.proofs.Boxes.{and_both, and-made}
use Rattle.index.specs.Table.{branch_in}
use Rattle.image.specs.Layout.{Image}
use Rattle.image.specs.Nodes.{is_leaf, owner, is_branch, box_of, slot_of, leader_below}
use Rattle.image.specs.Passing.{branch-entry, branch-told}
use Rattle.image.specs.Ranges.{counting-append, joined-append}

module _ (d : Image) where
  -- an entry that does not lead to k changes nothing
  pub leader-past : (e k : ℕ) → (is_branch d e && d.target e == k) ≡ false → leader_below d (suc e) k ≡ leader_below d e k
  unfolding leader_below
  leader-past e k f = ⊎_elim
      (λ (t : nat_eq (leader_below d e k) 0 ≡ true). cond-true (leader_below d e k == 0) _ _ t ∙ cond-false (is_branch d e && d.target e == k) e 0 f ∙ (let z : 0 ≡ leader_below d e k = grind (arith, nat_tests) in z))
      (λ (u : nat_eq (leader_below d e k) 0 ≡ false). cond-false (leader_below d e k == 0) _ _ u)
      (cases_Bool (leader_below d e k == 0))

  -- the first that leads to k is it
  pub leader-here : (e k : ℕ) → is_branch d e ≡ true → d.target e ≡ k → leader_below d e k ≡ 0 → leader_below d (suc e) k ≡ e
  unfolding leader_below
  leader-here e k b q z = cond-true (leader_below d e k == 0) _ _ (grind (arith, nat_tests)) ∙ cond-true (is_branch d e && d.target e == k) e 0 (and-made _ _ b (grind (arith, nat_tests)))

  -- and stays it
  pub leader-stays : (e k n : ℕ) → (leader_below d e k ≢ 0) → leader_below d (e + n) k ≡ leader_below d e k
  unfolding leader_below
  leader-stays e k zero h = ap (λ m. leader_below d m k) (let w : e + 0 ≡ e = omega arith in w)
  leader-stays e k (suc n) h =
      let before = leader-stays e k n h in
      ap (λ m. leader_below d m k) (let w : e + suc n ≡ suc (e + n) = omega arith in w)
      ∙ cond-false (leader_below d (e + n) k == 0) _ _ (let u : leader_below d (e + n) k ≡ 0 → ⊥ = λ z. h (sym before ∙ z) in grind (arith, nat_tests)) ∙ before

  -- branches among the entries from 1 to m that lead to k
  abbrev pub hits : ℕ → ℕ → ℕ
  hits k m = length (filter (λ b. nat_eq b.0 k) (flat_map (λ e. branch_in (slot_of d (owner d e) e)) (range_with_len 1 m)))

  leaf-gives : (e : ℕ) → is_leaf d (owner d e) ≡ true → branch_in (slot_of d (owner d e) e) ≡ []
  leaf-gives e t = ap branch_in (cond-true (is_leaf d (owner d e)) _ _ t)

  pub branch-gives : (e : ℕ) → is_leaf d (owner d e) ≡ false → branch_in (slot_of d (owner d e) e) ≡ (d.target e, box_of d e) ∷ []
  branch-gives e f = ap branch_in (cond-false (is_leaf d (owner d e)) _ _ f)

  hits_more : (k m : ℕ) → hits k (suc m) ≡ hits k m + length (filter (λ b. nat_eq b.0 k) (branch_in (slot_of d (owner d (suc m)) (suc m))))
  hits_more k m =
      let give : ℕ → List (ℕ × Rect) = λ e. branch_in (slot_of d (owner d e) e) in
      let test : ℕ × Rect → Bool = λ b. nat_eq b.0 k in
      ap (λ l. length (filter test (flat_map give l))) (ap (range_with_len 1) (let w : suc m ≡ m + 1 = omega arith in w) ∙ counting-append 1 m 1)
      ∙ ap (λ l. length (filter test l)) (joined-append give (range_with_len 1 m) (range_with_len (1 + m) 1) ∙ ap (λ l. flat_map give (range_with_len 1 m) ++ l) (append-nil (give (1 + m))))
      ∙ ap length (filter-append test (flat_map give (range_with_len 1 m)) (give (1 + m)))
      ∙ length-append (filter test (flat_map give (range_with_len 1 m))) (filter test (give (1 + m)))
      ∙ ap (λ e. hits k m + length (filter test (give e))) (let w : 1 + m ≡ suc m = omega arith in w)

  hits-past : (k m : ℕ) → (is_branch d (suc m) && d.target (suc m) == k) ≡ false → hits k (suc m) ≡ hits k m
  hits-past k m f = hits_more k m ∙ ⊎_elim
      (λ (t : is_leaf d (owner d (suc m)) ≡ true). omega (arith, ap (λ l. length (filter (λ b. nat_eq b.0 k) l)) (leaf-gives (suc m) t)))
      (λ (u : is_leaf d (owner d (suc m)) ≡ false).
      let other : nat_eq (d.target (suc m)) k ≡ false = sym (ap (λ b. b && d.target (suc m) == k) (branch-entry d (suc m) (omega arith) u)) ∙ f in
      omega (arith, ap (λ l. length (filter (λ b. nat_eq b.0 k) l)) (branch-gives (suc m) u), ap length (leaves (λ (b : ℕ × Rect). nat_eq b.0 k) (d.target (suc m), box_of d (suc m)) [] other)))
      (cases_Bool (is_leaf d (owner d (suc m))))

  pub hits-here : (k m : ℕ) → is_branch d (suc m) ≡ true → d.target (suc m) ≡ k → hits k (suc m) ≡ suc (hits k m)
  hits-here k m b q = hits_more k m ∙
      (let u = (branch-told d (suc m) b).1 in
      let same : nat_eq (d.target (suc m)) k ≡ true = grind (arith, nat_tests) in
      omega (arith, ap (λ l. length (filter (λ b. nat_eq b.0 k) l)) (branch-gives (suc m) u), ap length (keeps (λ (b : ℕ × Rect). nat_eq b.0 k) (d.target (suc m), box_of d (suc m)) [] same)))

  no-first : (k : ℕ) → leader_below d 1 k ≡ 0
  unfolding leader_below
  no-first k = refl

  -- where every branch is the first to its node, a node is led to at most once
  pub hits-once : (k m : ℕ) → ((e : ℕ) → e < suc m → is_branch d e ≡ true → leader_below d e (d.target e) ≡ 0) → hits k m ≡ cond (leader_below d (suc m) k == 0) 0 1
  hits-once k zero first = sym (cond-true (leader_below d 1 k == 0) 0 1 (let z = no-first k in grind (arith, nat_tests)))
  hits-once k (suc m) first = ⊎_elim
      (λ (t : (is_branch d (suc m) && d.target (suc m) == k) ≡ true).
      let both = and_both (is_branch d (suc m)) (d.target (suc m) == k) t in
      let q : d.target (suc m) ≡ k = (let w = both.1 in grind (arith, nat_tests)) in
      let none : leader_below d (suc m) k ≡ 0 = subst (λ j. leader_below d (suc m) j ≡ 0) q (first (suc m) (omega arith) both.0) in
      let now = leader-here (suc m) k both.0 q none in
      let before = hits-once k m (λ e l b. first e (omega arith) b) in
      hits-here k m both.0 q ∙ ap suc (before ∙ cond-true (leader_below d (suc m) k == 0) 0 1 (grind (arith, nat_tests))) ∙ sym (cond-false (leader_below d (suc (suc m)) k == 0) 0 1 (grind (arith, nat_tests))))
      (λ (f : (is_branch d (suc m) && d.target (suc m) == k) ≡ false).
      hits-past k m f ∙ hits-once k m (λ e l b. first e (omega arith) b) ∙ ap (λ n. cond (n == 0) 0 1) (sym (leader-past (suc m) k f)))
      (cases_Bool (is_branch d (suc m) && d.target (suc m) == k))

  -- an entry that leads to k counts
  pub hits-grow : (k m n : ℕ) → hits k m ≤ hits k (m + n)
  hits-grow k m zero = omega (arith, ap (hits k) (let w : m + 0 ≡ m = omega arith in w))
  hits-grow k m (suc n) = omega (arith, hits-grow k m n, ap (hits k) (let w : m + suc n ≡ suc (m + n) = omega arith in w), hits_more k (m + n))

  -- some entry before leads to k, where there is a leader
  pub leader-hits : (k m : ℕ) → (leader_below d (suc m) k ≢ 0) → 1 ≤ hits k m
  leader-hits k zero h = absurd (h (no-first k))
  leader-hits k (suc m) h = ⊎_elim
      (λ (t : (is_branch d (suc m) && d.target (suc m) == k) ≡ true). let both = and_both (is_branch d (suc m)) (d.target (suc m) == k) t in omega (arith, hits-here k m both.0 (let w = both.1 in grind (arith, nat_tests))))
      (λ (f : (is_branch d (suc m) && d.target (suc m) == k) ≡ false). omega (arith, hits-past k m f, leader-hits k m (λ z. h (leader-past (suc m) k f ∙ z))))
      (cases_Bool (is_branch d (suc m) && d.target (suc m) == k))

  -- and where some entry does, there is one
  pub hits-leader : (k m : ℕ) → 1 ≤ hits k m → (leader_below d (suc m) k ≢ 0)
  hits-leader k zero h z = omega arith
  hits-leader k (suc m) h z = ⊎_elim
      (λ (t : (is_branch d (suc m) && d.target (suc m) == k) ≡ true).
      let both = and_both (is_branch d (suc m)) (d.target (suc m) == k) t in
      let q : d.target (suc m) ≡ k = (let w = both.1 in grind (arith, nat_tests)) in
      ⊎_elim
      (λ (none : leader_below d (suc m) k ≡ 0). omega (arith, leader-here (suc m) k both.0 q none, z))
      (λ (some : leader_below d (suc m) k ≡ 0 → ⊥). some (sym (leader-stays (suc m) k 1 some) ∙ ap (λ n. leader_below d n k) (let w : suc m + 1 ≡ suc (suc m) = omega arith in w) ∙ z))
      (cases_eq (leader_below d (suc m) k) 0))
      (λ (f : (is_branch d (suc m) && d.target (suc m) == k) ≡ false). hits-leader k m (omega (arith, hits-past k m f)) (sym (leader-past (suc m) k f) ∙ z))
      (cases_Bool (is_branch d (suc m) && d.target (suc m) == k))

  -- the leader is a branch to k
  pub leader-is : (n k : ℕ) → (leader_below d n k ≢ 0) → (is_branch d (leader_below d n k) ≡ true) × (d.target (leader_below d n k) ≡ k) × (leader_below d n k < n)
  unfolding leader_below
  leader-is zero k h = absurd (h refl)
  leader-is (suc e) k h = ⊎_elim
      (λ (none : leader_below d e k ≡ 0). ⊎_elim
      (λ (t : (is_branch d e && d.target e == k) ≡ true).
      let both = and_both (is_branch d e) (d.target e == k) t in
      let q : d.target e ≡ k = (let w = both.1 in grind (arith, nat_tests)) in
      subst (λ b. (is_branch d b ≡ true) × (d.target b ≡ k) × (b < suc e)) (sym (leader-here e k both.0 q none)) (both.0, q, omega arith))
      (λ (f : (is_branch d e && d.target e == k) ≡ false). absurd (h (leader-past e k f ∙ none)))
      (cases_Bool (is_branch d e && d.target e == k)))
      (λ (some : leader_below d e k ≡ 0 → ⊥).
      let same : leader_below d (suc e) k ≡ leader_below d e k = cond-false (leader_below d e k == 0) _ _ (grind (arith, nat_tests)) in
      let before = leader-is e k some in
      subst (λ b. (is_branch d b ≡ true) × (d.target b ≡ k) × (b < suc e)) (sym same) (before.0, before.1, omega (arith, before.2)))
      (cases_eq (leader_below d e k) 0)

  -- nothing leads to the root where branches lead to greater nodes
  pub no-leader : (n : ℕ) → ((e : ℕ) → e < n → is_branch d e ≡ true → 0 < d.target e) → leader_below d n 0 ≡ 0
  unfolding leader_below
  no-leader zero h = refl
  no-leader (suc n) h = leader-past n 0 (⊎_elim
      (λ (t : (is_branch d n && d.target n == 0) ≡ true).
      let both = and_both (is_branch d n) (d.target n == 0) t in
      let z : d.target n ≡ 0 = (let w = both.1 in grind (arith, nat_tests)) in absurd (omega (arith, h n (omega arith) both.0)))
      (λ f. f) (cases_Bool (is_branch d n && d.target n == 0))) ∙ no-leader n (λ e l b. h e (omega arith) b)
