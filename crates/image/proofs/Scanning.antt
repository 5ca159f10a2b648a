-- One more index of a scan for the first that fails a test.
use Rattle.std.proofs.Common.{◌≡◌, ℕ, zero, suc, ◌+◌, ◌-◌, ◌<◌, ◌≤◌, Bool, true, false, cond, not, ◌&&◌, eqb, List, [], ◌∷◌, ◌++◌, map, length, get_or, set, is_some, Some, None, Ok, Err, Option, filter, unwrap_or, sym, refl, ap, ◌∙◌, subst, ⊎_elim, add-one, arith}
use Rattle.std.proofs.lemmas.Bool.{cases_eq, cases_lt, cases_Bool, cond-true, cond-false, cond_both, eqb-true, eq-eqb, ne_eqb, le-leb}
use Rattle.std.proofs.lemmas.Bool.Decides.{nat_tests}
use Rattle.std.proofs.lemmas.List.Elements.{filter-append}
use lib.ListN.{length-map}
use Rattle.std.proofs.lemmas.List.Sums.{length-filter}
use Rattle.std.specs.List.{range_with_len, list_all, count_by}
use Rattle.std.specs.Option.{MatchOption, option_or}
use Rattle.std.proofs.lemmas.List.Folds.{list_all-append}
use Rattle.std.proofs.lemmas.List.{append-nil, map-append, length-append, length-set, get_or-set_same, get_or-set_other}
use Rattle.geometry.specs.declared.refusal.Refusal.{Refusal}
use Rattle.geometry.specs.declared.refusal.Reason.{Reason}
use Rattle.geometry.specs.Refusals.{refusal}
use Rattle.image.specs.Checks.{first_bad, unless, at_first, branch_fine, target_fine}
use Rattle.image.specs.Layout.{Image, image_of}
use Rattle.image.specs.Nodes.{start, is_leaf, owner, is_leaf_entry, is_branch, leader_below, label_numbers}
use Rattle.image.specs.Results.{as_result, Sized, Owned, Led, leading, numbers_below}
use Rattle.image.specs.Firsts.{none-bad}
use Rattle.image.specs.Ranges.{counting-append}
use Rattle.image.specs.Owners.{start-more, start-rises, owner-is, owner-in}

or_elim : (o p : Option ℕ) → elim o as (λ _. Option ℕ) [ Some i ↦ Some i | None ↦ p ] ≡ option_or o p
or_elim (Some i) p = refl
or_elim None p = refl

none-else : (o : Option ℕ) (b : Bool) (i : ℕ) → (not (is_some o) && (b && true)) ≡ not (is_some (option_or o (cond b None (Some i))))
none-else (Some j) b i = refl
none-else None true i = refl
none-else None false i = refl

one-more : (n : ℕ) → range_with_len 0 (suc n) ≡ range_with_len 0 n ++ range_with_len (0 + n) 1
one-more n = ap (range_with_len 0) (let w : suc n ≡ n + 1 = omega arith in w) ∙ counting-append 0 n 1

module _ (f : ℕ → Bool) where
  pub bad-none : first_bad f 0 ≡ None
  unfolding first_bad
  bad-none = refl

  at_next : (i : ℕ) → first_bad f i ≡ None → f i ≡ true → first_bad f (suc i) ≡ None
  unfolding first_bad
  at_next i h t = rw h (cond-true (f i) None (Some i) t)

  -- none below i, and not i
  pub bad_more : (i : ℕ) → first_bad f i ≡ None → f i ≡ true → first_bad f (i + 1) ≡ None
  bad_more i h t = ap (first_bad f) (add-one i) ∙ at_next i h t

  at_once : (i : ℕ) → first_bad f i ≡ None → f i ≡ false → first_bad f (suc i) ≡ Some i
  unfolding first_bad
  at_once i h t = rw h (cond-false (f i) None (Some i) t)

  later : (i n : ℕ) → first_bad f n ≡ Some i → first_bad f (suc n) ≡ Some i
  unfolding first_bad
  later i n h = rw h refl

  -- none below i, but i
  pub bad-found : (i n : ℕ) → first_bad f i ≡ None → f i ≡ false → i < n → first_bad f n ≡ Some i
  bad-found i zero h t l = absurd (omega arith)
  bad-found i (suc n) h t l = ⊎_elim
      (λ (e : i ≡ n). ap (λ k. first_bad f (suc k)) (sym e) ∙ at_once i h t)
      (λ (u : i ≡ n → ⊥). later i n (bad-found i n h t (omega (arith, u))))
      (cases_eq i n)

  -- no more is left
  pub all_done : (r : Refusal) (i n : ℕ) → first_bad f i ≡ None → i ≤ n → n ≤ i → Ok tt ≡ as_result (unless (not (is_some (first_bad f n))) r)
  all_done r i n h a b = ap (λ o. as_result (unless (not (is_some o)) r)) (sym h ∙ ap (first_bad f) (let e : i ≡ n = omega arith in e))

  -- the scan stops at i
  pub scan-stops : (why : ℕ → Reason) (i n : ℕ) → first_bad f i ≡ None → f i ≡ false → i < n → Err (refusal (why i) i) ≡ as_result (at_first (first_bad f n) why)
  scan-stops why i n h t l = ap (λ o. as_result (at_first o why)) (sym (bad-found i n h t l))

  first-next : (n : ℕ) → first_bad f (suc n) ≡ option_or (first_bad f n) (cond (f n) None (Some n))
  unfolding first_bad
  first-next n = or_elim (first_bad f n) (cond (f n) None (Some n))

  -- what looks through the numbers finds the same
  pub find-bad : (n : ℕ) (o : Option ℕ) → MatchOption o ((k : ℕ) → 0 ≤ k → k < n → f k ≡ true) (λ i. (0 ≤ i) × (i < n) × (f i ≡ false) × ((k : ℕ) → 0 ≤ k → k < i → f k ≡ true)) → o ≡ first_bad f n
  find-bad n None h = sym (none-bad f n (λ k l. h k (omega arith) l))
  find-bad n (Some i) h = sym (bad-found i n (none-bad f i (λ k l. h.3 k (omega arith) l)) h.2 h.1)

  pub all-fine : (n : ℕ) → list_all f (range_with_len 0 n) ≡ not (is_some (first_bad f n))
  all-fine zero = ap (λ o. not (is_some o)) (sym bad-none)
  all-fine (suc n) =
      ap (list_all f) (one-more n) ∙ list_all-append f (range_with_len 0 n) (range_with_len (0 + n) 1)
      ∙ (λ i. all-fine n i && (f ((let w : 0 + n ≡ n = omega arith in w) i) && true)) ∙ none-else (first_bad f n) (f n) n
      ∙ ap (λ o. not (is_some o)) (sym (first-next n))

-- what is written from a place on leaves the list below it
pub written_same : (xs ys : List ℕ) (i v from : ℕ) → from ≤ i → ((k : ℕ) → k < from → get_or xs k 0 ≡ get_or ys k 0) → (k : ℕ) → k < from → get_or (set xs i v) k 0 ≡ get_or ys k 0
written_same xs ys i v from l h k b = get_or-set_other xs i k v 0 (λ e. omega arith) ∙ h k b

-- one more node's entries
module _ (d : Image) where
  pub start-next : (i : ℕ) → start d i + d.count i ≡ start d (i + 1)
  start-next i = sym (ap (start d) (add-one i) ∙ start-more d i)

  pub owners-more : (os ps : List ℕ) (n i at end : ℕ) → n ≡ d.nodes → i < n → at ≡ start d i → end ≡ start d (i + 1)
      → ((e : ℕ) → 1 ≤ e → e < start d i → get_or os e 0 ≡ owner d e) → ((k : ℕ) → k < at → get_or ps k 0 ≡ get_or os k 0) → ((k : ℕ) → at ≤ k → k < end → get_or ps k 0 ≡ i)
      → (e : ℕ) → 1 ≤ e → e < start d (i + 1) → get_or ps e 0 ≡ owner d e
  owners-more os ps n i at end n' l a z old before within e h b = ⊎_elim
      (λ (low : e < at). before e low ∙ old e h (omega arith))
      (λ (high : at ≤ e). within e high (omega arith) ∙ sym (owner-is d d.nodes i e (omega arith) (omega arith) (omega (arith, start-next i, start-more d i))))
      (cases_lt e at)

  -- one more start
  pub starts-more : (ss : List ℕ) (i next : ℕ) → i + 1 < length ss → next ≡ start d (i + 1) → ((k : ℕ) → k ≤ i → get_or ss k 0 ≡ start d k) → (k : ℕ) → k ≤ i + 1 → get_or (set ss (i + 1) next) k 0 ≡ start d k
  starts-more ss i next l h old k b = ⊎_elim
      (λ (e : k ≡ i + 1). ap (λ j. get_or (set ss (i + 1) next) j 0) e ∙ get_or-set_same ss (i + 1) next 0 l ∙ h ∙ ap (start d) (sym e))
      (λ (u : k ≡ i + 1 → ⊥). get_or-set_other ss (i + 1) k next 0 u ∙ old k (omega (arith, u)))
      (cases_eq k (i + 1))

  -- every node starts before the end
  pub start-within : (i n m : ℕ) → i < n → start d n ≡ m → start d i + d.count i ≤ m
  start-within i n m l h = omega (arith, start-more d i, start-rises d (suc i) n l)

  pub owner-below : (n e m : ℕ) → n ≡ d.nodes → start d n ≡ m → 1 ≤ e → e < m → owner d e < n
  owner-below n e m n' h a b = omega (arith, (owner-in d d.nodes e a (omega (arith, ap (start d) n'))).0)

  -- what leads to a node, with one more entry
  lead-skips : (e k : ℕ) → (is_branch d e && eqb (d.target e) k) ≡ false → leader_below d (e + 1) k ≡ leader_below d e k
  unfolding leader_below
  lead-skips e k f = ap (λ j. leader_below d j k) (add-one e) ∙ ⊎_elim
      (λ (t : eqb (leader_below d e k) 0 ≡ true). cond-true (eqb (leader_below d e k) 0) _ _ t ∙ cond-false (is_branch d e && eqb (d.target e) k) e 0 f ∙ sym (eqb-true (leader_below d e k) 0 t))
      (λ (u : eqb (leader_below d e k) 0 ≡ false). cond-false (eqb (leader_below d e k) 0) _ _ u)
      (cases_Bool (eqb (leader_below d e k) 0))

  leads-first : (e k : ℕ) → is_branch d e ≡ true → d.target e ≡ k → leader_below d e k ≡ 0 → leader_below d (e + 1) k ≡ e
  unfolding leader_below
  leads-first e k b t z =
      let here : (is_branch d e && eqb (d.target e) k) ≡ true = (λ i. b i && eq-eqb (d.target e) k t i) in
      ap (λ j. leader_below d j k) (add-one e) ∙ cond-true (eqb (leader_below d e k) 0) _ _ (eq-eqb (leader_below d e k) 0 z) ∙ cond-true (is_branch d e && eqb (d.target e) k) e 0 here

  branch-fine : (e : ℕ) → 1 ≤ e → is_leaf_entry d e ≡ false → target_fine d e ≡ true → branch_fine d e ≡ true
  branch-fine zero h f t = absurd (omega arith)
  branch-fine (suc e) h f t =
      let inner : is_leaf d (owner d (suc e)) ≡ false = (let P : Bool → Type 0 = λ b. (b && is_leaf d (owner d (suc e))) ≡ false in subst P (le-leb 1 (suc e) h) f) in
      sym (cond-false (is_leaf d (owner d (suc e))) _ _ inner) ∙ t

  -- a branch leads to one of the nodes
  pub branch-within : (e : ℕ) → 1 ≤ e → is_leaf_entry d e ≡ false → target_fine d e ≡ true → d.target e < d.nodes
  branch-within e h f t = let b = branch-fine e h f t in grind (arith, nat_tests)

  branch-first : (e : ℕ) → 1 ≤ e → is_leaf_entry d e ≡ false → target_fine d e ≡ true → leader_below d e (d.target e) ≡ 0
  branch-first e h f t = let b = branch-fine e h f t in grind (arith, nat_tests)

-- what leads, in an option
leading-some : (e : ℕ) → 1 ≤ e → Some e ≡ leading e
leading-some zero h = absurd (omega arith)
leading-some (suc e) h = refl

leading-or : (e : ℕ) → unwrap_or (leading e) 0 ≡ e
leading-or zero = refl
leading-or (suc e) = refl

-- who leads to each node, with one more entry
pub led-branch : (bs : List ℕ) (ls : List (Option ℕ)) (e : ℕ) → Led bs ls e → 1 ≤ e → is_leaf_entry (image_of bs) e ≡ false → target_fine (image_of bs) e ≡ true → (image_of bs).nodes ≤ 128 → Led bs (set ls ((image_of bs).target e) (Some e)) (e + 1)
led-branch bs ls e l h f t few =
    let d = image_of bs in
    let to = d.target e in
    let b : is_branch d e ≡ true = grind (arith, nat_tests) in
    let in-it : to < 128 = omega (arith, branch-within d e h f t) in
    record {
      enough = length-set ls to (Some e) ∙ l.enough;
      each = λ k w. ⊎_elim
          (λ (q : k ≡ to). ap (λ j. get_or (set ls to (Some e)) j None) q ∙ get_or-set_same ls to (Some e) None (omega (arith, l.enough)) ∙ leading-some e h ∙ ap leading (sym (ap (leader_below d (e + 1)) q ∙ leads-first d e to b refl (branch-first d e h f t))))
          (λ (u : k ≡ to → ⊥). get_or-set_other ls to k (Some e) None u ∙ l.each k w ∙ ap leading (sym (lead-skips d e k (ap (λ x. is_branch d e && x) (ne_eqb to k (λ q. u (sym q))) ∙ ap (λ x. x && false) b))))
          (cases_eq k to);
    }

pub led-other : (bs : List ℕ) (ls : List (Option ℕ)) (e : ℕ) → Led bs ls e → is_branch (image_of bs) e ≡ false → Led bs ls (e + 1)
led-other bs ls e l f = record { enough = l.enough; each = λ k w. l.each k w ∙ ap leading (sym (lead-skips (image_of bs) e k (ap (λ x. x && eqb ((image_of bs).target e) k) f))) }

pub led-leaf : (bs : List ℕ) (ls : List (Option ℕ)) (e : ℕ) → Led bs ls e → is_leaf_entry (image_of bs) e ≡ true → Led bs ls (e + 1)
led-leaf bs ls e l t = led-other bs ls e l (grind (arith, nat_tests))

pub led-root : (bs : List ℕ) (ls : List (Option ℕ)) (e : ℕ) → Led bs ls e → e < 1 → Led bs ls (e + 1)
led-root bs ls e l z = led-other bs ls e l (grind (arith, nat_tests))

module _ (d : Image) where
  lead-next : (e k : ℕ) → leader_below d e k ≤ e → leader_below d (suc e) k ≤ e
  unfolding leader_below
  lead-next e k low =
      let b = is_branch d e && eqb (d.target e) k in
      let P : ℕ → Type 0 = λ v. v ≤ e in
      cond_both {A = ℕ} (eqb (leader_below d e k) 0) (cond b e 0) (leader_below d e k) P (λ _. cond_both {A = ℕ} b e 0 P (λ _. omega arith) (λ _. omega arith)) (λ _. low)

  lead_low : (e k : ℕ) → leader_below d e k ≤ e
  unfolding leader_below
  lead_low zero k = omega arith
  lead_low (suc e) k = omega (arith, lead-next e k (lead_low e k))

  -- an entry that leads comes before e
  pub leader-before : (e k : ℕ) → 1 ≤ e → leader_below d e k < e
  leader-before zero k h = absurd (omega arith)
  leader-before (suc e) k h = omega (arith, lead-next e k (lead_low e k))

  -- the numbers of the labels, with one more entry
  pub numbers-none : numbers_below d 0 ≡ []
  unfolding numbers_below
  numbers-none = refl

  pub numbers-all : numbers_below d d.entries ≡ label_numbers d
  unfolding numbers_below label_numbers
  numbers-all = refl

  -- as many as the leaf entries
  pub labels-counted : (m : ℕ) → m ≡ d.entries → count_by (is_leaf_entry d) (range_with_len 0 m) ≡ length (label_numbers d)
  unfolding label_numbers
  labels-counted m q =
      ap (λ k. count_by (is_leaf_entry d) (range_with_len 0 k)) q ∙ sym (length-filter (is_leaf_entry d) (range_with_len 0 d.entries))
      ∙ sym (length-map (filter (is_leaf_entry d) (range_with_len 0 d.entries)) d.target)

  numbers-append : (e k : ℕ) → numbers_below d (e + k) ≡ numbers_below d e ++ map d.target (filter (is_leaf_entry d) (range_with_len e k))
  unfolding numbers_below
  numbers-append e k =
      ap (λ es. map d.target (filter (is_leaf_entry d) es)) (counting-append 0 e k ∙ ap (λ a. range_with_len 0 e ++ range_with_len a k) (let z : 0 + e ≡ e = omega arith in z))
      ∙ ap (map d.target) (filter-append (is_leaf_entry d) (range_with_len 0 e) (range_with_len e k))
      ∙ map-append d.target (filter (is_leaf_entry d) (range_with_len 0 e)) (filter (is_leaf_entry d) (range_with_len e k))

  pub numbers-leaf : (e : ℕ) → is_leaf_entry d e ≡ true → numbers_below d (e + 1) ≡ numbers_below d e ++ d.target e ∷ []
  numbers-leaf e t = numbers-append e 1 ∙ ap (λ es. numbers_below d e ++ map d.target es) (cond-true (is_leaf_entry d e) (e ∷ []) [] t)

  pub numbers-other : (e : ℕ) → is_leaf_entry d e ≡ false → numbers_below d (e + 1) ≡ numbers_below d e
  numbers-other e f = numbers-append e 1 ∙ ap (λ es. numbers_below d e ++ map d.target es) (cond-false (is_leaf_entry d e) (e ∷ []) [] f) ∙ append-nil (numbers_below d e)

  pub numbers-rise : (e m : ℕ) → e ≤ m → length (numbers_below d e) ≤ length (numbers_below d m)
  numbers-rise e m h =
      let more = map d.target (filter (is_leaf_entry d) (range_with_len e (m - e))) in
      omega (arith, ap (λ k. length (numbers_below d k)) (let w : e + (m - e) ≡ m = omega arith in w), ap length (numbers-append e (m - e)), length-append (numbers_below d e) more)

-- what leads to an entry's node is one of the entries, by the two lists
module _ (bs os : List ℕ) (ls : List (Option ℕ)) (n m : ℕ) (sized : Sized bs n m) (owned : Owned bs os n m) (led : Led bs ls m) (e : ℕ) (some : 1 ≤ e) (within : e < m) where
  few-nodes : get_or os e 0 < 128
  few-nodes = omega (arith, owned.below e some within, sized.few.0)

  pub leads-before : unwrap_or (get_or ls (get_or os e 0) None) 0 < m
  leads-before = omega (arith, ap (λ o. unwrap_or o 0) (led.each (get_or os e 0) few-nodes), leading-or (leader_below (image_of bs) m (get_or os e 0)), leader-before (image_of bs) m (get_or os e 0) sized.some.1)
