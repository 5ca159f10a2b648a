-- An image that passes its checks describes a lawful table.
use Rattle.std.specs.Prelude.{◌≡◌, ℕ, zero, suc, ◌+◌, ◌-◌, ◌<◌, ◌≤◌, Bool, true, false, cond, not, ◌||◌, List, [], ◌++◌, map, length, filter, ◌==◌, nat_eq, nat_lt}
use Rattle.std.proofs.Math.Path.{refl, ap, subst}
use Rattle.std.proofs.Common.{sym, ◌∙◌}
use Rattle.std.proofs.Math.Logic.{⊎_elim}
use native.Mathlib.Omega.{arith}
use Rattle.std.specs.List.{range_with_len, flat_map, AllByRecursion}
use Rattle.std.proofs.ByRecursion.{All-get_or}
use Rattle.std.proofs.lemmas.List.FromFn.{length-map-range_with_len, get_or-map-range_with_len}
use Rattle.std.proofs.lemmas.Bool.{cases_Bool, cases_lt, cond-true, cond-false, both_ways}
use Rattle.std.proofs.lemmas.Bool.Decides.{nat_tests}
use Rattle.geometry.specs.declared.rect.Rect.{Rect}
use Rattle.geometry.specs.Plane.{spanning}
use Rattle.geometry.proofs.Boxes.{and_both, and-made, spanned, rect-at, label-at}
use Rattle.index.specs.declared.slot.Slot.{Slot}
use Rattle.index.specs.declared.slot.Slot.TheVariants.{Empty, Holds, Leads}
use Rattle.index.specs.Table.{node_count, node_at, label_in, branch_in, labels_in, branches_in, plan, branches, boxed}
use Rattle.index.specs.Laws.{Lawful, lies_in, is_inner, times_led_to}
use Rattle.index.specs.Laws as laws
use Rattle.image.specs.Layout.{Image}
use Rattle.image.specs.Nodes.{is_leaf, start, owner, is_leaf_entry, is_branch, box_of, label_of, slot_of, node_of, table_of, leader_below, leader, label_numbers}
use Rattle.image.specs.Owners.{start-more, start-some, start-rises, owner-is}
use Rattle.image.specs.Ranges.{all-joined}
use Rattle.image.specs.Tables.{node-gives, table-gives}
use Rattle.image.specs.Passing.{Passed, branch-of, number_of, spans-of, place_of, leaf-entry, branch-entry, branch-told}
use Rattle.image.specs.Repeats.{occurs, once-each, distinct-once}
use Rattle.image.specs.Numbering.{plan-numbers}
use Rattle.image.specs.Leaders.{hits-once, branch-gives, leader-here, leader-stays, no-leader}

all-counting : {X : Type 0} (P : X → Type 0) (f : ℕ → X) (a n : ℕ) → ((j : ℕ) → a ≤ j → j < a + n → P (f j)) → AllByRecursion P (map f (range_with_len a n))
all-counting P f a zero h = tt
all-counting P f a (suc n) h = (h a (omega arith) (omega arith), all-counting P f (a + 1) n (λ j l m. h j (omega arith) (omega arith)))

joined-none : {X : Type 0} (f : ℕ → List X) (a n : ℕ) → ((e : ℕ) → a ≤ e → e < a + n → f e ≡ []) → flat_map f (range_with_len a n) ≡ []
joined-none f a zero h = refl
joined-none f a (suc n) h = λ i. h a (omega arith) (omega arith) i ++ joined-none f (a + 1) n (λ e l m. h e (omega arith) (omega arith)) i

module _ (d : Image) where
  pub node-count : node_count (table_of d) ≡ d.nodes
  unfolding table_of
  node-count = length-map-range_with_len (node_of d) 0 d.nodes

  pub node_at-table_of : (i : ℕ) → i < d.nodes → node_at (table_of d) i ≡ node_of d i
  unfolding table_of
  node_at-table_of i h = get_or-map-range_with_len (node_of d) 0 d.nodes i i [] h (omega arith)

  pub node-twelve : (i : ℕ) → length (node_of d i) ≡ 12
  unfolding node_of
  node-twelve i = refl

  -- a slot of a node is one of its entries, or empty
  pub node-all : (P : Slot → Type 0) (i : ℕ) → P Empty → ((e : ℕ) → start d i ≤ e → e < start d (suc i) → P (slot_of d i e)) → AllByRecursion P (node_of d i)
  unfolding node_of
  node-all P i none some = all-counting P _ 0 12 (λ j l m. ⊎_elim
      (λ (c : j < d.count i). subst P (sym (cond-true (nat_lt j (d.count i)) (slot_of d i (start d i + j)) Empty (grind (arith, nat_tests)))) (some (start d i + j) (omega arith) (omega (arith, start-more d i))))
      (λ (c : d.count i ≤ j). subst P (sym (cond-false (nat_lt j (d.count i)) (slot_of d i (start d i + j)) Empty (grind (arith, nat_tests)))) none)
      (cases_lt j (d.count i)))

  -- and every entry is one
  pub node-pick : (P : Slot → Type 0) (i e : ℕ) → d.count i ≤ 12 → start d i ≤ e → e < start d (suc i) → AllByRecursion P (node_of d i) → P (slot_of d i e)
  unfolding node_of
  node-pick P i e c lo hi all =
      let j = e - start d i in
      let in-it : j < d.count i = omega (arith, start-more d i) in
      let f : ℕ → Slot = λ j. cond (nat_lt j (d.count i)) (slot_of d i (start d i + j)) Empty in
      let at_j = All-get_or P (map f (range_with_len 0 12)) j Empty (let w : j < 12 = omega arith in w) all in
      subst P (get_or-map-range_with_len f 0 12 j j Empty (omega arith) (omega arith) ∙ cond-true (nat_lt j (d.count i)) (slot_of d i (start d i + j)) Empty (grind (arith, nat_tests)) ∙ ap (slot_of d i) (let w : start d i + j ≡ e = omega arith in w)) at_j

module _ (d : Image) (p : Passed d) where
  counts : (i : ℕ) → i < d.nodes → d.count i ≤ 12
  counts i h = let w = p.sizes i h in grind (arith, nat_tests)

  -- an entry of node i
  mine : (i e : ℕ) → i < d.nodes → start d i ≤ e → e < start d (suc i) → (owner d e ≡ i) × (1 ≤ e) × (e < d.entries)
  mine i e h a b = (owner-is d d.nodes i e h a b, omega (arith, start-some d i), omega (arith, start-rises d (suc i) d.nodes (omega arith), p.sum))

  leaf-or-inner : (i : ℕ) → i < d.nodes → (laws.is_leaf (node_of d i) || is_inner (node_of d i)) ≡ true
  unfolding branches_in labels_in
  leaf-or-inner i h = ⊎_elim
      (λ (t : is_leaf d i ≡ true).
      let none : flat_map branch_in (node_of d i) ≡ [] = node-gives d counts branch_in refl i h ∙ joined-none _ (start d i) (d.count i) (λ e a b.
      let m = mine i e h a (omega (arith, start-more d i)) in ap branch_in (cond-true (is_leaf d (owner d e)) _ _ (ap (is_leaf d) m.0 ∙ t))) in
      ap (λ l. (length l == 0) || is_inner (node_of d i)) none)
      (λ (f : is_leaf d i ≡ false).
      let none : flat_map label_in (node_of d i) ≡ [] = node-gives d counts label_in refl i h ∙ joined-none _ (start d i) (d.count i) (λ e a b.
      let m = mine i e h a (omega (arith, start-more d i)) in ap label_in (cond-false (is_leaf d (owner d e)) _ _ (ap (is_leaf d) m.0 ∙ f))) in
      ap (λ l. laws.is_leaf (node_of d i) || length l == 0) none ∙ or-true (laws.is_leaf (node_of d i)))
      (cases_Bool (is_leaf d i))
    where
      or-true : (b : Bool) → (b || true) ≡ true
      or-true true = refl
      or-true false = refl

  downwards : (i : ℕ) → i < d.nodes → AllByRecursion (λ b. (i < b.0) × (b.0 < d.nodes)) (branches_in (node_of d i))
  unfolding branches_in
  downwards i h = subst (AllByRecursion (λ b. (i < b.0) × (b.0 < d.nodes))) (sym (node-gives d counts branch_in refl i h)) (all-joined _ _ (start d i) (d.count i) (λ e a b.
      let m = mine i e h a (omega (arith, start-more d i)) in ⊎_elim
      (λ (t : is_leaf d (owner d e) ≡ true). subst (AllByRecursion (λ b. (i < b.0) × (b.0 < d.nodes))) (sym (ap branch_in (cond-true (is_leaf d (owner d e)) _ _ t))) tt)
      (λ (f : is_leaf d (owner d e) ≡ false).
      let fine = branch-of d p e m.2 (branch-entry d e m.1 f) in
      subst (AllByRecursion (λ b. (i < b.0) × (b.0 < d.nodes))) (sym (branch-gives d e f)) ((omega (arith, fine.later, m.0), fine.below), tt))
      (cases_Bool (is_leaf d (owner d e)))))

  pub table-branches : branches (table_of d) ≡ flat_map (λ e. branch_in (slot_of d (owner d e) e)) (range_with_len 1 (d.entries - 1))
  unfolding branches branches_in
  table-branches = table-gives d counts branch_in refl ∙ ap (λ n. flat_map (λ e. branch_in (slot_of d (owner d e) e)) (range_with_len 1 (n - 1))) p.sum

  firsts : (e : ℕ) → e < d.entries → is_branch d e ≡ true → leader_below d e (d.target e) ≡ 0
  firsts e h b = (branch-of d p e h b).first

  led-once : (k : ℕ) → 0 < k → k < d.nodes → times_led_to (table_of d) k ≡ 1
  led-once zero z h = absurd (omega arith)
  led-once (suc k) z h =
      let m = d.entries - 1 in
      let all : suc m ≡ d.entries = omega (arith, p.entries.0) in
      ap (λ l. length (filter (λ b. nat_eq b.0 (suc k)) l)) table-branches
      ∙ hits-once d (suc k) m (λ e l b. firsts e (omega arith) b)
      ∙ ap (λ n. cond (leader_below d n (suc k) == 0) 0 1) all
      ∙ cond-false (leader d (suc k) == 0) 0 1 (⊎_elim (λ t. absurd (both_ways (not (leader d (suc k) == 0)) (ap not t) (p.led (suc k) h))) (λ f. f) (cases_Bool (leader d (suc k) == 0)))

  -- a branch is the leader of its target
  pub leads : (e : ℕ) → e < d.entries → is_branch d e ≡ true → leader d (d.target e) ≡ e
  leads e h b =
      let here = leader-here d e (d.target e) b refl (firsts e h b) in
      let some = (branch-told d e b).0 in
      ap (λ n. leader_below d n (d.target e)) (let w : d.entries ≡ suc e + (d.entries - suc e) = omega arith in w) ∙ leader-stays d (suc e) (d.target e) (d.entries - suc e) (λ z. omega (arith, here, z)) ∙ here

  inside-told : (e : ℕ) → 1 ≤ e → e < d.entries → (spanning (d.west (leader d (owner d e))) (d.east (leader d (owner d e))) (d.west e) (d.east e) ≡ true) × (spanning (d.south (leader d (owner d e))) (d.north (leader d (owner d e))) (d.south e) (d.north e) ≡ true)
  inside-told zero z h = absurd (omega arith)
  inside-told (suc e) z h = and_both _ _ (p.inside (suc e) h)

  sides-of : (e : ℕ) → e < d.entries → ((box_of d e).west ≡ d.west e) × ((box_of d e).south ≡ d.south e) × ((box_of d e).east ≡ d.east e) × ((box_of d e).north ≡ d.north e)
  sides-of e h = let spans = spans-of d p e h in rect-at (d.west e) (d.south e) (d.east e) (d.north e) spans.0 spans.1

  lies : (k b : ℕ) → k < d.nodes → b < d.entries → leader d k ≡ b → AllByRecursion (λ s. lies_in (box_of d b) s ≡ true) (node_of d k)
  lies k b h l q = node-all d (λ s. lies_in (box_of d b) s ≡ true) k refl (λ e lo hi.
      let m = mine k e h lo hi in
      let from : leader d (owner d e) ≡ b = ap (leader d) m.0 ∙ q in
      let told = subst (λ f. (spanning (d.west f) (d.east f) (d.west e) (d.east e) ≡ true) × (spanning (d.south f) (d.north f) (d.south e) (d.north e) ≡ true)) from (inside-told e m.1 m.2) in
      let outer = sides-of b l in
      ⊎_elim
      (λ (t : is_leaf d k ≡ true).
      let leaf = leaf-entry d e m.1 (ap (is_leaf d) m.0 ∙ t) in
      let one = place_of d p e m.2 leaf in
      let spans = spans-of d p e m.2 in
      let west = spanned (d.west e) (d.east e) spans.0 in
      let south = spanned (d.south e) (d.north e) spans.1 in
      let at' = label-at (d.target e) (d.west e) (d.south e) (number_of d p e m.2 leaf) west.1 south.1 in
      subst (λ s. lies_in (box_of d b) s ≡ true) (sym (cond-true (is_leaf d k) (Holds (label_of d e)) (Leads (box_of d e) (d.target e)) t))
      (and-made _ _
      ((λ i. spanning (outer.0 i) (outer.2 i) (at'.1 i) ((at'.1 ∙ one.0) i)) ∙ told.0)
      ((λ i. spanning (outer.1 i) (outer.3 i) (at'.2 i) ((at'.2 ∙ one.1) i)) ∙ told.1)))
      (λ (f : is_leaf d k ≡ false).
      let inner = sides-of e m.2 in
      subst (λ s. lies_in (box_of d b) s ≡ true) (sym (cond-false (is_leaf d k) (Holds (label_of d e)) (Leads (box_of d e) (d.target e)) f))
      (and-made _ _
      ((λ i. spanning (outer.0 i) (outer.2 i) (inner.0 i) (inner.2 i)) ∙ told.0)
      ((λ i. spanning (outer.1 i) (outer.3 i) (inner.1 i) (inner.3 i)) ∙ told.1)))
      (cases_Bool (is_leaf d k)))

  boxes-hold : AllByRecursion (λ b. AllByRecursion (λ s. lies_in b.1 s ≡ true) (node_at (table_of d) b.0)) (boxed (table_of d))
  unfolding table_of
  boxes-hold = (
    subst (AllByRecursion (λ s. lies_in (box_of d 0) s ≡ true)) (sym (node_at-table_of d 0 (omega (arith, p.nodes.0)))) (lies 0 0 (omega (arith, p.nodes.0)) (omega (arith, p.entries.0)) (no-leader d d.entries (λ e h b. omega (arith, (branch-of d p e h b).later)))),
    subst (AllByRecursion Held) (sym table-branches) (all-joined Held _ 1 (d.entries - 1) (λ e l m.
        let h : e < d.entries = omega (arith, p.entries.0) in ⊎_elim
        (λ (t : is_leaf d (owner d e) ≡ true). subst (AllByRecursion Held) (sym (ap branch_in (cond-true (is_leaf d (owner d e)) _ _ t))) tt)
        (λ (f : is_leaf d (owner d e) ≡ false).
        let b = branch-entry d e l f in
        let fine = branch-of d p e h b in
        subst (AllByRecursion Held) (sym (branch-gives d e f)) (subst (AllByRecursion (λ s. lies_in (box_of d e) s ≡ true)) (sym (node_at-table_of d (d.target e) fine.below)) (lies (d.target e) e fine.below h (leads e h b)), tt))
        (cases_Bool (is_leaf d (owner d e))))),
  )
    where
      Held : ℕ × Rect → Type 0
      Held b = AllByRecursion (λ s. lies_in b.1 s ≡ true) (node_at (table_of d) b.0)

  label-of : (e : ℕ) → e < d.entries → is_leaf_entry d e ≡ true → (label_of d e).number ≡ d.target e
  label-of e h t =
      let spans = spans-of d p e h in
      let west = spanned (d.west e) (d.east e) spans.0 in
      let south = spanned (d.south e) (d.north e) spans.1 in
      (label-at (d.target e) (d.west e) (d.south e) (number_of d p e h t) west.1 south.1).0

  every : (P : List Slot → Type 0) → ((i : ℕ) → i < d.nodes → P (node_of d i)) → AllByRecursion P (table_of d).nodes
  unfolding table_of
  every P h = all-counting P (node_of d) 0 d.nodes (λ i l m. h i (omega arith))

  pub lawful-table : Lawful (table_of d)
  lawful-table = record {
    some = omega (arith, node-count d, p.nodes.0);
    few = omega (arith, node-count d, p.nodes.1);
    twelve = every (λ slots. length slots ≡ 12) (λ i h. node-twelve d i);
    kinds = every (λ slots. (laws.is_leaf slots || is_inner slots) ≡ true) leaf-or-inner;
    down = λ i h. let l : i < d.nodes = omega (arith, node-count d) in subst (λ n. AllByRecursion (λ b. (i < b.0) × (b.0 < n)) (branches_in (node_at (table_of d) i))) (sym (node-count d)) (subst (λ slots. AllByRecursion (λ b. (i < b.0) × (b.0 < d.nodes)) (branches_in slots)) (sym (node_at-table_of d i l)) (downwards i l));
    once = λ k z h. led-once k z (omega (arith, node-count d));
    inside = boxes-hold;
    apart = distinct-once (plan (table_of d)) (λ k. omega (arith, once-each (label_numbers d) p.numbers k, ap (occurs k) (plan-numbers d label-of p.entries.0 counts p.sum)));
  }
