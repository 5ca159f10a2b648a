-- The checks pass exactly where the image obeys the layout and the tree rules.
use Rattle.std.specs.Prelude.{◌≡◌, ℕ, zero, suc, ◌+◌, ◌-◌, ◌<◌, ◌≤◌, Bool, true, false, not, ◌&&◌, leb, List, [], ◌∷◌, length, ℤ, is_some, Some, None, filter, Option, ◌==◌, int_le, nat_eq, nat_le}
use Rattle.std.proofs.Math.Path.{refl, ap, subst}
use Rattle.std.proofs.Common.{sym, ◌∙◌, ⊎_elim, arith}
use Rattle.std.specs.List.{range_with_len, flat_map, AllByRecursion}
use Rattle.std.specs.Option.{option_map}
use Rattle.std.proofs.lemmas.Int.{ints}
use Rattle.std.proofs.lemmas.Bool.{cases_Bool, cases_eq, cond-true, cond-false, both_ways}
use Rattle.std.proofs.lemmas.Bool.Decides.{nat_tests}
use Rattle.geometry.specs.declared.rect.Rect.{Rect}
use Rattle.geometry.specs.declared.refusal.Refusal.{Refusal}
use Rattle.geometry.specs.declared.refusal.Reason.{Reason}
use Rattle.geometry.specs.declared.refusal.Reason.TheVariants.{BadSize, BadBox, BadTarget, OutsideBox, BadNumber}
use Rattle.geometry.specs.Refusals.{refusal}
use Rattle.geometry.specs.Plane.{span, spanning}
use Rattle.geometry.proofs.Boxes.{and_both, and-made, spanned, rect-at, label-at}
use Rattle.index.specs.declared.slot.Slot.TheVariants.{Holds, Leads}
use Rattle.index.specs.Table.{node_count, node_at, branch_in, branches_in, branches, plan}
use Rattle.index.specs.Laws.{lies_in}
use Rattle.image.specs.Layout.{Image, image_length, image_of}
use Rattle.image.specs.Nodes.{is_leaf, start, owner, is_leaf_entry, is_branch, box_of, label_of, slot_of, node_of, table_of, leader_below, leader, label_numbers}
use Rattle.image.specs.Checks.{unless, at_first, sizes_fine, node_fine, box_fine, target_fine, target_reason, led_to, inside_fine, first_of, checks, verdict}
use Rattle.image.specs.Obeys.{Layout, Tree, Obeys}
use Rattle.image.specs.Firsts.{none-bad, all-good}
use Rattle.image.specs.Owners.{owner-in, start-more}
use Rattle.image.specs.Ranges.{joined-all}
use Rattle.image.specs.Tables.{node-gives, table-gives}
use Rattle.image.specs.Repeats.{occurs, once-distinct, no-repeats}
use Rattle.image.specs.Passing.{Passed, Branch, branch-of, number_of, spans-of, place_of, leaf-entry, branch-entry, branch-told, branch-whole}
use Rattle.image.specs.Leaders.{hits, hits-leader, leader-hits, hits-grow, hits-here, branch-gives, leader-is, no-leader}
use Rattle.image.specs.Numbering.{plan-numbers}
use Rattle.image.specs.Lawfulness.{node-count, node_at-table_of, node-pick, lawful-table}

-- the checks one by one
unless-none : (b : Bool) (r : Refusal) → unless b r ≡ None → b ≡ true
unless-none true r h = refl
unless-none false r h = let z : ◌≡◌ {A = ℕ} 0 1 = cc in absurd (omega arith)

first-none : (o : Option ℕ) (why : ℕ → Reason) → at_first o why ≡ None → o ≡ None
first-none None why h = refl
first-none (Some i) why h = let z : ◌≡◌ {A = ℕ} 0 1 = cc in absurd (omega arith)

head-none : (o : Option Refusal) (rest : List (Option Refusal)) → first_of (o ∷ rest) ≡ None → (o ≡ None) × (first_of rest ≡ None)
head-none None rest h = (refl, h)
head-none (Some r) rest h = let z : ◌≡◌ {A = ℕ} 0 1 = cc in absurd (omega arith)

no-refusal : (cs : List (Option Refusal)) → AllByRecursion (λ o. o ≡ None) cs → first_of cs ≡ None
no-refusal [] h = refl
no-refusal (o ∷ cs) h = ap (λ p. first_of (p ∷ cs)) h.0 ∙ no-refusal cs h.1

mapped-none : (f : ℕ → Refusal) (o : Option ℕ) → option_map f o ≡ None → o ≡ None
mapped-none f None h = refl
mapped-none f (Some n) h = let z : ◌≡◌ {A = ℕ} 0 1 = cc in absurd (omega arith)

some-false : (o : Option ℕ) → not (is_some o) ≡ true → o ≡ None
some-false None h = refl
some-false (Some n) h = absurd (both_ways true (sym h ∙ refl) refl)

-- what the layout checks tell, beside what the others do
pub record Accepted (d : Image) (size room : ℕ) : Type 0 where
  pub enough : 4 ≤ size
  pub whole : size ≡ image_length d.nodes d.entries
  pub fits : length (label_numbers d) ≤ room
  pub passed : Passed d

pub accepted : (d : Image) (size room : ℕ) → first_of (checks d size room) ≡ None → Accepted d size room
unfolding checks
accepted d size room h =
    let h1 = head-none _ _ h in
    let h2 = head-none _ _ h1.1 in
    let h3 = head-none _ _ h2.1 in
    let h4 = head-none _ _ h3.1 in
    let h5 = head-none _ _ h4.1 in
    let h6 = head-none _ _ h5.1 in
    let h7 = head-none _ _ h6.1 in
    let h8 = head-none _ _ h7.1 in
    let h9 = head-none _ _ h8.1 in
    let h10 = head-none _ _ h9.1 in
    let h11 = head-none _ _ h10.1 in
    let c1 : leb 4 size ≡ true = unless-none _ _ h1.0 in
    let c2 : sizes_fine d ≡ true = unless-none _ _ h2.0 in
    let c3 : nat_eq size (image_length d.nodes d.entries) ≡ true = unless-none _ _ h3.0 in
    let c5 : nat_eq (start d d.nodes) d.entries ≡ true = unless-none _ _ h5.0 in
    let c6 : leb (length (label_numbers d)) room ≡ true = unless-none _ _ h6.0 in
    record {
      enough = grind (arith, nat_tests);
      whole = grind (arith, nat_tests);
      fits = grind (arith, nat_tests);
      passed = record {
        nodes = (grind (arith, nat_tests), grind (arith, nat_tests));
        entries = (grind (arith, nat_tests), grind (arith, nat_tests));
        sizes = all-good (node_fine d) d.nodes (first-none _ _ h4.0);
        sum = grind (arith, nat_tests);
        boxes = all-good (box_fine d) d.entries (first-none _ _ h7.0);
        targets = all-good (target_fine d) d.entries (first-none _ _ h8.0);
        led = all-good (led_to d) d.nodes (some-false _ (unless-none _ _ h9.0));
        inside = all-good (inside_fine d) d.entries (first-none _ _ h10.0);
        numbers = mapped-none _ _ h11.0;
      };
    }

-- what passes obeys the rules
pub obeying : (d : Image) (size room : ℕ) → Accepted d size room → Layout d size × Tree d
obeying d size room a =
    let p = a.passed in (
      record {
        enough = a.enough;
        nodes = p.nodes;
        entries = p.entries;
        whole = a.whole;
        levels = λ i h. let w = p.sizes i h in grind (arith, nat_tests);
        counts = λ i h. let w = p.sizes i h in grind (arith, nat_tests);
        sum = p.sum;
        boxes = spans-of d p;
        places = place_of d p;
        root = (let w = p.targets 0 (omega (arith, p.entries.0)) in grind (arith, nat_tests));
        numbers = number_of d p;
      },
      record { lawful = lawful-table d p; levels = λ e h b. (branch-of d p e h b).lower },
    )

-- and what obeys them passes
module _ (d : Image) (size : ℕ) (l : Layout d size) (t : Tree d) where
  last : suc (d.entries - 1) ≡ d.entries
  last = omega (arith, l.entries.0)

  owns : (e : ℕ) → 1 ≤ e → e < d.entries → (owner d e < d.nodes) × (start d (owner d e) ≤ e) × (e < start d (suc (owner d e)))
  owns e h k = owner-in d d.nodes e h (omega (arith, l.sum))

  table-branches : branches (table_of d) ≡ flat_map (λ e. branch_in (slot_of d (owner d e) e)) (range_with_len 1 (d.entries - 1))
  unfolding branches branches_in
  table-branches = table-gives d l.counts branch_in refl ∙ ap (λ n. flat_map (λ e. branch_in (slot_of d (owner d e) e)) (range_with_len 1 (n - 1))) l.sum

  led-to : (k : ℕ) → 0 < k → k < d.nodes → hits d k (d.entries - 1) ≡ 1
  led-to k z h = ap (λ b. length (filter (λ b. nat_eq b.0 k) b)) (sym table-branches) ∙ t.lawful.once k z (omega (arith, node-count d))

  goes_down : (e : ℕ) → e < d.entries → is_branch d e ≡ true → (owner d e < d.target e) × (d.target e < d.nodes)
  unfolding branches_in
  goes_down e h b =
      let told = branch-told d e b in
      let own = owns e told.0 h in
      let i = owner d e in
      let P : ℕ × Rect → Type 0 = λ b. (i < b.0) × (b.0 < node_count (table_of d)) in
      let all : AllByRecursion P (flat_map branch_in (node_of d i)) = subst (λ slots. AllByRecursion P (flat_map branch_in slots)) (node_at-table_of d i own.0) (t.lawful.down i (omega (arith, own.0, node-count d))) in
      let each = joined-all P _ (start d i) (d.count i) (subst (AllByRecursion P) (node-gives d l.counts branch_in refl i own.0) all) e own.1 (omega (arith, own.2, start-more d i)) in
      let here = (subst (AllByRecursion P) (branch-gives d e told.1) each).0 in
      (here.0, omega (arith, here.1, node-count d))

  is-first : (e : ℕ) → e < d.entries → is_branch d e ≡ true → leader_below d e (d.target e) ≡ 0
  is-first zero h b = absurd (omega (arith, (branch-told d 0 b).0))
  is-first (suc e) h b =
      let k = d.target (suc e) in
      let down = goes_down (suc e) h b in ⊎_elim
      (λ z. z)
      (λ (some : leader_below d (suc e) k ≡ 0 → ⊥). absurd (omega (arith, leader-hits d k e some, hits-here d k e b refl, hits-grow d k (suc e) (d.entries - 1 - suc e), ap (hits d k) (let w : suc e + (d.entries - 1 - suc e) ≡ d.entries - 1 = omega arith in w), led-to k (omega (arith, down.0)) down.1)))
      (cases_eq (leader_below d (suc e) k) 0)

  branches-fine : (e : ℕ) → e < d.entries → is_branch d e ≡ true → Branch d e
  branches-fine e h b = let down = goes_down e h b in record { later = down.0; below = down.1; lower = t.levels e h b; first = is-first e h b }

  target-fine : (e : ℕ) → e < d.entries → target_fine d e ≡ true
  target-fine zero h = (let z = l.root in grind (arith, nat_tests))
  target-fine (suc e) h = ⊎_elim
      (λ (y : is_leaf d (owner d (suc e)) ≡ true). cond-true (is_leaf d (owner d (suc e))) _ _ y ∙ l.numbers (suc e) h (leaf-entry d (suc e) (omega arith) y))
      (λ (n : is_leaf d (owner d (suc e)) ≡ false). cond-false (is_leaf d (owner d (suc e))) _ _ n ∙ branch-whole d (suc e) (branches-fine (suc e) h (branch-entry d (suc e) (omega arith) n)))
      (cases_Bool (is_leaf d (owner d (suc e))))

  led-fine : (k : ℕ) → k < d.nodes → led_to d k ≡ true
  led-fine zero h = refl
  led-fine (suc k) h =
      let some = hits-leader d (suc k) (d.entries - 1) (omega (arith, led-to (suc k) (omega arith) h)) in
      let led : leader d (suc k) ≡ 0 → ⊥ = λ z. some (ap (λ n. leader_below d n (suc k)) last ∙ z) in grind (arith, nat_tests)

  box-fine : (e : ℕ) → e < d.entries → box_fine d e ≡ true
  box-fine e h =
      let spans = l.boxes e h in
      and-made (span (d.west e) (d.east e) && span (d.south e) (d.north e)) _ (and-made _ _ spans.0 spans.1) (⊎_elim
      (λ (y : is_leaf_entry d e ≡ true). let one = l.places e h y in cond-true (is_leaf_entry d e) _ true y ∙ and-made _ _ (level (d.west e) (d.east e) one.0) (level (d.south e) (d.north e) one.1))
      (λ (n : is_leaf_entry d e ≡ false). cond-false (is_leaf_entry d e) _ true n)
      (cases_Bool (is_leaf_entry d e)))
    where
      level : (a b : ℤ) → a ≡ b → int_le b a ≡ true
      level a b q = grind (arith, ints)

  sides-of : (e : ℕ) → e < d.entries → ((box_of d e).west ≡ d.west e) × ((box_of d e).south ≡ d.south e) × ((box_of d e).east ≡ d.east e) × ((box_of d e).north ≡ d.north e)
  sides-of e h = let spans = l.boxes e h in rect-at (d.west e) (d.south e) (d.east e) (d.north e) spans.0 spans.1

  label-of : (e : ℕ) → e < d.entries → is_leaf_entry d e ≡ true → ((label_of d e).number ≡ d.target e) × ((label_of d e).place.x ≡ d.west e) × ((label_of d e).place.y ≡ d.south e)
  label-of e h y =
      let spans = l.boxes e h in
      let west = spanned (d.west e) (d.east e) spans.0 in
      let south = spanned (d.south e) (d.north e) spans.1 in
      label-at (d.target e) (d.west e) (d.south e) (l.numbers e h y) west.1 south.1

  -- the box of node i, which its leader has, contains its slots
  held : (i : ℕ) → i < d.nodes → (leader d i < d.entries) × AllByRecursion (λ s. lies_in (box_of d (leader d i)) s ≡ true) (node_of d i)
  unfolding table_of
  held zero h =
      let root : leader d 0 ≡ 0 = no-leader d d.entries (λ e k b. omega (arith, (goes_down e k b).0)) in
      subst (λ b. (b < d.entries) × AllByRecursion (λ s. lies_in (box_of d b) s ≡ true) (node_of d 0)) (sym root)
      (omega (arith, l.entries.0), subst (AllByRecursion (λ s. lies_in (box_of d 0) s ≡ true)) (node_at-table_of d 0 h) t.lawful.inside.0)
  held (suc i) h =
      let led : leader d (suc i) ≡ 0 → ⊥ = (let w = led-fine (suc i) h in λ z. both_ways (not (leader d (suc i) == 0)) (grind (arith, nat_tests)) w) in
      let is = leader-is d d.entries (suc i) led in
      let told = branch-told d (leader d (suc i)) is.0 in
      let Held : ℕ × Rect → Type 0 = λ b. AllByRecursion (λ s. lies_in b.1 s ≡ true) (node_at (table_of d) b.0) in
      let each = joined-all Held _ 1 (d.entries - 1) (subst (AllByRecursion Held) table-branches t.lawful.inside.1) (leader d (suc i)) told.0 (omega (arith, is.2)) in
      let here = (subst (AllByRecursion Held) (branch-gives d (leader d (suc i)) told.1) each).0 in
      (is.2, subst (AllByRecursion (λ s. lies_in (box_of d (leader d (suc i))) s ≡ true)) (ap (node_at (table_of d)) is.1 ∙ node_at-table_of d (suc i) h) here)

  inside-fine : (e : ℕ) → e < d.entries → inside_fine d e ≡ true
  inside-fine zero h = refl
  inside-fine (suc e) h =
      let own = owns (suc e) (omega arith) h in
      let i = owner d (suc e) in
      let box = held i own.0 in
      let outer = sides-of (leader d i) box.0 in
      let lies = node-pick d (λ s. lies_in (box_of d (leader d i)) s ≡ true) i (suc e) (l.counts i own.0) own.1 own.2 box.1 in
      ⊎_elim
      (λ (y : is_leaf d i ≡ true).
      let leaf = leaf-entry d (suc e) (omega arith) y in
      let one = l.places (suc e) h leaf in
      let label = label-of (suc e) h leaf in
      let both = and_both _ _ (subst (λ s. lies_in (box_of d (leader d i)) s ≡ true) (cond-true (is_leaf d i) (Holds (label_of d (suc e))) (Leads (box_of d (suc e)) (d.target (suc e))) y) lies) in
      and-made _ _
      (sym (λ k. spanning (outer.0 k) (outer.2 k) (label.1 k) ((label.1 ∙ one.0) k)) ∙ both.0)
      (sym (λ k. spanning (outer.1 k) (outer.3 k) (label.2 k) ((label.2 ∙ one.1) k)) ∙ both.1))
      (λ (n : is_leaf d i ≡ false).
      let inner = sides-of (suc e) h in
      let both = and_both _ _ (subst (λ s. lies_in (box_of d (leader d i)) s ≡ true) (cond-false (is_leaf d i) (Holds (label_of d (suc e))) (Leads (box_of d (suc e)) (d.target (suc e))) n) lies) in
      and-made _ _
      (sym (λ k. spanning (outer.0 k) (outer.2 k) (inner.0 k) (inner.2 k)) ∙ both.0)
      (sym (λ k. spanning (outer.1 k) (outer.3 k) (inner.1 k) (inner.3 k)) ∙ both.1))
      (cases_Bool (is_leaf d i))

  pub passing : Passed d
  passing = record {
    nodes = l.nodes;
    entries = l.entries;
    sizes = λ i h. let a = l.levels i h in let b = l.counts i h in grind (arith, nat_tests);
    sum = l.sum;
    boxes = box-fine;
    targets = target-fine;
    led = led-fine;
    inside = inside-fine;
    numbers = no-repeats (label_numbers d) (λ k. omega (arith, once-distinct (plan (table_of d)) t.lawful.apart k, ap (occurs k) (plan-numbers d (λ e h y. (label-of e h y).0) l.entries.0 l.counts l.sum)));
  }

  pub obeyed : (room : ℕ) → length (label_numbers d) ≤ room → first_of (checks d size room) ≡ None
  unfolding checks
  obeyed room fits =
      let p = passing in
      let c1 : leb 4 size ≡ true = (let w = l.enough in grind (arith, nat_tests)) in
      let c2 : sizes_fine d ≡ true = (let w = l.nodes in let v = l.entries in grind (arith, nat_tests)) in
      let c3 : nat_eq size (image_length d.nodes d.entries) ≡ true = (let w = l.whole in grind (arith, nat_tests)) in
      let c5 : nat_eq (start d d.nodes) d.entries ≡ true = (let w = l.sum in grind (arith, nat_tests)) in
      let c6 : leb (length (label_numbers d)) room ≡ true = grind (arith, nat_tests) in
      no-refusal (checks d size room) (
        cond-true (nat_le 4 size) _ _ c1,
        (
          cond-true (sizes_fine d) _ _ c2,
          (
            cond-true (size == image_length d.nodes d.entries) _ _ c3,
            (
              ap (λ o. at_first o (λ _. BadSize)) (none-bad (node_fine d) d.nodes p.sizes),
              (
                cond-true (start d d.nodes == d.entries) _ _ c5,
                (
                  cond-true (nat_le (length (label_numbers d)) room) _ _ c6,
                  (
                    ap (λ o. at_first o (λ _. BadBox)) (none-bad (box_fine d) d.entries p.boxes),
                    (
                      ap (λ o. at_first o (target_reason d)) (none-bad (target_fine d) d.entries p.targets),
                      (
                        ap (λ o. unless (not (is_some o)) (refusal BadTarget d.entries)) (none-bad (led_to d) d.nodes p.led),
                        (
                          ap (λ o. at_first o (λ _. OutsideBox)) (none-bad (inside_fine d) d.entries p.inside),
                          (ap (option_map (refusal BadNumber)) p.numbers, tt),
                        ),
                      ),
                    ),
                  ),
                ),
              ),
            ),
          ),
        ),
      )

-- bytes are accepted exactly where they obey the rules, given room for their numbers
pub accepted-obeys : (bs : List ℕ) (room : ℕ) → verdict bs room ≡ None → Obeys bs
accepted-obeys bs room h = let o = obeying (image_of bs) (length bs) room (accepted (image_of bs) (length bs) room h) in record { layout = o.0; tree = o.1 }

pub obeys-accepted : (bs : List ℕ) (room : ℕ) → length (label_numbers (image_of bs)) ≤ room → Obeys bs → verdict bs room ≡ None
obeys-accepted bs room fits o = obeyed (image_of bs) (length bs) o.layout o.tree room fits
