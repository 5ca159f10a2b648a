-- What a layer shows over a lawful table: its labels, and that it is lawful.
use Rattle.std.specs.Prelude.{◌≡◌, ℕ, zero, suc, ◌+◌, ◌-◌, ◌<◌, ◌≤◌, Bool, true, false, not, ◌||◌, [], ◌∷◌, ◌++◌, length, map, filter, nat_eq}
use Rattle.std.proofs.Common.{sym, refl, ap, ◌∙◌, subst, ⊎_elim, arith}
use Rattle.std.specs.List.{flat_map, AllByRecursion}
use Rattle.std.proofs.ByRecursion.{All-map, All-weaker, All-from_get_or, kept_by_passes}
use Rattle.std.proofs.lemmas.Bool.{cases_Bool, cases_eq, cond-true, cond-false, or_parts, not-true, eq-eqb, ne_eqb, ltb-false}
use Rattle.std.proofs.lemmas.Bool.Decides.{nat_tests}
use Rattle.std.proofs.lemmas.List.{length-map}
use Rattle.geometry.specs.declared.rect.Rect.{Rect}
use Rattle.geometry.specs.Plane.{around}
use Rattle.geometry.specs.Numbers.{present, distinct}
use Rattle.queue.proofs.Keeping.{keeps, leaves, keeps-none}
use Rattle.index.specs.Table.{Table, node_count, node_at, labels_in, branches_in, plan, branches, boxed}
use Rattle.index.specs.Laws.{Lawful, is_leaf, is_inner, lies_in, times_led_to}
use Rattle.index.specs.Frames.{Layer}
use Rattle.neighbours.proofs.Bags.{all-joined}
use Rattle.neighbours.proofs.Answering.{distinct-kept}
use Rattle.runs.specs.Layers.{withdrawn, hides, added_box, through, added_slots, layered, closed, shown}
use Rattle.runs.proofs.Around.{around-smallest, added-held}
use Rattle.runs.proofs.Apart.{distinct-append}
use Rattle.runs.proofs.Through.{count-changed, at-changed, root-labels, root-branches, root-inside, added-labels, added-branches, added-inside, added-twelve, inner-kind, leaf-kind, further, kept, below-labels, below-branches, through-branches, through-kind, through-inside}

pub shown-closed : (l : Layer) (t : Table) → closed t ≡ true → shown l t ≡ t
unfolding shown
shown-closed l t h = cond-true (closed t) _ _ h

pub shown-layered : (l : Layer) (t : Table) → closed t ≡ false → shown l t ≡ layered l t
unfolding shown
shown-layered l t h = cond-false (closed t) _ _ h

pub count-layered : (l : Layer) (t : Table) → node_count (layered l t) ≡ node_count t + 2
unfolding layered
count-layered l t = omega (arith, length-map t.nodes (map (through l)))

-- the plan: the added labels, and those below that are not hidden
pub plan-layered : (l : Layer) (t : Table) → plan (layered l t) ≡ l.added ++ filter (λ p. not (hides l p.number)) (plan t)
unfolding layered plan
plan-layered l t =
    let below = flat_map labels_in (map (map (through l)) t.nodes) in
    ap (λ ls. ls ++ (labels_in (added_slots l.added) ++ below)) (root-labels t.box (added_box l.added t.box)) ∙ ap (λ ls. ls ++ below) (added-labels l.added) ∙ ap (λ ls. l.added ++ ls) (below-labels l t.nodes)

module _ (l : Layer) (t : Table) where
  abbrev top : Table
  top = layered l t

  abbrev added : Rect
  added = added_box l.added t.box

  -- the branches: those of the root, and those below two nodes further
  pub branches-layered : branches top ≡ (2, t.box) ∷ ((1, added) ∷ map further (branches t))
  unfolding layered branches
  branches-layered =
      let below = flat_map branches_in (map (map (through l)) t.nodes) in
      ap (λ bs. bs ++ (branches_in (added_slots l.added) ++ below)) (root-branches t.box added) ∙ ap (λ bs. (2, t.box) ∷ ((1, added) ∷ (bs ++ below))) (added-branches l.added) ∙ ap (λ bs. (2, t.box) ∷ ((1, added) ∷ bs)) (below-branches l t.nodes)

  -- a node of the table is two nodes further
  pub node-layered : (i k : ℕ) → i + 2 ≡ k → node_at top k ≡ map (through l) (node_at t i)
  unfolding layered
  node-layered i k e = ap (node_at top) (let f : k ≡ suc (suc i) = omega arith in f) ∙ at-changed (map (through l)) t.nodes i []

  -- the laws one by one
  module _ (lawful : Lawful t) where
    twelve : length l.added ≤ 12 → AllByRecursion (λ slots. length slots ≡ 12) top.nodes
    unfolding layered
    twelve few = (
      refl,
      (
        added-twelve l.added few,
        All-map (λ slots. length slots ≡ 12) (map (through l)) t.nodes
            (All-weaker (λ slots. length slots ≡ 12) (λ slots. length (map (through l) slots) ≡ 12) (λ slots e. length-map slots (through l) ∙ e) t.nodes lawful.twelve),
      ),
    )

    kinds : AllByRecursion (λ slots. (is_leaf slots || is_inner slots) ≡ true) top.nodes
    unfolding layered
    kinds = (
      inner-kind _ (root-labels t.box added),
      (
        leaf-kind _ (added-branches l.added),
        All-map (λ slots. (is_leaf slots || is_inner slots) ≡ true) (map (through l)) t.nodes
            (All-weaker (λ slots. (is_leaf slots || is_inner slots) ≡ true) (λ slots. (is_leaf (map (through l) slots) || is_inner (map (through l) slots)) ≡ true) (through-kind l) t.nodes lawful.kinds),
      ),
    )

    -- a branch of node i of the layer leads down
    abbrev Down : ℕ → ℕ × Rect → Type 0
    Down i b = (i < b.0) × (b.0 < node_count top)

    down : (i : ℕ) → i < node_count top → AllByRecursion (Down i) (branches_in (node_at top i))
    unfolding layered
    down zero h =
        let room : 2 < node_count top = omega (arith, count-layered l t, lawful.some) in
        subst (AllByRecursion (Down 0)) (sym (root-branches t.box added)) ((omega arith, room), ((omega arith, omega arith), tt))
    down (suc zero) h = subst (AllByRecursion (Down 1)) (sym (added-branches l.added)) tt
    down (suc (suc i)) h =
        let few : i < node_count t = omega (arith, count-layered l t) in
        subst (AllByRecursion (Down (suc (suc i)))) (sym (ap branches_in (node-layered i (suc (suc i)) (omega arith)) ∙ through-branches l (node_at t i)))
        (All-map (Down (suc (suc i))) further (branches_in (node_at t i))
        (All-weaker (λ b. (i < b.0) × (b.0 < node_count t)) (λ b. Down (suc (suc i)) (further b)) (λ b k. (omega (arith, k.0), omega (arith, k.1, count-layered l t))) (branches_in (node_at t i)) (lawful.down i few)))

    -- no branch of the table leads to its root
    past-root : AllByRecursion (λ b. 0 < b.0) (branches t)
    unfolding branches
    past-root = all-joined branches_in (λ b. 0 < b.0) t.nodes (λ slots. AllByRecursion (λ b. 0 < b.0) (branches_in slots)) (λ slots h. h)
        (All-from_get_or (λ slots. AllByRecursion (λ b. 0 < b.0) (branches_in slots)) t.nodes [] (λ i h. All-weaker (λ b. (i < b.0) × (b.0 < node_count t)) (λ b. 0 < b.0) (λ b k. omega (arith, k.0)) (branches_in (node_at t i)) (lawful.down i h)))

    -- so none below leads to the first nodes of the layer
    none-below : (k : ℕ) → k ≤ 2 → filter (λ b. nat_eq b.0 k) (map further (branches t)) ≡ []
    none-below k h = keeps-none (λ b. nat_eq b.0 k) (map further (branches t))
        (All-map (λ b. nat_eq b.0 k ≡ false) further (branches t) (All-weaker (λ b. 0 < b.0) (λ b. nat_eq (b.0 + 2) k ≡ false) (λ b p. ne_eqb (b.0 + 2) k (λ e. omega arith)) (branches t) past-root))

    once : (k : ℕ) → 0 < k → k < node_count top → times_led_to top k ≡ 1
    once k p q =
        let leads : ℕ × Rect → Bool = λ b. nat_eq b.0 k in
        let below = map further (branches t) in
        ap (λ bs. length (filter leads bs)) branches-layered ∙ ⊎_elim
        (λ (e : 2 ≡ k). ap length (keeps leads (2, t.box) ((1, added) ∷ below) (eq-eqb 2 k e) ∙ ap (λ bs. (2, t.box) ∷ bs) (leaves leads (1, added) below (ne_eqb 1 k (λ f. omega arith)) ∙ none-below k (omega arith))))
        (λ (d : 2 ≡ k → ⊥). ap length (leaves leads (2, t.box) ((1, added) ∷ below) (ne_eqb 2 k d)) ∙ ⊎_elim
        (λ (e : 1 ≡ k). ap length (keeps leads (1, added) below (eq-eqb 1 k e) ∙ ap (λ bs. (1, added) ∷ bs) (none-below k (omega arith))))
        (λ (f : 1 ≡ k → ⊥). ap length (leaves leads (1, added) below (ne_eqb 1 k f))
        ∙ count-changed further leads (λ b. nat_eq b.0 (k - 2)) (λ b. two-less b.0 k (omega (arith, d, f))) (branches t)
        ∙ lawful.once (k - 2) (omega (arith, d, f)) (omega (arith, d, f, count-layered l t)))
        (cases_eq 1 k))
        (cases_eq 2 k)
      where
        two-less : (m k : ℕ) → 2 ≤ k → nat_eq (m + 2) k ≡ nat_eq m (k - 2)
        two-less m k h = grind (arith, nat_tests)

    -- what a node has lies in its box
    abbrev Held : Table → ℕ × Rect → Type 0
    Held u b = AllByRecursion (λ s. lies_in b.1 s ≡ true) (node_at u b.0)

    further-held : (b : ℕ × Rect) → Held t b → Held top (further b)
    further-held b h = subst (AllByRecursion (λ s. lies_in b.1 s ≡ true)) (sym (node-layered b.0 (b.0 + 2) refl)) (through-inside l b.1 (node_at t b.0) h)

    root-held : Held top (0, top.box)
    unfolding layered
    root-held = let both = around-smallest t.box added in root-inside (around t.box added) t.box added both.first both.second

    added-leaf-held : Held top (1, added)
    unfolding layered
    added-leaf-held = added-inside added l.added (added-held l.added t.box)

    inside : AllByRecursion (Held top) (boxed top)
    inside = (
      root-held,
      subst (AllByRecursion (Held top)) (sym branches-layered)
          (further-held (0, t.box) lawful.inside.0, (added-leaf-held, All-map (Held top) further (branches t) (All-weaker (Held t) (λ b. Held top (further b)) further-held (branches t) lawful.inside.1))),
    )

    -- the added labels are distinct, those below too, and none that is let through has the number of an added one
    all-apart : distinct l.added ≡ true → distinct (plan top) ≡ true
    all-apart h = ap distinct (plan-layered l t) ∙ distinct-append l.added (filter (kept l) (plan t)) h (distinct-kept (kept l) (plan t) lawful.apart)
        (All-weaker (λ p. kept l p ≡ true) (λ p. present p.number l.added ≡ false) (λ p k. (or_parts (withdrawn p.number l) (present p.number l.added) (not-true (hides l p.number) k)).1) (filter (kept l) (plan t)) (kept_by_passes (kept l) (plan t)))

    -- a table with room for a layer
    pub layered-lawful : node_count t ≤ 298 → length l.added ≤ 12 → distinct l.added ≡ true → Lawful top
    layered-lawful room few apart = record {
      some = omega (arith, count-layered l t);
      few = omega (arith, count-layered l t);
      twelve = twelve few;
      kinds = kinds;
      down = down;
      once = once;
      inside = inside;
      apart = all-apart apart;
    }

pub shown-lawful : (l : Layer) (t : Table) → Lawful t → length l.added ≤ 12 → distinct l.added ≡ true → Lawful (shown l t)
shown-lawful l t lawful few apart = ⊎_elim
    (λ (h : closed t ≡ true). subst Lawful (sym (shown-closed l t h)) lawful)
    (λ (h : closed t ≡ false). subst Lawful (sym (shown-layered l t h)) (layered-lawful l t lawful (ltb-false 298 (node_count t) h) few apart))
    (cases_Bool (closed t))
