-- What the nodes of a layer have: its root, the leaf of added labels, and the nodes below as they show through.
use Rattle.std.specs.Prelude.{◌≡◌, ℕ, zero, suc, ◌+◌, ◌-◌, ◌≤◌, ◌||◌, Bool, true, false, cond, not, List, [], ◌∷◌, ◌++◌, map, length, filter, replicate, ◌==◌, slice_index_or, refl}
use Rattle.std.proofs.Common.{sym, ap, ◌∙◌, arith, ◌⊎◌, inl, inr, ⊎_elim}
use Rattle.std.specs.List.{flat_map, AllByRecursion}
use Rattle.std.proofs.lemmas.List.{map-append, length-append, length-map, length-replicate, nil_from_length}
use Rattle.std.proofs.lemmas.List.Elements.{filter-append}
use Rattle.std.proofs.lemmas.Bool.{cond_both, or_cases, or_left, or_right, eqb-true}
use Rattle.std.proofs.ByRecursion.{All-append, All-map, All-weaker}
use Rattle.geometry.specs.declared.label.Label.{Label}
use Rattle.geometry.specs.declared.rect.Rect.{Rect}
use Rattle.geometry.specs.Plane.{holds, covering}
use Rattle.index.specs.declared.slot.Slot.{Slot}
use Rattle.index.specs.declared.slot.Slot.TheVariants.{Empty, Holds, Leads}
use Rattle.index.specs.Table.{label_in, branch_in, labels_in, branches_in}
use Rattle.index.specs.Laws.{lies_in, is_leaf, is_inner}
use Rattle.index.specs.Frames.{Layer}
use Rattle.runs.specs.Layers.{hides, through, root_slots, added_slots}

-- what is joined from the parts of a list, where each gives h of what it gave before
joined-changed : {X Y : Type 0} (g : X → X) (f : X → List Y) (h : List Y → List Y) → h [] ≡ [] → ((xs ys : List Y) → h (xs ++ ys) ≡ h xs ++ h ys) → ((x : X) → f (g x) ≡ h (f x)) → (xs : List X) → flat_map f (map g xs) ≡ h (flat_map f xs)
joined-changed g f h none parts e [] = sym none
joined-changed g f h none parts e (x ∷ xs) = (λ i. e x i ++ joined-changed g f h none parts e xs i) ∙ sym (parts (f x) (flat_map f xs))

-- of a changed list p passes as many as q passes of the list, where p decides of each as q decides of what it was
pub count-changed : {X Y : Type 0} (g : X → Y) (p : Y → Bool) (q : X → Bool) → ((x : X) → p (g x) ≡ q x) → (xs : List X) → length (filter p (map g xs)) ≡ length (filter q xs)
count-changed g p q e [] = refl
count-changed g p q e (x ∷ xs) =
    let ys = filter p (map g xs) in
    let zs = filter q xs in
    ap (λ b. length (cond b (g x ∷ ys) ys)) (e x) ∙ elim (q x) as (λ b. length (cond b (g x ∷ ys) ys) ≡ length (cond b (x ∷ zs) zs)) [
      | true ↦ ap suc (count-changed g p q e xs)
      | false ↦ count-changed g p q e xs
    ]

pub at-changed : {X Y : Type 0} (g : X → Y) (xs : List X) (i : ℕ) (d : X) → slice_index_or (map g xs) i (g d) ≡ g (slice_index_or xs i d)
at-changed g [] i d = refl
at-changed g (x ∷ xs) zero d = refl
at-changed g (x ∷ xs) (suc i) d = at-changed g xs i d

all-alike : {X : Type 0} (P : X → Type 0) (n : ℕ) (x : X) → P x → AllByRecursion P (replicate n x)
all-alike P zero x h = tt
all-alike P (suc n) x h = (h, all-alike P n x h)

-- what slots give that have these labels first and then nothing
held-labels : (ls : List Label) (n : ℕ) → flat_map label_in (map (λ l. Holds l) ls ++ replicate n Empty) ≡ ls
held-labels [] zero = refl
held-labels [] (suc n) = held-labels [] n
held-labels (l ∷ ls) n = ap (λ k. l ∷ k) (held-labels ls n)

held-branches : (ls : List Label) (n : ℕ) → flat_map branch_in (map (λ l. Holds l) ls ++ replicate n Empty) ≡ []
held-branches [] zero = refl
held-branches [] (suc n) = held-branches [] n
held-branches (l ∷ ls) n = held-branches ls n

-- the root and the leaf of added labels
pub root-labels : (below added : Rect) → labels_in (root_slots below added) ≡ []
unfolding labels_in
root-labels below added = refl

pub root-branches : (below added : Rect) → branches_in (root_slots below added) ≡ (2, below) ∷ ((1, added) ∷ [])
unfolding branches_in
root-branches below added = refl

pub added-labels : (ls : List Label) → labels_in (added_slots ls) ≡ ls
unfolding labels_in
added-labels ls = held-labels ls (12 - length ls)

pub added-branches : (ls : List Label) → branches_in (added_slots ls) ≡ []
unfolding branches_in
added-branches ls = held-branches ls (12 - length ls)

-- what they have lies in a box that covers the two boxes, or that holds the labels
pub root-inside : (b below added : Rect) → covering b below ≡ true → covering b added ≡ true → AllByRecursion (λ s. lies_in b s ≡ true) (root_slots below added)
root-inside b below added h k = (h, (k, all-alike (λ s. lies_in b s ≡ true) 10 Empty refl))

pub added-inside : (b : Rect) (ls : List Label) → AllByRecursion (λ l. holds b l.place ≡ true) ls → AllByRecursion (λ s. lies_in b s ≡ true) (added_slots ls)
added-inside b ls h = All-append (λ s. lies_in b s ≡ true) (map (λ l. Holds l) ls) (replicate (12 - length ls) Empty)
    (All-map (λ s. lies_in b s ≡ true) (λ l. Holds l) ls h) (all-alike (λ s. lies_in b s ≡ true) (12 - length ls) Empty refl)

pub added-twelve : (ls : List Label) → length ls ≤ 12 → length (added_slots ls) ≡ 12
added-twelve ls h = omega (arith, length-append (map (λ l. Holds l) ls) (replicate (12 - length ls) Empty), length-map ls (λ l. Holds l), length-replicate (12 - length ls) Empty)

-- a node without branches or without labels
pub leaf-kind : (slots : List Slot) → branches_in slots ≡ [] → (is_leaf slots || is_inner slots) ≡ true
leaf-kind slots e = or_left (is_leaf slots) (is_inner slots) (ap (λ bs. length bs == 0) e)

pub inner-kind : (slots : List Slot) → labels_in slots ≡ [] → (is_leaf slots || is_inner slots) ≡ true
inner-kind slots e = or_right (is_leaf slots) (is_inner slots) (ap (λ ls. length ls == 0) e)

kind-cases : (slots : List Slot) → (is_leaf slots || is_inner slots) ≡ true → (branches_in slots ≡ []) ⊎ (labels_in slots ≡ [])
kind-cases slots h = ⊎_elim
    (λ t. inl (nil_from_length (branches_in slots) (eqb-true (length (branches_in slots)) 0 t)))
    (λ t. inr (nil_from_length (labels_in slots) (eqb-true (length (labels_in slots)) 0 t)))
    (or_cases (is_leaf slots) (is_inner slots) h)

-- a branch, two nodes further
abbrev pub further : ℕ × Rect → ℕ × Rect
further b = (b.0 + 2, b.1)

module _ (l : Layer) where
  -- the layer lets the label through
  abbrev pub kept : Label → Bool
  kept p = not (hides l p.number)

  slot-labels : (s : Slot) → label_in (through l s) ≡ filter kept (label_in s)
  slot-labels Empty = refl
  slot-labels (Holds p) = by (hides l p.number)
    where
      by : (b : Bool) → label_in (cond b Empty (Holds p)) ≡ cond (not b) (p ∷ []) []
      by true = refl
      by false = refl
  slot-labels (Leads b k) = refl

  slot-branches : (s : Slot) → branch_in (through l s) ≡ map further (branch_in s)
  slot-branches Empty = refl
  slot-branches (Holds p) = by (hides l p.number)
    where
      by : (b : Bool) → branch_in (cond b Empty (Holds p)) ≡ []
      by true = refl
      by false = refl
  slot-branches (Leads b k) = refl

  -- a node below
  pub through-labels : (slots : List Slot) → labels_in (map (through l) slots) ≡ filter kept (labels_in slots)
  unfolding labels_in
  through-labels = joined-changed (through l) label_in (filter kept) refl (filter-append kept) slot-labels

  pub through-branches : (slots : List Slot) → branches_in (map (through l) slots) ≡ map further (branches_in slots)
  unfolding branches_in
  through-branches = joined-changed (through l) branch_in (map further) refl (map-append further) slot-branches

  -- all of them
  pub below-labels : (nodes : List (List Slot)) → flat_map labels_in (map (map (through l)) nodes) ≡ filter kept (flat_map labels_in nodes)
  below-labels = joined-changed (map (through l)) labels_in (filter kept) refl (filter-append kept) through-labels

  pub below-branches : (nodes : List (List Slot)) → flat_map branches_in (map (map (through l)) nodes) ≡ map further (flat_map branches_in nodes)
  below-branches = joined-changed (map (through l)) branches_in (map further) refl (map-append further) through-branches

  pub through-kind : (slots : List Slot) → (is_leaf slots || is_inner slots) ≡ true → (is_leaf (map (through l) slots) || is_inner (map (through l) slots)) ≡ true
  through-kind slots h = ⊎_elim
      (λ (e : branches_in slots ≡ []). leaf-kind (map (through l) slots) (through-branches slots ∙ ap (map further) e))
      (λ (e : labels_in slots ≡ []). inner-kind (map (through l) slots) (through-labels slots ∙ ap (filter kept) e))
      (kind-cases slots h)

  slot-inside : (b : Rect) (s : Slot) → lies_in b s ≡ true → lies_in b (through l s) ≡ true
  slot-inside b Empty h = refl
  slot-inside b (Holds p) h = cond_both (hides l p.number) Empty (Holds p) (λ s. lies_in b s ≡ true) (λ _. refl) (λ _. h)
  slot-inside b (Leads c k) h = h

  -- what lies in a box below still lies in it
  pub through-inside : (b : Rect) (slots : List Slot) → AllByRecursion (λ s. lies_in b s ≡ true) slots → AllByRecursion (λ s. lies_in b s ≡ true) (map (through l) slots)
  through-inside b slots h = All-map (λ s. lies_in b s ≡ true) (through l) slots (All-weaker (λ s. lies_in b s ≡ true) (λ s. lies_in b (through l s) ≡ true) (slot-inside b) slots h)
