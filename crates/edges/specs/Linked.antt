-- The table of a chain is lawful.
use Rattle.std.specs.Prelude.{◌≡◌, ℕ, zero, suc, ◌+◌, ◌<◌, ◌≤◌, true, ◌||◌, List, [], ◌∷◌, ◌++◌, map, length, replicate, filter, Some, None, Option, nat_eq, slice_index_or, refl}
use Rattle.std.proofs.Common.{sym, ap, ◌∙◌, subst, ⊎_elim, arith}
use Rattle.std.specs.List.{range_with_len, flat_map, AllByRecursion}
use Rattle.std.proofs.ByRecursion.{All-append}
use Rattle.std.proofs.lemmas.Bool.{cases_lt, leb-true}
use Rattle.std.proofs.lemmas.Grind.{flat_map-append}
use Rattle.std.proofs.lemmas.List.{append-nil, length-append, get_or_append_left, get_or_push}
use Rattle.std.proofs.lemmas.List.FromFn.{length-map-range_with_len, get_or-map-range_with_len}
use Rattle.geometry.specs.declared.label.Label.{Label}
use Rattle.geometry.specs.declared.rect.Rect.{Rect}
use Rattle.geometry.specs.Plane.{spot}
use Rattle.geometry.specs.Numbers.{distinct}
use Rattle.index.specs.declared.slot.Slot.{Slot}
use Rattle.index.specs.declared.slot.Slot.TheVariants.{Empty, Holds, Leads}
use Rattle.index.specs.Table.{Table, node_count, node_at, labels_in, branches_in, plan, branches, boxed}
use Rattle.index.specs.Laws.{Lawful, Inside, is_leaf, is_inner, lies_in, times_led_to}
use Rattle.lattice.specs.Counting.{all-counted, joined-counted, joined-none, joined-one, one-begins}
use Rattle.runs.specs.Layers.{around_labels}
use Rattle.runs.proofs.Around.{labels-around, added-held}
use Rattle.edges.specs.Chain.{link, leaf, chain_table, is_node}

module _ (last : ℕ) (l : Label) where
  abbrev chain : Table
  chain = chain_table last l

  abbrev links : List (List Slot)
  links = map (link l) (range_with_len 0 last)

  -- the branch of node i
  abbrev branch : ℕ → ℕ × Rect
  branch i = (i + 1, spot l.place)

  pub count : node_count chain ≡ last + 1
  unfolding chain_table
  count = length-append links (leaf l ∷ []) ∙ ap (λ n. n + 1) (length-map-range_with_len (link l) 0 last)

  pub link-at : (i : ℕ) → i < last → node_at chain i ≡ link l i
  unfolding chain_table
  link-at i h = get_or_append_left links (leaf l ∷ []) [] i (omega (arith, length-map-range_with_len (link l) 0 last)) ∙ get_or-map-range_with_len (link l) 0 last i i [] h (omega arith)

  pub leaf-at : node_at chain last ≡ leaf l
  unfolding chain_table
  leaf-at = get_or_push links (leaf l) [] last (length-map-range_with_len (link l) 0 last)

  all-labels : plan chain ≡ l ∷ []
  unfolding plan labels_in chain_table
  all-labels = flat_map-append labels_in links (leaf l ∷ []) ∙ ap (λ ls. ls ++ l ∷ []) (joined-counted labels_in (link l) (λ _. []) (λ _. refl) 0 last ∙ joined-none {A = Label} 0 last)

  all-branches : branches chain ≡ map branch (range_with_len 0 last)
  unfolding branches branches_in chain_table
  all-branches = flat_map-append branches_in links (leaf l ∷ []) ∙ append-nil (flat_map branches_in links) ∙ joined-counted branches_in (link l) (λ i. branch i ∷ []) (λ _. refl) 0 last ∙ joined-one branch 0 last

  -- the laws one by one
  twelve : AllByRecursion (λ slots. length slots ≡ 12) chain.nodes
  unfolding chain_table
  twelve = All-append (λ slots. length slots ≡ 12) links (leaf l ∷ []) (all-counted (λ slots. length slots ≡ 12) (link l) 0 last (λ _ _. refl)) (refl, tt)

  kinds : AllByRecursion (λ slots. (is_leaf slots || is_inner slots) ≡ true) chain.nodes
  unfolding chain_table labels_in branches_in
  kinds =
      let P : List Slot → Type 0 = λ slots. (is_leaf slots || is_inner slots) ≡ true in
      All-append P links (leaf l ∷ []) (all-counted P (link l) 0 last (λ _ _. refl)) (refl, tt)

  -- node k is a link, or it is the last
  by_node : (P : List Slot → Type 0) (k : ℕ) → k ≤ last → (k < last → P (link l k)) → P (leaf l) → P (node_at chain k)
  by_node P k h p q = ⊎_elim
      (λ (a : k < last). subst P (sym (link-at k a)) (p a))
      (λ (a : last ≤ k). let e : last ≡ k = omega arith in subst (λ i. P (node_at chain i)) e (subst P (sym leaf-at) q))
      (cases_lt k last)

  down : (i : ℕ) → i < node_count chain → AllByRecursion (λ b. (i < b.0) × (b.0 < node_count chain)) (branches_in (node_at chain i))
  unfolding branches_in
  down i h = by_node (λ slots. AllByRecursion (λ b. (i < b.0) × (b.0 < node_count chain)) (branches_in slots)) i (omega (arith, count)) (λ a. ((omega arith, omega (arith, count)), tt)) tt

  once : (k : ℕ) → 0 < k → k < node_count chain → times_led_to chain k ≡ 1
  once k p q = ap (λ bs. length (filter (λ b. nat_eq b.0 k) bs)) all-branches ∙ one-begins (λ _. spot l.place) k 0 last p (omega (arith, count))

  -- every slot lies in the one box
  abbrev Lies : Slot → Type 0
  Lies s = lies_in (spot l.place) s ≡ true

  empty : (n : ℕ) → AllByRecursion Lies (replicate n Empty)
  empty zero = tt
  empty (suc n) = (refl, empty n)

  held : (k : ℕ) → k ≤ last → AllByRecursion Lies (node_at chain k)
  unfolding around_labels
  held k h = by_node (AllByRecursion Lies) k h (λ _. ((labels-around (spot l.place) []).0, empty 11)) ((added-held (l ∷ []) (spot l.place)).0, empty 11)

  inside : AllByRecursion (λ b. AllByRecursion (λ s. lies_in b.1 s ≡ true) (node_at chain b.0)) (boxed chain)
  unfolding chain_table
  inside =
      let Held : ℕ × Rect → Type 0 = λ b. AllByRecursion (λ s. lies_in b.1 s ≡ true) (node_at chain b.0) in
      (held 0 (omega arith), subst (AllByRecursion Held) (sym all-branches) (all-counted Held branch 0 last (λ i h. held (i + 1) (omega arith))))

  pub lawful : last ≤ 299 → Lawful chain
  lawful few = record {
    some = omega (arith, count);
    few = omega (arith, count);
    twelve = twelve;
    kinds = kinds;
    down = down;
    once = once;
    inside = inside;
    apart = ap distinct all-labels;
  }

  -- an open node is one of the table
  pub node-inside : (o : Option ℕ) → is_node last o ≡ true → Inside chain o
  node-inside None h = tt
  node-inside (Some i) h = omega (arith, count, leb-true i last h)

  -- slot 0 of a node, and the slots past it
  pub link-leads : (b : Rect) (i j : ℕ) → b ≡ chain.box → i < last → j ≡ 0 → Leads b (i + 1) ≡ slice_index_or (node_at chain i) j Empty
  unfolding chain_table
  link-leads b i j e h z = ap (λ a. Leads a (i + 1)) e ∙ (λ k. slice_index_or (sym (link-at i h) k) (sym z k) Empty)

  pub leaf-holds : (i j : ℕ) → i ≡ last → j ≡ 0 → Holds l ≡ slice_index_or (node_at chain i) j Empty
  leaf-holds i j e z = (λ k. slice_index_or (sym leaf-at k) (sym z k) Empty) ∙ ap (λ n. slice_index_or (node_at chain n) j Empty) (sym e)

  none-past : (n j : ℕ) → Empty ≡ slice_index_or (replicate n Empty) j Empty
  none-past zero j = refl
  none-past (suc n) zero = refl
  none-past (suc n) (suc j) = none-past n j

  empty-past : (s : Slot) (j : ℕ) → 0 < j → Empty ≡ slice_index_or (s ∷ replicate 11 Empty) j Empty
  empty-past s zero h = absurd (omega arith)
  empty-past s (suc j) h = none-past 11 j

  pub slots-past : (i j : ℕ) → i ≤ last → 0 < j → Empty ≡ slice_index_or (node_at chain i) j Empty
  slots-past i j h k = by_node (λ slots. Empty ≡ slice_index_or slots j Empty) i h (λ _. empty-past (Leads (spot l.place) (i + 1)) j k) (empty-past (Holds l) j k)
