-- What an accepted image gives to the store that holds it.
use Rattle.std.specs.Prelude.{◌≡◌, ℕ, suc, ◌+◌, ◌<◌, ◌≤◌, true, false, cond, ◌&&◌, List, map, length, is_some, Some, None, Ok, Option, ◌==◌, ◌≢◌, nat_lt, slice_index_or, refl}
use Rattle.std.proofs.Common.{sym, ap, ◌∙◌, arith}
use Rattle.std.proofs.Math.Logic.{⊎_elim}
use Rattle.std.specs.List.{range_with_len}
use Rattle.std.proofs.lemmas.List.FromFn.{get_or-map-range_with_len}
use Rattle.std.proofs.lemmas.List.{get_or_past}
use Rattle.std.proofs.lemmas.Bool.{cases_lt, cond-true, cond-false, both_ways}
use Rattle.std.proofs.lemmas.Bool.Decides.{nat_tests}
use Rattle.geometry.specs.Plane.{in_range, numbered, span, label_from, rect_from}
use Rattle.geometry.proofs.Boxes.{and_both, and-made, spanned, in-range}
use Rattle.index.specs.declared.slot.Slot.TheVariants.{Empty, Holds, Leads}
use Rattle.index.specs.Laws.{Lawful, Inside}
use Rattle.image.specs.Layout.{Image, image_of}
use Rattle.image.specs.Nodes.{is_leaf, start, owner, is_leaf_entry, box_of, label_of, slot_of, node_of, table_of}
use Rattle.image.specs.Checks.{verdict}
use Rattle.image.specs.Results.{Sized}
use Rattle.image.specs.Opened.{has_open, opens_at, label_slot, branch_slot}
use Rattle.image.specs.Owners.{start-more, start-some, start-rises, owner-is}
use Rattle.image.specs.Passing.{Passed, number_of, spans-of, leaf-entry}
use Rattle.image.specs.Lawfulness.{node-count, lawful-table}
use Rattle.image.specs.Exactly.{Accepted, accepted}

not_some : {X : Type 0} (o : Option X) → is_some o ≡ false → o ≡ None
not_some None h = refl
not_some (Some x) h = absurd (both_ways true h refl)

pub held : (bs : List ℕ) → is_some (verdict bs 1537) ≡ false → Accepted (image_of bs) (length bs) 1537
held bs h = accepted (image_of bs) (length bs) 1537 (not_some (verdict bs 1537) h)

pub held-lawful : (bs : List ℕ) → is_some (verdict bs 1537) ≡ false → Lawful (table_of (image_of bs))
held-lawful bs h = lawful-table (image_of bs) (held bs h).passed

pub held-sized : (bs : List ℕ) (n m : ℕ) → is_some (verdict bs 1537) ≡ false → n ≡ (image_of bs).nodes → m ≡ (image_of bs).entries → Sized bs n m
held-sized bs n m h a b =
    let x = held bs h in
    let p = x.passed in
    record {
      nodes = a;
      entries = b;
      some = (omega (arith, p.nodes.0), omega (arith, p.entries.0));
      few = (omega (arith, p.nodes.1), omega (arith, p.entries.1));
      whole = omega (arith, x.whole);
    }

-- the open node is one of the table's
pub has_open-inside : (d : Image) (o : Option ℕ) → has_open d o ≡ true → Inside (table_of d) o
has_open-inside d None h = tt
has_open-inside d (Some i) h = let l : i < d.nodes = grind (arith, nat_tests) in omega (arith, node-count d)

pub opens-inside : (d : Image) (o : Option ℕ) (e : ℕ) → opens_at d o e ≡ true → Inside (table_of d) o
opens-inside d None e h = tt
opens-inside d (Some i) e h = has_open-inside d (Some i) (and_both (nat_lt i d.nodes) (e == start d i) h).0

-- the slots of a node, and past them
module _ (d : Image) (i j : ℕ) where
  pub slot-past : d.count i ≤ j → slice_index_or (node_of d i) j Empty ≡ Empty
  unfolding node_of
  slot-past h = ⊎_elim
      (λ (l : j < 12). get_or-map-range_with_len (λ j. cond (nat_lt j (d.count i)) (slot_of d i (start d i + j)) Empty) 0 12 j j Empty l (omega arith) ∙ cond-false (nat_lt j (d.count i)) _ _ (grind (arith, nat_tests)))
      (λ (l : 12 ≤ j). get_or_past (map (λ j. cond (nat_lt j (d.count i)) (slot_of d i (start d i + j)) Empty) (range_with_len 0 12)) j Empty l)
      (cases_lt j 12)

  pub slot-entry : d.count i ≤ 12 → j < d.count i → slice_index_or (node_of d i) j Empty ≡ slot_of d i (start d i + j)
  unfolding node_of
  slot-entry c h = get_or-map-range_with_len (λ j. cond (nat_lt j (d.count i)) (slot_of d i (start d i + j)) Empty) 0 12 j j Empty (omega arith) (omega arith) ∙ cond-true (nat_lt j (d.count i)) _ _ (grind (arith, nat_tests))

module _ (d : Image) (p : Passed d) where
  pub count_small : (i : ℕ) → i < d.nodes → d.count i ≤ 12
  count_small i h = let w = p.sizes i h in grind (arith, nat_tests)

  -- entry j of node i
  pub entry_in : (i j : ℕ) → i < d.nodes → j < d.count i → (start d i + j < d.entries) × (1 ≤ start d i + j) × (owner d (start d i + j) ≡ i)
  entry_in i j h k = (
    omega (arith, start-more d i, start-rises d (suc i) d.nodes (omega arith), p.sum),
    omega (arith, start-some d i),
    owner-is d d.nodes i (start d i + j) h (omega arith) (omega (arith, start-more d i)),
  )

  pub box-made : (e : ℕ) → e < d.entries → rect_from (d.west e) (d.south e) (d.east e) (d.north e) ≡ Ok (box_of d e)
  box-made e h = let spans = spans-of d p e h in cond-true (span (d.west e) (d.east e) && span (d.south e) (d.north e)) _ _ (and-made _ _ spans.0 spans.1)

  pub label-made : (e : ℕ) → e < d.entries → is_leaf_entry d e ≡ true → label_from (d.target e) (d.west e) (d.south e) ≡ Ok (label_of d e)
  label-made e h t =
      let spans = spans-of d p e h in
      let west = spanned (d.west e) (d.east e) spans.0 in
      let south = spanned (d.south e) (d.north e) spans.1 in
      cond-true (numbered (d.target e)) _ _ (number_of d p e h t)
      ∙ cond-true (in_range (d.west e) && in_range (d.south e)) _ _ (and-made _ _ (in-range (d.west e) west.1) (in-range (d.south e) south.1))

  -- slot j of a leaf, and of an inner node
  pub leaf-slot : (i j : ℕ) → i < d.nodes → j < d.count i → d.level i ≡ 0 → label_slot (label_from (d.target (start d i + j)) (d.west (start d i + j)) (d.south (start d i + j))) ≡ slice_index_or (node_of d i) j Empty
  leaf-slot i j h k z =
      let e = start d i + j in
      let in-it = entry_in i j h k in
      let leaf : is_leaf d i ≡ true = grind (arith, nat_tests) in
      ap label_slot (label-made e in-it.0 (leaf-entry d e in-it.1 (ap (is_leaf d) in-it.2 ∙ leaf)))
      ∙ sym (cond-true (is_leaf d i) (Holds (label_of d e)) (Leads (box_of d e) (d.target e)) leaf) ∙ sym (slot-entry d i j (count_small i h) k)

  pub inner-slot : (i j : ℕ) → i < d.nodes → j < d.count i → (d.level i ≢ 0) → branch_slot (d.target (start d i + j)) (rect_from (d.west (start d i + j)) (d.south (start d i + j)) (d.east (start d i + j)) (d.north (start d i + j))) ≡ slice_index_or (node_of d i) j Empty
  inner-slot i j h k u =
      let e = start d i + j in
      let inner : is_leaf d i ≡ false = grind (arith, nat_tests) in
      ap (branch_slot (d.target e)) (box-made e (entry_in i j h k).0) ∙ sym (cond-false (is_leaf d i) (Holds (label_of d e)) (Leads (box_of d e) (d.target e)) inner) ∙ sym (slot-entry d i j (count_small i h) k)

-- an open node, and the entry in its slot 0
pub has_open-told : (d : Image) (i : ℕ) → has_open d (Some i) ≡ true → i < d.nodes
has_open-told d i h = grind (arith, nat_tests)

pub opens-made : (d : Image) (i e : ℕ) → i < d.nodes → e ≡ start d i → opens_at d (Some i) e ≡ true
opens-made d i e h q = and-made (nat_lt i d.nodes) (e == start d i) (grind (arith, nat_tests)) (grind (arith, nat_tests))

pub opens-told : (d : Image) (i e : ℕ) → opens_at d (Some i) e ≡ true → (i < d.nodes) × (e ≡ start d i)
opens-told d i e h = let both = and_both (nat_lt i d.nodes) (e == start d i) h in (has_open-told d i both.0, let w = both.1 in grind (arith, nat_tests))

-- the root box
pub root-made : (bs : List ℕ) → is_some (verdict bs 1537) ≡ false → rect_from ((image_of bs).west 0) ((image_of bs).south 0) ((image_of bs).east 0) ((image_of bs).north 0) ≡ Ok (table_of (image_of bs)).box
unfolding table_of
root-made bs h = let p = (held bs h).passed in box-made (image_of bs) p 0 (omega (arith, p.entries.0))
