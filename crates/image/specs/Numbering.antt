-- The numbers of a table's labels are those that the image's leaf entries have.
use Rattle.std.specs.Prelude.{◌≡◌, ℕ, zero, suc, ◌+◌, ◌-◌, ◌<◌, ◌≤◌, true, false, ◌∷◌, ◌++◌, map, filter}
use Rattle.std.proofs.Math.Path.{refl, ap}
use Rattle.std.proofs.Common.{sym, ◌∙◌, ⊎_elim}
use native.Mathlib.Omega.{arith}
use Rattle.std.specs.List.{range_with_len, flat_map}
use Rattle.std.proofs.lemmas.Bool.{cases_Bool, cond-true, cond-false, both_ways}
use Rattle.queue.proofs.Keeping.{keeps, leaves}
use Rattle.index.specs.declared.slot.Slot.TheVariants.{Holds, Leads}
use Rattle.index.specs.Table.{label_in, labels_in, plan}
use Rattle.image.specs.Layout.{Image}
use Rattle.image.specs.Nodes.{is_leaf, start, owner, is_leaf_entry, box_of, label_of, slot_of, table_of, label_numbers}
use Rattle.image.specs.Tables.{table-gives}
use Rattle.image.specs.Passing.{leaf-entry, leaf-told}
use Rattle.image.specs.Repeats.{numbers_of}

module _ (d : Image) (numbers : (e : ℕ) → e < d.entries → is_leaf_entry d e ≡ true → (label_of d e).number ≡ d.target e) where
  same_numbers : (a n : ℕ) → 1 ≤ a → a + n ≤ d.entries → numbers_of (flat_map (λ e. label_in (slot_of d (owner d e) e)) (range_with_len a n)) ≡ map d.target (filter (is_leaf_entry d) (range_with_len a n))
  same_numbers a zero h k = refl
  same_numbers a (suc n) h k = ⊎_elim
      (λ (t : is_leaf d (owner d a) ≡ true).
      let leaf = leaf-entry d a h t in
      ap (λ l. numbers_of (label_in l ++ flat_map (λ e. label_in (slot_of d (owner d e) e)) (range_with_len (a + 1) n))) (cond-true (is_leaf d (owner d a)) (Holds (label_of d a)) (Leads (box_of d a) (d.target a)) t)
      ∙ (λ i. numbers a (omega arith) leaf i ∷ same_numbers (a + 1) n (omega arith) (omega arith) i)
      ∙ ap (map d.target) (sym (keeps (is_leaf_entry d) a (range_with_len (a + 1) n) leaf)))
      (λ (f : is_leaf d (owner d a) ≡ false).
      let none : is_leaf_entry d a ≡ false = ⊎_elim (λ t. absurd (both_ways (is_leaf d (owner d a)) f (leaf-told d a t).1)) (λ e. e) (cases_Bool (is_leaf_entry d a)) in
      ap (λ l. numbers_of (label_in l ++ flat_map (λ e. label_in (slot_of d (owner d e) e)) (range_with_len (a + 1) n))) (cond-false (is_leaf d (owner d a)) (Holds (label_of d a)) (Leads (box_of d a) (d.target a)) f)
      ∙ same_numbers (a + 1) n (omega arith) (omega arith)
      ∙ ap (map d.target) (sym (leaves (is_leaf_entry d) a (range_with_len (a + 1) n) none)))
      (cases_Bool (is_leaf d (owner d a)))

  pub plan-numbers : 1 ≤ d.entries → ((i : ℕ) → i < d.nodes → d.count i ≤ 12) → start d d.nodes ≡ d.entries → numbers_of (plan (table_of d)) ≡ label_numbers d
  unfolding plan labels_in label_numbers
  plan-numbers some counts sum =
      ap numbers_of (table-gives d counts label_in refl ∙ ap (λ n. flat_map (λ e. label_in (slot_of d (owner d e) e)) (range_with_len 1 (n - 1))) sum)
      ∙ same_numbers 1 (d.entries - 1) (omega arith) (omega arith)
      ∙ ap (λ n. map d.target (filter (is_leaf_entry d) (range_with_len 0 n))) (let w : suc (d.entries - 1) ≡ d.entries = omega arith in w)
