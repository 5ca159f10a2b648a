-- What opening an image leaves.
use Rattle.std.proofs.Common.{◌≡◌, ℕ, ◌≤◌, false, not, List, ◌∷◌, length, get_or, replicate, is_some, None, filter, vec_items, sym, refl, ap, ◌∙◌, arith}
use lib.ListN.{length-map}
use Rattle.std.specs.List.{range_with_len}
use Rattle.std.proofs.lemmas.List.FromFn.{length-range_with_len}
use Rattle.std.proofs.lemmas.List.Filters.{length-filter_both}
use Rattle.index.specs.Table.{node_count}
use Rattle.index.specs.declared.slot.Slot.TheVariants.{Empty}
use Rattle.image.specs.declared.store.ImageStore.{ImageStore}
use Rattle.image.specs.Layout.{Image, image_of}
use Rattle.queue.specs.Order.{sorted}
use Rattle.image.specs.Nodes.{is_leaf_entry, start, owner_below, leader_below, node_of, table_of, label_numbers}
use Rattle.image.specs.Checks.{first_bad, checks, verdict}
use Rattle.image.specs.Store.{empty_table, HasEntries}
use Rattle.image.specs.Lawfulness.{node-count, node_at-table_of}
use Rattle.image.specs.Exactly.{accepted, accepted-obeys, obeys-accepted}
use Rattle.image.specs.Held.{count_small, slot-past, slot-entry}

numbers-few : (d : Image) → length (label_numbers d) ≤ d.entries
unfolding label_numbers
numbers-few d = omega (arith, length-map (filter (is_leaf_entry d) (range_with_len 0 d.entries)) d.target, length-filter_both (is_leaf_entry d) (λ e. not (is_leaf_entry d e)) (λ _. refl) (range_with_len 0 d.entries), length-range_with_len 0 d.entries)

-- what is accepted with some list of numbers is accepted with the longest
pub accepted-roomy : (bs : List ℕ) (room : ℕ) → verdict bs room ≡ None → verdict bs 1537 ≡ None
accepted-roomy bs room h =
    let p = (accepted (image_of bs) (length bs) room h).passed in
    obeys-accepted bs 1537 (omega (arith, numbers-few (image_of bs), p.entries.1)) (accepted-obeys bs room h)

pub has-entries : (bs : List ℕ) (room : ℕ) → verdict bs room ≡ None → HasEntries (image_of bs) (table_of (image_of bs))
unfolding table_of
has-entries bs room h =
    let d = image_of bs in
    let p = (accepted d (length bs) room h).passed in
    record {
      root = refl;
      nodes = node-count d;
      entries = λ i j l k. ap (λ slots. get_or slots j Empty) (node_at-table_of d i l) ∙ slot-entry d i j (count_small d p i l) k;
      rest = λ i j l k. ap (λ slots. get_or slots j Empty) (node_at-table_of d i l) ∙ slot-past d i j k;
    }

-- the image of one empty leaf
abbrev pub empty : List ℕ
empty = 0 ∷ 1 ∷ 0 ∷ 1 ∷ replicate 22 0

pub empty-fine : is_some (verdict empty 1537) ≡ false
unfolding checks image_of start owner_below leader_below first_bad label_numbers sorted
empty-fine = refl

pub empty-sized : (1 ≡ (image_of empty).nodes) × (1 ≡ (image_of empty).entries)
unfolding image_of
empty-sized = (refl, refl)

pub empty-shows : table_of (image_of empty) ≡ empty_table
unfolding table_of node_of image_of start empty_table
empty-shows = refl

-- how many nodes a store has, by its table
pub nodes-stored : (s : ImageStore) → s.nodes ≡ node_count (table_of (image_of (vec_items s.bytes)))
nodes-stored s = s.sized.0 ∙ sym (node-count (image_of (vec_items s.bytes)))
