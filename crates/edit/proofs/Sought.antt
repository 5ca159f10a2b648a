-- A number among the labels of slots and of nodes.
use Rattle.std.proofs.Common.{◌≡◌, ℕ, zero, suc, ◌+◌, ◌<◌, true, false, ◌||◌, List, [], ◌∷◌, length, take, slice_index_or, refl, sym, ap, ◌∙◌, arith, ◌==◌}
use Rattle.std.specs.List.{flat_map, list_any}
use Rattle.std.proofs.lemmas.Bool.{or_left, or_right, or_from}
use Rattle.std.proofs.lemmas.List.{take_more, take_all, flat_map_more}
use Rattle.std.proofs.lemmas.List.Folds.{list_any-append}
use Rattle.geometry.specs.Numbers.{present}
use Rattle.index.specs.declared.slot.Slot.{Slot}
use Rattle.index.specs.Table.{Table, node_count, node_at, label_in, labels_in, plan}

-- in one of the slots, or among all of their labels
pub present-in : (n : ℕ) (slots : List Slot) → list_any (λ s. present n (label_in s)) slots ≡ present n (labels_in slots)
unfolding labels_in
present-in n [] = refl
present-in n (s ∷ slots) = ap (λ b. present n (label_in s) || b) (present-in n slots) ∙ sym (list_any-append (λ l. l.number == n) (label_in s) (flat_map label_in slots))

-- with the labels of one node more
pub absent-more : (n i : ℕ) (t : Table) → i < node_count t → present n (flat_map labels_in (take i t.nodes)) ≡ false → present n (labels_in (node_at t i)) ≡ false → present n (flat_map labels_in (take (i + 1) t.nodes)) ≡ false
absent-more n i t h a b =
    ap (λ nodes. present n (flat_map labels_in nodes)) (take_more t.nodes i [] h)
    ∙ ap (present n) (sym (flat_map_more labels_in [] (take i t.nodes) (node_at t i)))
    ∙ list_any-append (λ l. l.number == n) (flat_map labels_in (take i t.nodes)) (labels_in (node_at t i))
    ∙ or_from _ _ a b

-- in none of the nodes
pub absent-all : (n i : ℕ) (t : Table) → node_count t ≡ i → present n (flat_map labels_in (take i t.nodes)) ≡ false → present n (plan t) ≡ false
unfolding plan
absent-all n i t e h = ap (λ nodes. present n (flat_map labels_in nodes)) (sym (take_all i t.nodes (omega (arith, e)))) ∙ h

-- in one of the nodes
found : (n : ℕ) (nodes : List (List Slot)) (i : ℕ) → i < length nodes → present n (labels_in (slice_index_or nodes i [])) ≡ true → present n (flat_map labels_in nodes) ≡ true
found n [] i h e = absurd (omega (arith, h))
found n (x ∷ xs) zero h e = list_any-append (λ l. l.number == n) (labels_in x) (flat_map labels_in xs) ∙ or_left _ _ e
found n (x ∷ xs) (suc i) h e = list_any-append (λ l. l.number == n) (labels_in x) (flat_map labels_in xs) ∙ or_right _ _ (found n xs i (omega (arith, h)) e)

pub present-found : (n i : ℕ) (t : Table) → i < node_count t → present n (labels_in (node_at t i)) ≡ true → present n (plan t) ≡ true
unfolding plan
present-found n i t h e = found n t.nodes i h e
