use Rattle.std.proofs.Common.{◌≡◌, ℕ, ◌+◌, List, [], ◌++◌, map, vec_items, refl, sym, ap, ◌∙◌, arith}
use Rattle.std.specs.List.{flat_map, range_with_len}
use Rattle.std.proofs.lemmas.List.{append-nil, flat_map_more}
use Rattle.std.proofs.lemmas.List.FromFn.{map-range_with_len_more}
use Rattle.geometry.specs.declared.label.Label.{Label}
use Rattle.index.specs.declared.slot.Slot.{Slot}
use Rattle.index.specs.declared.slot.Slot.TheVariants.{Empty, Holds, Leads}
use Rattle.index.specs.Table.{slot_at, label_in, labels_in}
use Rattle.labelplan.proofs.plan.add_labels.Goals as goal
use Rattle.labelplan.proofs.plan.add_labels.Goals.{in-Holds+in_ok-push, in_default}

whole : (slots : List Slot) → flat_map label_in slots ≡ labels_in slots
unfolding labels_in
whole slots = refl

-- a slot that holds no label
none : (s : Slot) → ((l : Label) → s ≡ Holds l → ⊥) → label_in s ≡ []
none Empty h = refl
none (Holds l) h = absurd (h l refl)
none (Leads b k) h = refl

-- the labels of one more slot
one_more : (f : ℕ → Slot) (j : ℕ) (s : Slot) (first was next : List Label) → s ≡ f j → was ≡ first ++ flat_map label_in (map f (range_with_len 0 j)) → next ≡ was ++ label_in s → next ≡ first ++ flat_map label_in (map f (range_with_len 0 (j + 1)))
one_more f j s first was next e h n =
    n ∙ (λ i. h i ++ label_in (e i)) ∙ flat_map_more label_in first (map f (range_with_len 0 j)) (f j)
    ∙ ap (λ l. first ++ flat_map label_in l) (sym (map-range_with_len_more f 0 j j (omega arith)))

pub loop-j-preserved : goal.loop-j-preserved
loop-j-preserved g c =
    let f = slot_at (g.S.NodeStore.table c.args.store.now) (g.S.NodeStore.opened c.args.store.now) in
    one_more f c.loop-j.j c.slot.result (vec_items c.args.labels.now) (vec_items c.loop-j.labels) (vec_items c.match-slot.labels) c.slot.ensures c.loop-j.invariant
    (elim c.match-slot.branch [
      | in-Holds+in_ok-push w ↦ ap vec_items w.labels-is ∙ w.in_ok-push.ensures.items ∙ ap (λ s. vec_items c.loop-j.labels ++ label_in s) (sym w.in-Holds.is)
      | in_default w ↦ ap vec_items w.labels-is ∙ sym (append-nil (vec_items c.loop-j.labels)) ∙ ap (λ l. vec_items c.loop-j.labels ++ l) (sym (none c.slot.result w.in_default.not-Holds))
    ])

pub returns : goal.returns
returns g c =
    let f = slot_at (g.S.NodeStore.table c.args.store.now) (g.S.NodeStore.opened c.args.store.now) in
    c.loop-j.invariant ∙ ap (λ n. vec_items c.args.labels.now ++ flat_map label_in (map f (range_with_len 0 n))) (let e : c.loop-j.j ≡ 12 = omega arith in e) ∙ ap (λ labels. vec_items c.args.labels.now ++ labels) (whole (map f (range_with_len 0 12)))
