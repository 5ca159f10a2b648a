-- The slots and the root box of what an edit shows.
use Rattle.std.specs.Prelude.{◌≡◌, ℕ, ◌+◌, true, false, Some, None, Option, slice_index_or}
use Rattle.std.proofs.Common.{refl, sym, ap, ◌∙◌}
use Rattle.geometry.specs.Plane.{around}
use Rattle.index.specs.declared.slot.Slot.{Slot}
use Rattle.index.specs.declared.slot.Slot.TheVariants.{Empty}
use Rattle.index.specs.Table.{Table, node_at, slot_at}
use Rattle.index.specs.Frames.{Layer}
use Rattle.runs.specs.Layers.{added_box, through, root_slots, added_slots, closed, layered, shown}
use Rattle.runs.proofs.Layering.{shown-closed, shown-layered, node-layered}
use Rattle.runs.proofs.Through.{at-changed}
use Rattle.edit.specs.declared.edit.At.{At}
use Rattle.edit.specs.Showing.{further, opened_at}

module _ (l : Layer) (t : Table) where
  -- what a slot shows, where the edit is closed and where it is not
  pub slot-closed : (a : At) (o : Option ℕ) (j : ℕ) (s : Slot) → closed t ≡ true → s ≡ slot_at t (opened_at true a o) j → s ≡ slot_at (shown l t) (opened_at (closed t) a o) j
  slot-closed a o j s c e = e ∙ (λ i. slot_at (sym (shown-closed l t c) i) (opened_at (sym c i) a o) j)

  pub slot-layered : (a b : At) (o : Option ℕ) (j : ℕ) (s : Slot) → closed t ≡ false → a ≡ b → s ≡ slot_at (layered l t) (opened_at false b o) j → s ≡ slot_at (shown l t) (opened_at (closed t) a o) j
  slot-layered a b o j s c p e = e ∙ (λ i. slot_at (sym (shown-layered l t c) i) (opened_at (sym c i) (sym p i) o) j)

  -- slots of the new root, of the leaf of added labels, and of a node below
  pub slot-root : (j : ℕ) → slice_index_or (root_slots t.box (added_box l.added t.box)) j Empty ≡ slot_at (layered l t) (Some 0) j
  unfolding layered
  slot-root j = refl

  pub slot-added : (j : ℕ) → slice_index_or (added_slots l.added) j Empty ≡ slot_at (layered l t) (Some 1) j
  unfolding layered
  slot-added j = refl

  pub slot-through : (o : Option ℕ) (j : ℕ) → through l (slot_at t o j) ≡ slot_at (layered l t) (further o) j
  slot-through None j = refl
  slot-through (Some k) j = sym (at-changed (through l) (node_at t k) j Empty) ∙ ap (λ n. slice_index_or n j Empty) (sym (node-layered l t k (k + 2) refl))

  -- the root box
  pub box-closed : closed t ≡ true → t.box ≡ (shown l t).box
  box-closed c = ap (λ u. u.box) (sym (shown-closed l t c))

  pub box-layered : closed t ≡ false → around t.box (added_box l.added t.box) ≡ (shown l t).box
  unfolding layered
  box-layered c = ap (λ u. u.box) (sym (shown-layered l t c))
