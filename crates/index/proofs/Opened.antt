-- What opening does, by its three outcomes.
use Rattle.std.proofs.Common.{◌≡◌, ℕ, ◌+◌, ◌<◌, ◌≤◌, ltb, List, [], map, length, Some, Ok, Err, Option, sym, refl, subst, ⊎_elim, ◌∙◌}
use Rattle.std.proofs.lemmas.Bool.{cases_Bool, ltb-true, and_parts, lt-ltb, le-ltb, and_from, and_left, and_right, cond-true, cond-false}
use Rattle.std.specs.List.{range_with_len}
use Rattle.std.proofs.ByRecursion.{All-get_or}
use Rattle.std.proofs.lemmas.List.FromFn.{fill_by_all}
use Rattle.geometry.specs.declared.refusal.Reason.TheVariants.{NoSuchNode, MeterAtEnd}
use Rattle.geometry.specs.Refusals.{refusal}
use Rattle.index.specs.declared.slot.Slot.{Slot}
use Rattle.index.specs.declared.slot.Slot.TheVariants.{Empty}
use Rattle.index.specs.Table.{Table, node_count, node_at, slot_at}
use Rattle.index.specs.Laws.{Lawful}
use Rattle.index.specs.Opening.{opens_among, node_among, open_result, opens, open_node, open_meter}

module _ (t : Table) (i m : ℕ) (o : Option ℕ) where
  pub no_node : node_count t ≤ i → (Err (refusal NoSuchNode 0) ≡ open_result t i m) × (o ≡ open_node t i m o) × (m ≡ open_meter t i m)
  no_node h =
      let off = le-ltb i (node_count t) h in
      let none = and_left (ltb i (node_count t)) (ltb m 2000000) off in
      (sym (cond-false (ltb i (node_count t)) _ _ off), sym (cond-false (opens t i m) (Some i) o none), sym (cond-false (opens t i m) (m + 1) m none))

  pub at-end : i < node_count t → 2000000 ≤ m → (Err (refusal MeterAtEnd 0) ≡ open_result t i m) × (o ≡ open_node t i m o) × (m ≡ open_meter t i m)
  at-end h l =
      let off = le-ltb m 2000000 l in
      let none = and_right (ltb i (node_count t)) (ltb m 2000000) off in (
        sym (cond-true (ltb i (node_count t)) _ _ (lt-ltb i (node_count t) h) ∙ cond-false (ltb m 2000000) _ _ off),
        sym (cond-false (opens t i m) (Some i) o none),
        sym (cond-false (opens t i m) (m + 1) m none),
      )

  pub opens-node : i < node_count t → m < 2000000 → (Ok tt ≡ open_result t i m) × (Some i ≡ open_node t i m o) × (m + 1 ≡ open_meter t i m)
  opens-node h l =
      let node = lt-ltb i (node_count t) h in
      let room = lt-ltb m 2000000 l in
      let both = and_from (ltb i (node_count t)) (ltb m 2000000) node room in (
        sym (cond-true (ltb i (node_count t)) _ _ node ∙ cond-true (ltb m 2000000) _ _ room),
        sym (cond-true (opens t i m) (Some i) o both),
        sym (cond-true (opens t i m) (m + 1) m both),
      )

-- what holds of the open node and of each node that there is holds of the node open after
pub kept : (P : Option ℕ → Type 0) (n i m : ℕ) (o : Option ℕ) → P o → (i < n → P (Some i)) → P (node_among n i m o)
kept P n i m o p q = ⊎_elim
    (λ t. subst P (sym (cond-true (opens_among n i m) (Some i) o t)) (q (ltb-true i n (and_parts (ltb i n) (ltb m 2000000) t).0)))
    (λ f. subst P (sym (cond-false (opens_among n i m) (Some i) o f)) p)
    (cases_Bool (opens_among n i m))

-- the twelve slots of an open node are the node
pub open-slots : (t : Table) (i : ℕ) → Lawful t → i < node_count t → map (slot_at t (Some i)) (range_with_len 0 12) ≡ node_at t i
open-slots t i lawful h = sym (fill_by_all (slot_at t (Some i)) (node_at t i) 12 Empty (All-get_or (λ slots. length slots ≡ 12) t.nodes i [] h lawful.twelve) (λ k l. refl))

-- so the slots that are read when node i was opened are its own
pub slots-read : (t u : Table) (i m : ℕ) (o p : Option ℕ) (slots : List Slot) → Lawful t → i < node_count t → m < 2000000 → u ≡ t → p ≡ open_node t i m o → slots ≡ map (slot_at u p) (range_with_len 0 12) → slots ≡ node_at t i
slots-read t u i m o p slots lawful h l a b e =
    let now : p ≡ Some i = b ∙ sym (opens-node t i m o h l).1 in
    e ∙ rw (a, now) (open-slots t i lawful h)
