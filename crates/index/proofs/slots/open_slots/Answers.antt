use Rattle.std.proofs.Common.{◌≡◌, ℕ, zero, suc, ◌+◌, ◌<◌, List, get_or, ◌∙◌, arith, rules}
use denote.Param.Members.{Mut, Called}
use Rattle.std.specs.Array.{IsFromFnResultFrom}
use Rattle.std.proofs.lemmas.List.FromFn.{fill_by_all}
use Rattle.index.specs.Table.{slot_at}
use Rattle.index.specs.declared.slot.Slot.TheVariants.{Empty}
use Rattle.index.proofs.slots.open_slots.Goals as goal

-- what a closure that stays as it is gives at each number
given : {F B : Type 0} (g : Mut F (ℕ × Unit {0}) B) (h : ℕ → B) (f : F) (ys : List B) (i n : ℕ) → ((x : ℕ) (y : B) (q : F) → Called g f (x, tt) y q → (q ≡ f) × (y ≡ h x)) → IsFromFnResultFrom g f ys i n → (k : ℕ) (d : B) → k < n → get_or ys (i + k) d ≡ h (i + k)
given g h f ys i zero calls made k d l = absurd (omega (arith, l))
given g h f ys i (suc n) calls (q, y, e, called, more) zero d l = let z : i + 0 ≡ i = omega arith in rw z (e.1 d ∙ (calls i y q called).1)
given g h f ys i (suc n) calls (q, y, e, called, more) (suc k) d l =
    let up : i + suc k ≡ (i + 1) + k = omega arith in
    rw up (given g h f ys (i + 1) n calls (rw ((calls i y q called).0) at more) k d (omega (arith, l)))

pub returns : goal.returns
returns g c =
    let made = c.from_fn.ensures.items in
    fill_by_all (slot_at (g.S.NodeStore.table c.args.store.now) (g.S.NodeStore.opened c.args.store.now)) c.from_fn.result 12 Empty made.long (λ k l. let z : 0 + k ≡ k = omega arith in rw z at (given _ (slot_at (g.S.NodeStore.table c.args.store.now) (g.S.NodeStore.opened c.args.store.now)) _ c.from_fn.result 0 12 (λ x y q called. search rules) made.each k Empty l))
