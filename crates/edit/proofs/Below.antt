-- What a branch below leads to.
use Rattle.std.proofs.Common.{◌≡◌, ℕ, zero, suc, ◌<◌, List, [], ◌∷◌, Some, None, Option, slice_index_or, arith}
use Rattle.std.specs.List.{flat_map, AllByRecursion}
use Rattle.std.proofs.ByRecursion.{All-weaker}
use Rattle.geometry.specs.declared.rect.Rect.{Rect}
use Rattle.index.specs.declared.slot.Slot.{Slot}
use Rattle.index.specs.declared.slot.Slot.TheVariants.{Empty, Holds, Leads}
use Rattle.index.specs.Table.{Table, node_count, node_at, slot_at, branch_in, branches_in}
use Rattle.index.specs.Laws.{Lawful, Inside}

-- a branch in a slot is among the branches
low : (n : ℕ) (slots : List Slot) (j k : ℕ) (b : Rect) → AllByRecursion (λ c. c.0 < n) (flat_map branch_in slots) → slice_index_or slots j Empty ≡ Leads b k → k < n
low n [] j k b h e = absurd (cc)
low n (Empty ∷ slots) zero k b h e = absurd (cc)
low n (Holds l ∷ slots) zero k b h e = absurd (cc)
low n (Leads c i ∷ slots) zero k b h e = let same : i ≡ k = cc in omega (arith, h.0, same)
low n (Empty ∷ slots) (suc j) k b h e = low n slots j k b h e
low n (Holds l ∷ slots) (suc j) k b h e = low n slots j k b h e
low n (Leads c i ∷ slots) (suc j) k b h e = low n slots j k b h.1 e

-- a branch that the open node has leads to one of at most 300 nodes
pub leads-low : (t : Table) (o : Option ℕ) (j k : ℕ) (b : Rect) → Lawful t → Inside t o → slot_at t o j ≡ Leads b k → k < 300
unfolding branches_in
leads-low t None j k b lawful h e = absurd (cc)
leads-low t (Some i) j k b lawful h e =
    let few = lawful.few in
    omega (arith, few, low (node_count t) (node_at t i) j k b (All-weaker (λ c. (i < c.0) × (c.0 < node_count t)) (λ c. c.0 < node_count t) (λ c l. l.1) (flat_map branch_in (node_at t i)) (lawful.down i h)) e)
