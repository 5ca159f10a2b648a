-- The labels and branches of the table that an image describes, entry by entry.
use Rattle.std.specs.Prelude.{◌≡◌, ℕ, zero, suc, ◌+◌, ◌-◌, ◌<◌, ◌≤◌, Bool, true, false, cond, List, [], ◌++◌, nat_lt, refl}
use Rattle.std.proofs.Common.{sym, ◌∙◌}
use Rattle.std.proofs.Math.Path.{ap}
use native.Mathlib.Omega.{arith}
use Rattle.std.specs.List.{range_with_len, flat_map}
use Rattle.std.proofs.lemmas.List.{append-nil}
use Rattle.index.specs.declared.slot.Slot.{Slot}
use Rattle.index.specs.declared.slot.Slot.TheVariants.{Empty}
use Rattle.image.specs.Layout.{Image}
use Rattle.image.specs.Nodes.{start, owner, slot_of, node_of, table_of}
use Rattle.image.specs.Owners.{start-zero, start-more, start-some, owner-is}
use Rattle.image.specs.Ranges.{counting-append, joined-append, joined-map, joined_same, padded}

cond-in : {X Y : Type 0} (f : X → Y) (b : Bool) (x y : X) → f (cond b x y) ≡ cond b (f x) (f y)
cond-in f true x y = refl
cond-in f false x y = refl

module _ (d : Image) (counts : (i : ℕ) → i < d.nodes → d.count i ≤ 12) {X : Type 0} (what : Slot → List X) (nothing : what Empty ≡ []) where
  -- what an entry gives
  abbrev given : ℕ → List X
  given e = what (slot_of d (owner d e) e)

  pub node-gives : (i : ℕ) → i < d.nodes → flat_map what (node_of d i) ≡ flat_map given (range_with_len (start d i) (d.count i))
  unfolding node_of
  node-gives i h =
      let own : ℕ → List X = λ e. what (slot_of d i e) in
      joined-map what (λ j. cond (nat_lt j (d.count i)) (slot_of d i (start d i + j)) Empty) (range_with_len 0 12)
      ∙ joined_same _ (λ j. cond (nat_lt j (d.count i)) (own (start d i + j)) []) 0 12 (λ j l m. cond-in what (nat_lt j (d.count i)) (slot_of d i (start d i + j)) Empty ∙ ap (λ n. cond (nat_lt j (d.count i)) (own (start d i + j)) n) nothing)
      ∙ padded own (start d i) (d.count i) 0 12 (omega (arith, counts i h))
      ∙ (λ k. flat_map own (range_with_len (let w : start d i + 0 ≡ start d i = omega arith in w k) (let w : d.count i - 0 ≡ d.count i = omega arith in w k)))
      ∙ joined_same own given (start d i) (d.count i) (λ e l m. ap (λ o. what (slot_of d o e)) (sym (owner-is d d.nodes i e h l (omega (arith, start-more d i)))))

  nodes-give : (n : ℕ) → n ≤ d.nodes → flat_map (λ i. flat_map what (node_of d i)) (range_with_len 0 n) ≡ flat_map given (range_with_len 1 (start d n - 1))
  nodes-give zero h = ap (λ k. flat_map given (range_with_len 1 (k - 1))) (sym (start-zero d))
  nodes-give (suc n) h =
      let each : ℕ → List X = λ i. flat_map what (node_of d i) in
      let s = start-some d n in
      ap (flat_map each) (ap (range_with_len 0) (let w : suc n ≡ n + 1 = omega arith in w) ∙ counting-append 0 n 1)
      ∙ joined-append each (range_with_len 0 n) (range_with_len (0 + n) 1)
      ∙ (λ k. nodes-give n (omega arith) k ++ (ap (λ m. each m ++ []) (let w : 0 + n ≡ n = omega arith in w) ∙ append-nil (each n) ∙ node-gives n (omega arith)) k)
      ∙ sym (joined-append given (range_with_len 1 (start d n - 1)) (range_with_len (start d n) (d.count n)))
      ∙ ap (λ m. flat_map given (range_with_len 1 (start d n - 1) ++ range_with_len m (d.count n))) (let w : start d n ≡ 1 + (start d n - 1) = omega arith in w)
      ∙ ap (flat_map given) (sym (counting-append 1 (start d n - 1) (d.count n)))
      ∙ ap (λ m. flat_map given (range_with_len 1 m)) (let w : start d n - 1 + d.count n ≡ start d (suc n) - 1 = omega (arith, start-more d n) in w)

  -- all that the table's slots give is what the entries give, in order
  pub table-gives : flat_map (λ slots. flat_map what slots) (table_of d).nodes ≡ flat_map given (range_with_len 1 (start d d.nodes - 1))
  unfolding table_of
  table-gives = joined-map (λ slots. flat_map what slots) (node_of d) (range_with_len 0 d.nodes) ∙ nodes-give d.nodes (omega arith)
