-- The entry that a slot of an accepted image's node holds, and the root's box.
use Rattle.std.proofs.Common.{◌≡◌, ℕ, ◌+◌, ◌<◌, false, List, get_or, is_some, Ok, ◌≢◌, ap, ◌∙◌, arith}
use Rattle.geometry.specs.Plane.{label_from, rect_from}
use Rattle.index.specs.declared.slot.Slot.TheVariants.{Empty}
use Rattle.image.specs.Layout.{image_of}
use Rattle.image.specs.Nodes.{start, node_of, table_of}
use Rattle.image.specs.Checks.{verdict}
use Rattle.image.specs.Opened.{label_slot, branch_slot}
use Rattle.image.specs.Results.{Sized}
use Rattle.image.specs.Held.{held, entry_in, leaf-slot, inner-slot, root-made}

module _ (bs : List ℕ) (n m i first j : ℕ) (sized : Sized bs n m) (fine : is_some (verdict bs 1537) ≡ false) (node : (i < n) × (first ≡ start (image_of bs) i)) (here : j < (image_of bs).count i) where
  node-there : i < (image_of bs).nodes
  node-there = omega (arith, sized.nodes, node.0)

  pub slot-there : first + j < m
  slot-there = let e = entry_in (image_of bs) (held bs fine).passed i j node-there here in omega (arith, e.0, node.1, sized.entries)

  pub slot-label : (image_of bs).level i ≡ 0 → label_slot (label_from ((image_of bs).target (first + j)) ((image_of bs).west (first + j)) ((image_of bs).south (first + j))) ≡ get_or (node_of (image_of bs) i) j Empty
  slot-label z =
      let d = image_of bs in
      ap (λ s. label_slot (label_from (d.target (s + j)) (d.west (s + j)) (d.south (s + j)))) node.1 ∙ leaf-slot d (held bs fine).passed i j node-there here z

  pub slot-branch : (image_of bs).level i ≢ 0 → branch_slot ((image_of bs).target (first + j)) (rect_from ((image_of bs).west (first + j)) ((image_of bs).south (first + j)) ((image_of bs).east (first + j)) ((image_of bs).north (first + j))) ≡ get_or (node_of (image_of bs) i) j Empty
  slot-branch u =
      let d = image_of bs in
      ap (λ s. branch_slot (d.target (s + j)) (rect_from (d.west (s + j)) (d.south (s + j)) (d.east (s + j)) (d.north (s + j)))) node.1 ∙ inner-slot d (held bs fine).passed i j node-there here u

-- the root's box, by the bytes as a reader holds them
pub root-read : (bs cs : List ℕ) → cs ≡ bs → is_some (verdict bs 1537) ≡ false → rect_from ((image_of cs).west 0) ((image_of cs).south 0) ((image_of cs).east 0) ((image_of cs).north 0) ≡ Ok (table_of (image_of bs)).box
root-read bs cs same fine = ap (λ l. rect_from ((image_of l).west 0) ((image_of l).south 0) ((image_of l).east 0) ((image_of l).north 0)) same ∙ root-made bs fine
