-- What an image store shows, and what opening an image leaves.
use Rattle.std.specs.Prelude.{◌≡◌, ℕ, ◌+◌, ◌<◌, ◌≤◌, [], ◌∷◌, replicate, pos, None, vec_items, slice_index_or}
use Rattle.geometry.specs.Plane.{rect_at}
use Rattle.index.specs.declared.slot.Slot.TheVariants.{Empty}
use Rattle.index.specs.Table.{Table, node_count, node_at}
use Rattle.image.specs.declared.store.ImageStore.{ImageStore}
use Rattle.image.specs.Layout.{Image, image_of}
use Rattle.image.specs.Nodes.{start, box_of, slot_of, table_of}

-- the table of a store
abbrev pub held_table : ImageStore → Table
held_table s = table_of (image_of (vec_items s.bytes))

-- one empty leaf, whose box is the place (0, 0)
unfoldable pub empty_table : Table
empty_table = record { box = rect_at (pos 0) (pos 0) (pos 0) (pos 0); nodes = replicate 12 Empty ∷ [] }

-- the table, with no node open and the meter at 0
pub record Fresh (t : Table) (s : ImageStore) : Type 0 where
  pub table : held_table s ≡ t
  pub closed : s.openings.node ≡ None
  pub meter : s.openings.meter ≡ 0

-- a table has exactly the entries of an image: the root box, and in each node its entries in order, and nothing else
pub record HasEntries (d : Image) (t : Table) : Type 0 where
  pub root : t.box ≡ box_of d 0
  pub nodes : node_count t ≡ d.nodes
  pub entries : (i j : ℕ) → i < d.nodes → j < d.count i → slice_index_or (node_at t i) j Empty ≡ slot_of d i (start d i + j)
  pub rest : (i j : ℕ) → i < d.nodes → d.count i ≤ j → slice_index_or (node_at t i) j Empty ≡ Empty
