-- What an image must obey, in the words of the layout and of the tree.
use Rattle.std.specs.Prelude.{◌≡◌, ℕ, suc, ◌<◌, ◌≤◌, true, List, length}
use Rattle.geometry.specs.Plane.{numbered, span}
use Rattle.index.specs.Laws.{Lawful}
use Rattle.image.specs.Layout.{Image, image_length, image_of}
use Rattle.image.specs.Nodes.{start, owner, is_leaf_entry, is_branch, table_of}

-- sizes, levels and counts are in range and agree with the length; every entry has an upright box on the map, a leaf's a single place, and the target that its kind asks for
pub record Layout (d : Image) (size : ℕ) : Type 0 where
  pub enough : 4 ≤ size
  pub nodes : (1 ≤ d.nodes) × (d.nodes ≤ 128)
  pub entries : (1 ≤ d.entries) × (d.entries ≤ 1537)
  pub whole : size ≡ image_length d.nodes d.entries
  pub levels : (i : ℕ) → i < d.nodes → d.level i ≤ 7
  pub counts : (i : ℕ) → i < d.nodes → d.count i ≤ 12
  pub sum : start d d.nodes ≡ d.entries
  pub boxes : (e : ℕ) → e < d.entries → (span (d.west e) (d.east e) ≡ true) × (span (d.south e) (d.north e) ≡ true)
  pub places : (e : ℕ) → e < d.entries → is_leaf_entry d e ≡ true → (d.west e ≡ d.east e) × (d.south e ≡ d.north e)
  pub root : d.target 0 ≡ 0
  pub numbers : (e : ℕ) → e < d.entries → is_leaf_entry d e ≡ true → numbered (d.target e) ≡ true

-- its table is lawful, and every branch leads one level down
pub record Tree (d : Image) : Type 0 where
  pub lawful : Lawful (table_of d)
  pub levels : (e : ℕ) → e < d.entries → is_branch d e ≡ true → suc (d.level (d.target e)) ≡ d.level (owner d e)

-- the bytes obey the layout and the tree rules
pub record Obeys (bs : List ℕ) : Type 0 where
  pub layout : Layout (image_of bs) (length bs)
  pub tree : Tree (image_of bs)
