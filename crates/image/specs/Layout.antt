-- The numbers that an image writes.
use Rattle.std.specs.Prelude.{ℕ, ◌+◌, ◌*◌, List, ℤ, slice_index}
use Rattle.std.specs.Int.{w32}
use Rattle.std.proofs.Common.{to_z}

-- the numbers of an image: how many nodes and entries it has, each node's level and count of entries, and each entry's box and target
pub record Image : Type 0 where
  pub nodes : ℕ
  pub entries : ℕ
  pub level : ℕ → ℕ
  pub count : ℕ → ℕ
  pub west : ℕ → ℤ
  pub south : ℕ → ℤ
  pub east : ℕ → ℤ
  pub north : ℕ → ℤ
  pub target : ℕ → ℕ

-- the big-endian numbers of two and of four bytes from byte i on; the latter unsigned, and as two's complement
abbrev pub two : List ℕ → ℕ → ℕ
two bs i = slice_index bs i * 256 + slice_index bs (i + 1)

abbrev pub four : List ℕ → ℕ → ℕ
four bs i = slice_index bs i * 16777216 + slice_index bs (i + 1) * 65536 + slice_index bs (i + 2) * 256 + slice_index bs (i + 3)

abbrev pub signed : List ℕ → ℕ → ℤ
signed bs i = to_z w32 (four bs i)

-- how long an image of n nodes and m entries is
abbrev pub image_length : ℕ → ℕ → ℕ
image_length n m = 4 + 2 * n + 20 * m

-- where the box and the target of entry e begin in an image of n nodes and m entries
abbrev pub box_start : ℕ → ℕ → ℕ
box_start n e = 4 + 2 * n + 16 * e

abbrev pub target_start : ℕ → ℕ → ℕ → ℕ
target_start n m e = 4 + 2 * n + 16 * m + 4 * e

-- the image that bytes write: N and M, a level and a count for every node, M boxes, M targets
unfoldable pub image_of : List ℕ → Image
image_of bs = record {
  nodes = two bs 0;
  entries = two bs 2;
  level = λ i. slice_index bs (4 + 2 * i);
  count = λ i. slice_index bs (5 + 2 * i);
  west = λ e. signed bs (box_start (two bs 0) e);
  south = λ e. signed bs (box_start (two bs 0) e + 4);
  east = λ e. signed bs (box_start (two bs 0) e + 8);
  north = λ e. signed bs (box_start (two bs 0) e + 12);
  target = λ e. four bs (target_start (two bs 0) (two bs 2) e);
}
