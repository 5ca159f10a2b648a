-- What the checks give, and what each of them takes for granted.
use Rattle.std.specs.Prelude.{◌≡◌, ℕ, ◌<◌, ◌≤◌, Bool, not, ◌&&◌, List, [], ◌∷◌, map, length, take, is_some, Some, None, Ok, Err, filter, Option, Result, ◌==◌, nat_le, nat_lt, slice_index, slice_index_or, zero, suc}
use Rattle.std.specs.List.{range_with_len}
use Rattle.queue.specs.Order.{sorted}
use Rattle.queue.specs.Shape.{Heap}
use Rattle.std.specs.Option.{option_map}
use Rattle.geometry.specs.declared.refusal.Refusal.{Refusal}
use Rattle.geometry.specs.declared.refusal.Reason.TheVariants.{BadLength, BadSize, BadBox, BadTarget, OutsideBox, BadNumber, ShortWorkList}
use Rattle.geometry.specs.Refusals.{refusal}
use Rattle.geometry.specs.Plane.{spanning}
use Rattle.image.specs.Layout.{Image, image_length, image_of}
use Rattle.image.specs.Nodes.{start, owner, is_leaf_entry, leader_below, label_numbers}
use Rattle.image.specs.Checks.{first_bad, unless, at_first, sizes_fine, node_fine, box_fine, target_fine, target_reason, led_to, inside_fine, smallest_repeated, first_of}

-- a refusal, or none, as a call tells it
abbrev pub as_result : Option Refusal → Result (Unit {0}) Refusal
as_result None = Ok tt
as_result (Some r) = Err r

-- the bytes say that there are n nodes and m entries, in range, and are as long as that asks for
pub record Sized (bs : List ℕ) (n m : ℕ) : Type 0 where
  pub nodes : n ≡ (image_of bs).nodes
  pub entries : m ≡ (image_of bs).entries
  pub some : (1 ≤ n) × (1 ≤ m)
  pub few : (n ≤ 128) × (m ≤ 1537)
  pub whole : length bs ≡ image_length n m

-- a list has the node of each entry from 1 to m - 1
pub record Owned (bs os : List ℕ) (n m : ℕ) : Type 0 where
  pub enough : m ≤ length os
  pub each : (e : ℕ) → 1 ≤ e → e < m → slice_index os e ≡ owner (image_of bs) e
  pub below : (e : ℕ) → 1 ≤ e → e < m → slice_index os e < n

-- an entry that leads, or none for entry 0, which is no branch
abbrev pub leading : ℕ → Option ℕ
leading zero = None
leading (suc e) = Some (suc e)

-- a list has for each node the entry below e that leads to it, if one does
pub record Led (bs : List ℕ) (ls : List (Option ℕ)) (e : ℕ) : Type 0 where
  pub enough : length ls ≡ 128
  pub each : (k : ℕ) → k < 128 → slice_index_or ls k None ≡ leading (leader_below (image_of bs) e k)

-- an entry leads to a node greater than its own, one level lower
abbrev pub leads_down : Image → ℕ → Bool
leads_down d e = nat_lt (owner d e) (d.target e) && nat_lt (d.target e) d.nodes && suc (d.level (d.target e)) == d.level (owner d e)

-- the numbers of the labels among the first e entries
unfoldable pub numbers_below : Image → ℕ → List ℕ
numbers_below d e = map d.target (filter (is_leaf_entry d) (range_with_len 0 e))

-- the first n items are a queue of these numbers
pub record Queued (ns items : List ℕ) (n : ℕ) : Type 0 where
  pub long : n ≡ length ns
  pub within : n ≤ length items
  pub shape : Heap nat_lt items n
  pub contents : sorted nat_lt (take n items) ≡ sorted nat_lt ns

-- the box of entry e lies in that of entry b
abbrev pub inside_of : Image → ℕ → ℕ → Bool
inside_of d b e = spanning (d.west b) (d.east b) (d.west e) (d.east e) && spanning (d.south b) (d.north b) (d.south e) (d.north e)

-- N from 1 to 128, M from 1 to 1,537
abbrev pub in_size : ℕ → ℕ → Bool
in_size n m = nat_le 1 n && nat_le n 128 && nat_le 1 m && nat_le m 1537

-- the checks of the header, of what leads to a node, of the branches, and those of the tree, the entries and the nodes and all after them, with N and M by themselves
abbrev pub header_verdict : List ℕ → Option Refusal
header_verdict bs = first_of (
    unless (nat_le 4 (length bs)) (refusal BadLength (length bs))
    ∷ unless (sizes_fine (image_of bs)) (refusal BadSize 0)
    ∷ unless (length bs == image_length (image_of bs).nodes (image_of bs).entries) (refusal BadLength (length bs))
    ∷ [])

abbrev pub lead_checks : Image → ℕ → ℕ → List (Option Refusal)
lead_checks d n m =
    unless (not (is_some (first_bad (led_to d) n))) (refusal BadTarget m)
    ∷ at_first (first_bad (inside_fine d) m) (λ _. OutsideBox)
    ∷ []

abbrev pub branch_checks : Image → ℕ → ℕ → List (Option Refusal)
branch_checks d n m = at_first (first_bad (target_fine d) m) (target_reason d) ∷ lead_checks d n m

abbrev pub tree_checks : Image → ℕ → ℕ → List (Option Refusal)
tree_checks d n m =
    at_first (first_bad (target_fine d) m) (target_reason d)
    ∷ unless (not (is_some (first_bad (led_to d) n))) (refusal BadTarget m)
    ∷ at_first (first_bad (inside_fine d) m) (λ _. OutsideBox)
    ∷ option_map (refusal BadNumber) (smallest_repeated (label_numbers d))
    ∷ []

abbrev pub entry_checks : Image → ℕ → ℕ → ℕ → List (Option Refusal)
entry_checks d n m room =
    unless (nat_le (length (label_numbers d)) room) (refusal ShortWorkList (length (label_numbers d)))
    ∷ at_first (first_bad (box_fine d) m) (λ _. BadBox)
    ∷ tree_checks d n m

abbrev pub node_checks : Image → ℕ → ℕ → ℕ → List (Option Refusal)
node_checks d n m room =
    at_first (first_bad (node_fine d) n) (λ _. BadSize)
    ∷ unless (start d n == m) (refusal BadSize n)
    ∷ entry_checks d n m room
