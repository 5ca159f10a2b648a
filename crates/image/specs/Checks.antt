-- The checks of an image, in their order, and the verdict.
use Rattle.std.specs.Prelude.{ℕ, zero, suc, Bool, true, cond, not, ◌&&◌, ltb, List, [], ◌∷◌, length, is_some, Some, None, Option, ◌==◌, int_le, nat_le, nat_lt}
use Rattle.std.specs.Option.{option_map}
use Rattle.queue.specs.Order.{sorted}
use Rattle.geometry.specs.declared.refusal.Refusal.{Refusal}
use Rattle.geometry.specs.declared.refusal.Reason.{Reason}
use Rattle.geometry.specs.declared.refusal.Reason.TheVariants.{BadLength, BadSize, BadBox, BadTarget, OutsideBox, BadNumber, ShortWorkList}
use Rattle.geometry.specs.Refusals.{refusal}
use Rattle.geometry.specs.Plane.{numbered, span, spanning}
use Rattle.image.specs.Layout.{Image, image_length, image_of}
use Rattle.image.specs.Nodes.{is_leaf, start, owner, is_leaf_entry, leader_below, leader, label_numbers}

-- the first index below n that fails a test, if one does
unfoldable pub first_bad : (ℕ → Bool) → ℕ → Option ℕ
first_bad f zero = None
first_bad f (suc n) = elim (first_bad f n) [ Some i ↦ Some i | None ↦ cond (f n) None (Some n) ]

-- a check that refuses where a test fails, and one that refuses at the first index that fails
abbrev pub unless : Bool → Refusal → Option Refusal
unless b r = cond b None (Some r)

abbrev pub at_first : Option ℕ → (ℕ → Reason) → Option Refusal
at_first None why = None
at_first (Some i) why = Some (refusal (why i) i)

-- N from 1 to 128, M from 1 to 1,537
abbrev pub sizes_fine : Image → Bool
sizes_fine d = nat_le 1 d.nodes && nat_le d.nodes 128 && nat_le 1 d.entries && nat_le d.entries 1537

-- a node's level is at most 7 and its count at most 12
abbrev pub node_fine : Image → ℕ → Bool
node_fine d i = nat_le (d.level i) 7 && nat_le (d.count i) 12

-- a box is upright and in range, and a leaf entry's is one place
abbrev pub box_fine : Image → ℕ → Bool
box_fine d e = span (d.west e) (d.east e) && span (d.south e) (d.north e)
    && cond (is_leaf_entry d e) (int_le (d.east e) (d.west e) && int_le (d.north e) (d.south e)) true

-- a branch leads to a node greater than its own, one level lower, that nothing led to before
abbrev pub branch_fine : Image → ℕ → Bool
branch_fine d e = nat_lt (owner d e) (d.target e) && nat_lt (d.target e) d.nodes && suc (d.level (d.target e)) == d.level (owner d e)
    && leader_below d e (d.target e) == 0

-- entry 0 has target 0, a leaf entry a label number, and a branch a node
abbrev pub target_fine : Image → ℕ → Bool
target_fine d zero = d.target 0 == 0
target_fine d (suc e) = cond (is_leaf d (owner d (suc e))) (numbered (d.target (suc e))) (branch_fine d (suc e))

abbrev pub target_reason : Image → ℕ → Reason
target_reason d e = cond (is_leaf_entry d e) BadNumber BadTarget

-- node k but the root is led to
abbrev pub led_to : Image → ℕ → Bool
led_to d zero = true
led_to d (suc k) = not (leader d (suc k) == 0)

-- an entry but entry 0 lies inside its node's box
abbrev pub inside_fine : Image → ℕ → Bool
inside_fine d zero = true
inside_fine d (suc e) = let b = leader d (owner d (suc e)) in
    spanning (d.west b) (d.east b) (d.west (suc e)) (d.east (suc e)) && spanning (d.south b) (d.north b) (d.south (suc e)) (d.north (suc e))

-- of numbers in order, from n on, the first that is the next one too
abbrev pub repeated_from : ℕ → List ℕ → Option ℕ
repeated_from n [] = None
repeated_from n (m ∷ ns) = cond (n == m) (Some n) (repeated_from m ns)

abbrev pub repeated_in : List ℕ → Option ℕ
repeated_in [] = None
repeated_in (n ∷ ns) = repeated_from n ns

-- the smallest number that occurs twice, if one does
abbrev pub smallest_repeated : List ℕ → Option ℕ
smallest_repeated ns = repeated_in (sorted ltb ns)

-- the first refusal of a list of checks
abbrev pub first_of : List (Option Refusal) → Option Refusal
first_of [] = None
first_of (None ∷ checks) = first_of checks
first_of (Some r ∷ checks) = Some r

-- the checks of an image of this length, with a number list of so many places
unfoldable pub checks : Image → ℕ → ℕ → List (Option Refusal)
checks d size room =
    unless (nat_le 4 size) (refusal BadLength size)
    ∷ unless (sizes_fine d) (refusal BadSize 0)
    ∷ unless (size == image_length d.nodes d.entries) (refusal BadLength size)
    ∷ at_first (first_bad (node_fine d) d.nodes) (λ _. BadSize)
    ∷ unless (start d d.nodes == d.entries) (refusal BadSize d.nodes)
    ∷ unless (nat_le (length (label_numbers d)) room) (refusal ShortWorkList (length (label_numbers d)))
    ∷ at_first (first_bad (box_fine d) d.entries) (λ _. BadBox)
    ∷ at_first (first_bad (target_fine d) d.entries) (target_reason d)
    ∷ unless (not (is_some (first_bad (led_to d) d.nodes))) (refusal BadTarget d.entries)
    ∷ at_first (first_bad (inside_fine d) d.entries) (λ _. OutsideBox)
    ∷ option_map (refusal BadNumber) (smallest_repeated (label_numbers d))
    ∷ []

-- the refusal of an image, if it is refused
abbrev pub verdict : List ℕ → ℕ → Option Refusal
verdict bs room = first_of (checks (image_of bs) (length bs) room)
