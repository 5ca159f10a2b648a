-- What adding a label and withdrawing a number give, over a table with a layer of changes.
use Rattle.std.specs.Prelude.{ℕ, cond, ◌&&◌, [], ◌∷◌, ◌++◌, length, ℤ, Some, Ok, Err, Result, nat_le}
use Rattle.geometry.specs.declared.refusal.Refusal.{Refusal}
use Rattle.geometry.specs.declared.refusal.Reason.TheVariants.{BadNumber, BadPlace, NumberPresent, NumberAbsent, TwelveHeld, EditClosed}
use Rattle.geometry.specs.Refusals.{refusal}
use Rattle.geometry.specs.Plane.{in_range, numbered, label_at}
use Rattle.geometry.specs.Numbers.{present}
use Rattle.index.specs.Table.{Table, plan}
use Rattle.index.specs.Frames.{Layer}
use Rattle.neighbours.specs.Neighbours.{others}
use Rattle.runs.specs.Layers.{closed, shown}

-- adding label n at x and y: refused if the edit is closed, then for the number, the place, a number in the plan, and
-- where twelve are added
abbrev pub add_result : Table → Layer → ℕ → ℤ → ℤ → Result (Unit {0}) Refusal
add_result u l n x y =
    cond (closed u) (Err (refusal EditClosed 0))
    (cond (numbered n) (cond (in_range x && in_range y)
    (cond (present n (plan (shown l u))) (Err (refusal NumberPresent 0))
    (cond (nat_le 12 (length l.added)) (Err (refusal TwelveHeld 0)) (Ok tt)))
    (Err (refusal BadPlace 0))) (Err (refusal BadNumber 0)))

-- the layer after it: with the label last, or as it was
abbrev pub add_layer : Layer → ℕ → ℤ → ℤ → Result (Unit {0}) Refusal → Layer
add_layer l n x y (Ok u) = record { added = l.added ++ label_at n x y ∷ []; withdrawn = l.withdrawn }
add_layer l n x y (Err e) = l

-- withdrawing number n: refused if the edit is closed, then where the plan has no such number, and where twelve below are
-- withdrawn, unless the label is an added one
abbrev pub withdraw_result : Table → Layer → ℕ → Result (Unit {0}) Refusal
withdraw_result u l n =
    cond (closed u) (Err (refusal EditClosed 0))
    (cond (present n (plan (shown l u)))
    (cond (present n l.added) (Ok tt)
    (cond (nat_le 12 (length l.withdrawn)) (Err (refusal TwelveHeld 0)) (Ok tt)))
    (Err (refusal NumberAbsent 0)))

-- the layer without the label: an added one is dropped, and one below is withdrawn
abbrev pub without : Layer → ℕ → Layer
without l n = cond (present n l.added)
    (record { added = others (Some n) l.added; withdrawn = l.withdrawn })
    (record { added = l.added; withdrawn = l.withdrawn ++ n ∷ [] })

-- the layer after it
abbrev pub withdraw_layer : Layer → ℕ → Result (Unit {0}) Refusal → Layer
withdraw_layer l n (Ok u) = without l n
withdraw_layer l n (Err e) = l
