-- What opening a node does, by how many nodes there are, the node's number and the meter.
use Rattle.std.specs.Prelude.{ℕ, ◌+◌, Bool, cond, ◌&&◌, Some, Ok, Err, Option, Result, nat_lt}
use Rattle.geometry.specs.declared.refusal.Refusal.{Refusal}
use Rattle.geometry.specs.declared.refusal.Reason.TheVariants.{NoSuchNode, MeterAtEnd}
use Rattle.geometry.specs.Refusals.{refusal}
use Rattle.index.specs.Table.{Table, node_count}

-- among n nodes: refused if there is no such node, then if the meter is at its end
abbrev pub result_among : ℕ → ℕ → ℕ → Result (Unit {0}) Refusal
result_among n i m = cond (nat_lt i n) (cond (nat_lt m 2000000) (Ok tt) (Err (refusal MeterAtEnd 0))) (Err (refusal NoSuchNode 0))

-- it is accepted
abbrev pub opens_among : ℕ → ℕ → ℕ → Bool
opens_among n i m = nat_lt i n && nat_lt m 2000000

-- the node open then, and the meter
abbrev pub node_among : ℕ → ℕ → ℕ → Option ℕ → Option ℕ
node_among n i m o = cond (opens_among n i m) (Some i) o

abbrev pub meter_among : ℕ → ℕ → ℕ → ℕ
meter_among n i m = cond (opens_among n i m) (m + 1) m

-- the same among the nodes of a table
abbrev pub open_result : Table → ℕ → ℕ → Result (Unit {0}) Refusal
open_result t = result_among (node_count t)

abbrev pub opens : Table → ℕ → ℕ → Bool
opens t = opens_among (node_count t)

abbrev pub open_node : Table → ℕ → ℕ → Option ℕ → Option ℕ
open_node t = node_among (node_count t)

abbrev pub open_meter : Table → ℕ → ℕ → ℕ
open_meter t = meter_among (node_count t)
