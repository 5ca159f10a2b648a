-- What a query tells and leaves.
use Rattle.std.specs.Prelude.{ℕ, min, Bool, cond, ◌&&◌, List, ◌++◌, length, take, drop, ℤ, Some, None, Ok, Err, Option, Result, nat_le}
use Rattle.geometry.specs.declared.refusal.Refusal.{Refusal}
use Rattle.geometry.specs.declared.refusal.Reason.TheVariants.{ShortWorkList, ShortAnswerList, BadCount, BadPlace}
use Rattle.geometry.specs.Refusals.{refusal}
use Rattle.geometry.specs.Plane.{in_range}
use Rattle.listing.specs.Lists.{counted}
use Rattle.index.specs.Table.{Table}
use Rattle.neighbours.specs.declared.told.Told.{Told}
use Rattle.neighbours.specs.Scene.{work_places}

-- the refusal of a query, if it is refused before it searches: of a count, then of the place, then of the shortest work
-- list, with the length that it needs
abbrev pub refused : Bool → ℤ → ℤ → ℕ → ℕ → Option Refusal
refused counts x y needed shortest = cond counts (cond (in_range x && in_range y) (cond (nat_le needed shortest) None (Some (refusal ShortWorkList needed))) (Some (refusal BadPlace 0))) (Some (refusal BadCount 0))

abbrev pub refused_nearest : Table → ℤ → ℤ → ℕ → ℕ → Option Refusal
refused_nearest t x y k work = refused (counted k) x y (work_places t) work

abbrev pub refused_mutual : Table → ℤ → ℤ → ℕ → ℕ → ℕ → ℕ → Option Refusal
refused_mutual t x y k1 k2 work second = refused (counted k1 && counted k2) x y (work_places t) (min work second)

-- what a query tells that has the answers ns and opens that many nodes, where there are places for answers
abbrev pub outcome : Option Refusal → List ℕ → ℕ → ℕ → Result Told Refusal
outcome (Some e) ns opened places = Err e
outcome None ns opened places = cond (nat_le (length ns) places) (Ok (record { count = length ns; opened = opened })) (Err (refusal ShortAnswerList 0))

-- the answer list after a query: as it was where it is refused before it searches, and else filled from the front
abbrev pub filled : Option Refusal → List ℕ → List ℕ → List ℕ
filled (Some e) ns before = before
filled None ns before = take (length before) ns ++ drop (length ns) before
