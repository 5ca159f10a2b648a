-- How far a search goes.
use Rattle.std.specs.Prelude.{ℕ, ◌-◌, Bool, true, not, List, [], ◌∷◌, drop}
use Rattle.neighbours.specs.declared.limit.Limit.{Limit}
use Rattle.neighbours.specs.declared.limit.Limit.TheVariants.{Anywhere, UpTo, Before}

-- the limit goes as far as d
abbrev pub admits : {D : Type 0} → (D → D → Bool) → Limit D → D → Bool
admits lt Anywhere d = true
admits lt (UpTo last) d = not (lt last d)
admits lt (Before end) d = lt d end

-- up to the first of these distances, or anywhere if there is none
abbrev pub up_to_first : {D : Type 0} → List D → Limit D
up_to_first [] = Anywhere
up_to_first (d ∷ ds) = UpTo d

-- up to the k-th of the distances that have come, or anywhere as long as fewer have
abbrev pub limit_of : {D : Type 0} → ℕ → List D → Limit D
limit_of k ds = up_to_first (drop (k - 1) ds)
