-- Links: two labels of a plan of which each answers the other.
use Rattle.std.specs.Prelude.{◌≡◌, ℕ, ◌+◌, Bool, false, cond, ◌||◌, List, [], ◌∷◌, Some, ◌==◌, ◌≢◌}
use Rattle.std.specs.List.{ContainsAt as Has}
use Rattle.geometry.specs.declared.label.Label.{Label}
use Rattle.index.specs.Table.{Table, plan}
use Rattle.neighbours.specs.Ranking.{Ranking}
use Rattle.neighbours.specs.Neighbours.{mutual_answers}

-- the number is among those listed
abbrev pub among : ℕ → List ℕ → Bool
among n [] = false
among n (m ∷ ms) = m == n || among n ms

-- label p answers label q under k and m: it is among the answers of the mutual query at q's place without q itself
unfoldable pub answers : Ranking → Table → ℕ → ℕ → Label → Label → Bool
answers near t k m p q = among p.number (mutual_answers near t q.place (Some q.number) k m)

-- at how many of its two ends a link of p and q shows: at q's under k and m, at p's under m and k
unfoldable pub ends : Ranking → Table → ℕ → ℕ → Label → Label → ℕ
ends near t k m p q = cond (answers near t k m p q) 1 0 + cond (answers near t m k q p) 1 0

-- of any two labels of the plan each answers the other or neither does, so that a link never shows at one end alone
pub record Links (near : Ranking) (t : Table) : Type 0 where
  pub both : (p q : Label) (k m : ℕ) → Has (plan t) p → Has (plan t) q → answers near t k m p q ≡ answers near t m k q p
  pub never-one : (p q : Label) (k m : ℕ) → Has (plan t) p → Has (plan t) q → ends near t k m p q ≢ 1
