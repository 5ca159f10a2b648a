-- The calls of a rehearsal.
use Rattle.std.specs.Prelude.{ℕ, List, [], ◌∷◌, ℤ, Some, Result}
use Rattle.geometry.specs.declared.refusal.Refusal.{Refusal}
use Rattle.neighbours.specs.declared.told.Told.{Told}
use Rattle.neighbours.specs.Ranking.{Ranking}
use Rattle.runs.specs.Runs.{Call, opening, adding, withdrawing, asking_mutual, cancelling}

-- adding label n at x and y; in an edit over that, withdrawing number gone, and asking who is near to the label's place
-- and it to them; cancelling both
abbrev pub rehearsed : Ranking → ℕ → ℤ → ℤ → ℕ → ℕ → ℕ → ℕ → ℕ → List ℕ → List ℕ → Result (Unit {0}) Refusal → Result (Unit {0}) Refusal → Result Told Refusal → List Call
rehearsed near n x y gone k1 k2 work second before after added withdrawn told =
    adding n x y added
    ∷ opening
    ∷ withdrawing gone withdrawn
    ∷ asking_mutual k1 k2 work second (record { near = near; x = x; y = y; own = Some n; list = before }) (record { told = told; list = after })
    ∷ cancelling
    ∷ cancelling
    ∷ []
