-- Which numbers a list of labels has.
use Rattle.std.specs.Prelude.{ℕ, Bool, true, not, ◌&&◌, List, [], ◌∷◌, ◌==◌}
use Rattle.std.specs.List.{list_any}
use Rattle.geometry.specs.declared.label.Label.{Label}

-- one of the labels has the number n
abbrev pub present : ℕ → List Label → Bool
present n = list_any (λ l. l.number == n)

-- no number occurs twice
abbrev pub distinct : List Label → Bool
distinct [] = true
distinct (l ∷ ls) = not (present l.number ls) && distinct ls
