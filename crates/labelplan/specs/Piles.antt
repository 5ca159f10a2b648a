-- Piles of edits.
use Rattle.std.specs.Prelude.{Bool, true, false, List, [], ◌∷◌}
use Rattle.index.specs.Frames.{Frame}

-- an edit is open where layers of changes lie beneath
abbrev pub has_edit : List Frame → Bool
has_edit [] = false
has_edit (f ∷ fs) = true
