-- What a failure prints, as bytes.
use Rattle.std.specs.Prelude.{ℕ, List, codes}
use Rattle.geometry.specs.Words.{line_of}
use Rattle.listing.specs.declared.failure.Failure.{Failure}
use Rattle.listing.specs.declared.failure.Failure.TheVariants.{Refused, NoMemory}

-- the line of the refusal, or that memory ran out
abbrev pub words_of : Failure → List ℕ
words_of (Refused e) = line_of e
words_of NoMemory = codes "out of memory"
