-- What a reason and a refusal print, as bytes.
use Rattle.std.specs.Prelude.{ℕ, List, ◌++◌, codes, decimal}
use Rattle.geometry.specs.declared.refusal.Reason.{Reason}
use Rattle.geometry.specs.declared.refusal.Reason.TheVariants.{BadLength, BadSize, BadBox, BadTarget, OutsideBox, BadNumber, ShortWorkList, ShortAnswerList, BadCount, BadPlace, NumberPresent, NumberAbsent, TwelveHeld, EditClosed, NoSuchNode, MeterAtEnd}
use Rattle.geometry.specs.declared.refusal.Refusal.{Refusal}
use Rattle.geometry.specs.Refusals.{number_of}

-- a reason in words
abbrev pub words_of : Reason → List ℕ
words_of BadLength = codes "the image has a wrong length"
words_of BadSize = codes "a size is out of range"
words_of BadBox = codes "a box is not upright, out of range, or not one place"
words_of BadTarget = codes "a target breaks the tree rules"
words_of OutsideBox = codes "an entry lies outside its node's box"
words_of BadNumber = codes "a number is out of range or occurs twice"
words_of ShortWorkList = codes "a work list is too short"
words_of ShortAnswerList = codes "there are more answers than places"
words_of BadCount = codes "a count is out of range"
words_of BadPlace = codes "a place is out of range"
words_of NumberPresent = codes "the number is in the plan already"
words_of NumberAbsent = codes "the number is not in the plan"
words_of TwelveHeld = codes "twelve are held already"
words_of EditClosed = codes "the edit is closed"
words_of NoSuchNode = codes "there is no such node"
words_of MeterAtEnd = codes "the meter is at its end"

-- the line of a refusal
abbrev pub line_of : Refusal → List ℕ
line_of r = codes "refused " ++ (decimal (number_of r.reason) ++ (codes " at " ++ (decimal r.place ++ (codes ": " ++ words_of r.reason))))
