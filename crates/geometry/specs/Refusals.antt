-- The numbers of the refusals.
use Rattle.std.specs.Prelude.{ℕ}
use Rattle.geometry.specs.declared.refusal.Reason.{Reason}
use Rattle.geometry.specs.declared.refusal.Reason.TheVariants.{BadLength, BadSize, BadBox, BadTarget, OutsideBox, BadNumber, ShortWorkList, ShortAnswerList, BadCount, BadPlace, NumberPresent, NumberAbsent, TwelveHeld, EditClosed, NoSuchNode, MeterAtEnd}
use Rattle.geometry.specs.declared.refusal.Refusal.{Refusal}

-- the number that stands for a reason
abbrev pub number_of : Reason → ℕ
number_of BadLength = 1
number_of BadSize = 2
number_of BadBox = 3
number_of BadTarget = 4
number_of OutsideBox = 5
number_of BadNumber = 6
number_of ShortWorkList = 7
number_of ShortAnswerList = 8
number_of BadCount = 9
number_of BadPlace = 10
number_of NumberPresent = 11
number_of NumberAbsent = 12
number_of TwelveHeld = 13
number_of EditClosed = 14
number_of NoSuchNode = 15
number_of MeterAtEnd = 16

-- a refusal by its reason and place
abbrev pub refusal : Reason → ℕ → Refusal
refusal r n = record { reason = r; place = n }
