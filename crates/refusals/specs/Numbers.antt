-- The number of each refusal (docs/REFUSALS.md), and of what a function gives that may refuse. Assumes nothing.
-- To be believed: it says what a sheet means.
use Rattle.std.specs.Prelude.{ℕ, Result, Ok, Err}
use Rattle.refusals.specs.declared.Refusal.{Refusal}
use Rattle.refusals.specs.declared.Refusal.TheVariants.{Length, Edition, FrameSize, Count, Layout, Font, MappingIllFormed, MappingTooLong, Item, TextIllFormed, FrameLength, NoSuch, NewTextTooLong, NewTextIllFormed, Place, Style, OutputTooShort, Whitespace, BdfLine, BdfLimit, BdfEncoding, List}

abbrev pub number : Refusal → ℕ
number Length = 1
number Edition = 2
number FrameSize = 3
number Count = 4
number Layout = 5
number Font = 6
number MappingIllFormed = 7
number MappingTooLong = 8
number Item = 9
number TextIllFormed = 10
number FrameLength = 11
number NoSuch = 12
number NewTextTooLong = 13
number NewTextIllFormed = 14
number Place = 15
number Style = 16
number OutputTooShort = 17
number Whitespace = 18
number BdfLine = 19
number BdfLimit = 20
number BdfEncoding = 21
number List = 22

-- the number of the refusal, or 0 where nothing is refused
abbrev pub refusal_of : {A : Type 0} → Result A Refusal → ℕ
refusal_of (Ok x) = 0
refusal_of (Err r) = number r
