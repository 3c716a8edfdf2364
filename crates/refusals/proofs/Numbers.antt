-- No refusal has the number 0, which stands for none. Assumes nothing.
use mathlib.Core.Path.{◌≡◌}
use native.Mathlib.Omega.{arith}
use Rattle.refusals.specs.declared.Refusal.{Refusal}
use Rattle.refusals.specs.declared.Refusal.TheVariants.{Length, Edition, FrameSize, Count, Layout, Font, MappingIllFormed, MappingTooLong, Item, TextIllFormed, FrameLength, NoSuch, NewTextTooLong, NewTextIllFormed, Place, Style, OutputTooShort, Whitespace, BdfLine, BdfLimit, BdfEncoding, List}
use Rattle.refusals.specs.Numbers.{number}

pub not_zero : (r : Refusal) → number r ≡ 0 → ⊥
not_zero Length h = omega arith
not_zero Edition h = omega arith
not_zero FrameSize h = omega arith
not_zero Count h = omega arith
not_zero Layout h = omega arith
not_zero Font h = omega arith
not_zero MappingIllFormed h = omega arith
not_zero MappingTooLong h = omega arith
not_zero Item h = omega arith
not_zero TextIllFormed h = omega arith
not_zero FrameLength h = omega arith
not_zero NoSuch h = omega arith
not_zero NewTextTooLong h = omega arith
not_zero NewTextIllFormed h = omega arith
not_zero Place h = omega arith
not_zero Style h = omega arith
not_zero OutputTooShort h = omega arith
not_zero Whitespace h = omega arith
not_zero BdfLine h = omega arith
not_zero BdfLimit h = omega arith
not_zero BdfEncoding h = omega arith
not_zero List h = omega arith
