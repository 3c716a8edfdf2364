-- What the programs write of a rectangle and of a fault. Assumes nothing.
-- Serves contracts: nothing here has to be believed.
use Rattle.std.specs.Prelude.{ℕ, List, ◌∷◌, ◌++◌, codes}
use Rattle.std.specs.Fmt.{decimal, signed_decimal}
use Rattle.programs.specs.declared.Fault.{Fault}
use Rattle.programs.specs.declared.Sides.{Sides}
use Rattle.programs.specs.declared.Fault.TheVariants.{Refused, TooShort, TooLong}

-- left, top, width and height in decimal, with a blank between two of them
abbrev pub sides : Sides → List ℕ
sides r = signed_decimal r.left ++ 32 ∷ signed_decimal r.top ++ 32 ∷ decimal r.width ++ 32 ∷ decimal r.height

-- a refusal with its number, or what is wrong with the input
abbrev pub words : Fault → List ℕ
words (Refused code) = codes "refused " ++ decimal code
words TooShort = codes "too short"
words TooLong = codes "too long"
