-- Characters that rise, as the ENCODING values of a font file do. Assumes nothing.
-- Serves contracts: nothing here has to be believed.
use Rattle.std.specs.Prelude.{ℕ, ◌+◌, Bool, true, not, ◌&&◌, List, [], ◌∷◌, leb}
use Rattle.characters.specs.Utf8.{is_surrogate}

-- characters that rise, from `least` on
unfoldable pub are_rising : ℕ → List ℕ → Bool
are_rising least [] = true
are_rising least (v ∷ vs) = (leb least v && (leb v 0x10FFFF && not (is_surrogate v))) && are_rising (v + 1) vs
