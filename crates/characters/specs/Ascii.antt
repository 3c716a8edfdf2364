-- The leading bytes below 80 of a text. Assumes nothing.
-- Serves contracts: nothing here has to be believed.
use Rattle.std.specs.Prelude.{ℕ, suc, cond, List, [], ◌∷◌, ltb}

-- how many bytes below 80 lead the text
unfoldable pub ascii_length : List ℕ → ℕ
ascii_length [] = 0
ascii_length (b ∷ s) = cond (ltb b 0x80) (suc (ascii_length s)) 0
