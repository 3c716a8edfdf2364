-- What is left of a line after its first word, as the functions read it: where it begins, and its words. Assumes nothing.
-- Serves contracts: nothing here has to be believed.
use Rattle.std.specs.Prelude.{ℕ, suc, ◌+◌, Bool, true, false, cond, List, [], ◌∷◌, drop, Option, Some, None}
use Rattle.bdf_lines.specs.declared.values.Number.{Number}
use Rattle.bdf_lines.specs.Words.{is_blank, same, number_of, are_hex, hex_from}

-- how many blanks lead a line
unfoldable pub blanks : List ℕ → ℕ
blanks [] = 0
blanks (b ∷ s) = cond (is_blank b) (suc (blanks s)) 0

-- how many bytes that are no blanks lead a line
unfoldable pub letters : List ℕ → ℕ
letters [] = 0
letters (b ∷ s) = cond (is_blank b) 0 (suc (letters s))

-- the position after the first word from a position on
unfoldable pub word_end : List ℕ → ℕ → ℕ
word_end l at = let from = at + blanks (drop at l) in from + letters (drop from l)

abbrev pub is_none : List (List ℕ) → Bool
is_none [] = true
is_none (w ∷ ws) = false

-- the words after the first, if it is k
unfoldable pub after_word : List ℕ → List (List ℕ) → Option (List (List ℕ))
after_word k [] = None
after_word k (w ∷ ws) = cond (same w k) (Some ws) None

abbrev pub number_before : Option Number → List (List ℕ) → Option (Number × List (List ℕ))
number_before (Some n) ws = Some (n, ws)
number_before None ws = None

-- the number that is the first word, and the words after it
unfoldable pub first_number : List (List ℕ) → Option (Number × List (List ℕ))
first_number [] = None
first_number (w ∷ ws) = number_before (number_of w) ws

-- hexadecimal digits as a number
unfoldable pub hex_of : List ℕ → Option ℕ
hex_of s = cond (are_hex s) (Some (hex_from 0 s)) None
