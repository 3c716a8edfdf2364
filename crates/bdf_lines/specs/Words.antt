-- The words of a line of a font file, and its numbers (docs/SHEET.md, Fonts from BDF). Assumes nothing.
-- To be believed: it says what a font file means.
use Rattle.std.specs.Prelude.{ℕ, zero, suc, ◌+◌, ◌-◌, ◌*◌, ◌/◌, ◌^◌, min, Bool, true, false, not, cond, ◌&&◌, ◌||◌, List, [], ◌∷◌, length, Option, Some, None, ltb, leb, eqb}
use Rattle.characters.specs.Lines.{before}
use Rattle.bdf_lines.specs.declared.values.Number.{Number}
use Rattle.bdf_lines.specs.declared.values.Four.{Four}

-- ---- words

-- "Words stand between blanks (20 and 09)"
unfoldable pub is_blank : ℕ → Bool
is_blank b = eqb b 0x20 || eqb b 0x09

-- whether a word begins at the first byte
unfoldable pub begins_word : List ℕ → Bool
begins_word [] = false
begins_word (b ∷ s) = not (is_blank b)

-- the words of a line; a byte that is no blank goes before the word that begins after it, or is one by itself
unfoldable pub words : List ℕ → List (List ℕ)
words [] = []
words (b ∷ s) = cond (is_blank b) (words s) (cond (begins_word s) (before b (words s)) ((b ∷ []) ∷ words s))

-- whether two words are the same
unfoldable pub same : List ℕ → List ℕ → Bool
same [] [] = true
same [] (b ∷ t) = false
same (a ∷ s) [] = false
same (a ∷ s) (b ∷ t) = eqb a b && same s t

-- ---- lines of words: "A keyword is a whole word"

-- the keyword alone
unfoldable pub is_alone : List ℕ → List (List ℕ) → Bool
is_alone k [] = false
is_alone k (w ∷ []) = same w k
is_alone k (w ∷ v ∷ ws) = false

-- the keyword and a name: "A name is the rest of the line, one word or more"
unfoldable pub is_named : List ℕ → List (List ℕ) → Bool
is_named k [] = false
is_named k (w ∷ []) = false
is_named k (w ∷ v ∷ ws) = same w k

-- the keyword and one given word
unfoldable pub is_pair : List ℕ → List ℕ → List (List ℕ) → Bool
is_pair k g [] = false
is_pair k g (w ∷ []) = false
is_pair k g (w ∷ v ∷ []) = same w k && same v g
is_pair k g (w ∷ v ∷ u ∷ ws) = false

-- "COMMENT lines and blank ones": the first word is the keyword, or there is none
unfoldable pub is_comment : List ℕ → List (List ℕ) → Bool
is_comment k [] = true
is_comment k (w ∷ ws) = same w k

-- ---- numbers

unfoldable pub is_digit : ℕ → Bool
is_digit b = leb 0x30 b && leb b 0x39

unfoldable pub are_digits : List ℕ → Bool
are_digits [] = true
are_digits (b ∷ s) = is_digit b && are_digits s

-- decimal digits after the digits of v
unfoldable pub decimal_from : ℕ → List ℕ → ℕ
decimal_from v [] = v
decimal_from v (b ∷ s) = decimal_from (v * 10 + (b - 0x30)) s

-- a number above this counts as this: no test tells them apart, and no file has so many lines
abbrev pub most : ℕ
most = 18_000_000_000_000_000_000

-- the number of digits, with its sign; 0 has none
unfoldable pub signed : Bool → ℕ → Number
signed minus v = record { negative = minus && ltb 0 v; size = v }

unfoldable pub digits_of : Bool → List ℕ → Option Number
digits_of minus [] = None
digits_of minus (b ∷ s) = cond (are_digits (b ∷ s)) (Some (signed minus (min (decimal_from 0 (b ∷ s)) most))) None

-- "A number is decimal digits, perhaps after one `-`"
unfoldable pub number_of : List ℕ → Option Number
number_of [] = None
number_of (b ∷ s) = cond (eqb b 0x2D) (digits_of true s) (digits_of false (b ∷ s))

abbrev pub is_value : Option Number → Bool
is_value (Some n) = true
is_value None = false

-- just n words, each a number
unfoldable pub are_numbers : ℕ → List (List ℕ) → Bool
are_numbers zero [] = true
are_numbers zero (w ∷ ws) = false
are_numbers (suc n) [] = false
are_numbers (suc n) (w ∷ ws) = is_value (number_of w) && are_numbers n ws

-- the keyword and n numbers
unfoldable pub has_numbers : List ℕ → ℕ → List (List ℕ) → Bool
has_numbers k n [] = false
has_numbers k n (w ∷ ws) = same w k && are_numbers n ws

-- the number as a count, if it is not negative
abbrev pub as_count : Option Number → Option ℕ
as_count (Some n) = cond n.negative None (Some n.size)
as_count None = None

-- the keyword and a count
unfoldable pub count_of : List ℕ → List (List ℕ) → Option ℕ
count_of k [] = None
count_of k (w ∷ []) = None
count_of k (w ∷ v ∷ []) = cond (same w k) (as_count (number_of v)) None
count_of k (w ∷ v ∷ u ∷ ws) = None

-- the four numbers of a box
abbrev pub four : Number → Number → Number → Number → Four
four w h x y = record { width = w; height = h; x = x; y = y }

abbrev pub all_four : Option Number → Option Number → Option Number → Option Number → Option Four
all_four (Some a) (Some b) (Some c) (Some d) = Some (four a b c d)
all_four (Some a) (Some b) (Some c) None = None
all_four (Some a) (Some b) None r = None
all_four (Some a) None q r = None
all_four None p q r = None

-- four numbers and no more
unfoldable pub four_numbers : List (List ℕ) → Option Four
four_numbers [] = None
four_numbers (a ∷ []) = None
four_numbers (a ∷ b ∷ []) = None
four_numbers (a ∷ b ∷ c ∷ []) = None
four_numbers (a ∷ b ∷ c ∷ d ∷ []) = all_four (number_of a) (number_of b) (number_of c) (number_of d)
four_numbers (a ∷ b ∷ c ∷ d ∷ e ∷ ws) = None

-- the keyword and four numbers
unfoldable pub four_of : List ℕ → List (List ℕ) → Option Four
four_of k [] = None
four_of k (w ∷ ws) = cond (same w k) (four_numbers ws) None

-- −1 and a second number
abbrev pub minus_one : Option Number → Option Number → Option Number
minus_one (Some n) r = cond (n.negative && (eqb n.size 1 && is_value r)) (Some n) None
minus_one None r = None

-- the keyword and "one number, or −1 and a second number": the first number
unfoldable pub encoding_of : List ℕ → List (List ℕ) → Option Number
encoding_of k [] = None
encoding_of k (w ∷ []) = None
encoding_of k (w ∷ v ∷ []) = cond (same w k) (number_of v) None
encoding_of k (w ∷ v ∷ u ∷ []) = cond (same w k) (minus_one (number_of v) (number_of u)) None
encoding_of k (w ∷ v ∷ u ∷ x ∷ ws) = None

-- ---- hexadecimal digits "of either case"

unfoldable pub is_hex : ℕ → Bool
is_hex b = is_digit b || (leb 0x41 b && leb b 0x46 || leb 0x61 b && leb b 0x66)

unfoldable pub hex_value : ℕ → ℕ
hex_value b = cond (leb b 0x39) (b - 0x30) (cond (leb b 0x46) (b - 0x37) (b - 0x57))

unfoldable pub are_hex : List ℕ → Bool
are_hex [] = true
are_hex (b ∷ s) = is_hex b && are_hex s

-- hexadecimal digits after the digits of v
unfoldable pub hex_from : ℕ → List ℕ → ℕ
hex_from v [] = v
hex_from v (b ∷ s) = hex_from (v * 16 + hex_value b) s

-- the keyword and "four hexadecimal digits"
unfoldable pub is_hex_pair : List ℕ → List (List ℕ) → Bool
is_hex_pair k [] = false
is_hex_pair k (w ∷ []) = false
is_hex_pair k (w ∷ v ∷ []) = same w k && (eqb (length v) 4 && are_hex v)
is_hex_pair k (w ∷ v ∷ u ∷ ws) = false

-- "exactly 2 × ((width + 7) / 8) hexadecimal digits"
unfoldable pub is_row : ℕ → List ℕ → Bool
is_row width l = eqb (length l) (2 * ((width + 7) / 8)) && are_hex l

-- the `width` bits of a bitmap line as a number, the leftmost the highest; the padding bits after them are dropped
unfoldable pub row_bits : ℕ → List ℕ → ℕ
row_bits width l = hex_from 0 l / 2 ^ (8 * ((width + 7) / 8) - width)

unfoldable pub row_of : ℕ → List ℕ → Option ℕ
row_of width l = cond (is_row width l) (Some (row_bits width l)) None
