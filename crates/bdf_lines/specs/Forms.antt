-- The usual forms of a glyph's lines, read at the head of a text: one blank between words, and a feed at the end; and a bitmap line. Assumes nothing.
-- Serves contracts: nothing here has to be believed.
use Rattle.std.specs.Prelude.{ℕ, ◌+◌, ◌<◌, ◌≡◌, Bool, true, List, ◌∷◌, ◌⊎◌, Some, length, drop}
use Rattle.characters.specs.Lines.{without_return, line_from, line_length}
use Rattle.bdf_lines.specs.declared.values.Number.{Number}
use Rattle.bdf_lines.specs.declared.values.Four.{Four}
use Rattle.bdf_lines.specs.Words.{words, encoding_of, four_of, row_of}
use Rattle.bdf_lines.specs.Keywords as word

-- the line from a position on
abbrev pub line_at : List ℕ → ℕ → List ℕ
line_at file at = without_return (line_from file at)

-- the first line of a text ends in a feed, and `rest` follows it
pub record LineBefore (text rest : List ℕ) : Type 0 where
  pub feed : line_length text < length text
  pub after : rest ≡ drop (line_length text + 1) text

-- a line whose words pass a test
pub record UsualLine (text : List ℕ) (test : List (List ℕ) → Bool) (rest : List ℕ) : Type 0 where
  pub line : LineBefore text rest
  pub passes : test (words (line_at text 0)) ≡ true

-- ENCODING and a number
pub record UsualEncoding (text : List ℕ) (n : Number) (rest : List ℕ) : Type 0 where
  pub line : LineBefore text rest
  pub encoding : encoding_of word.encoding (words (line_at text 0)) ≡ Some n

-- BBX and four numbers
pub record UsualBbx (text : List ℕ) (four : Four) (rest : List ℕ) : Type 0 where
  pub line : LineBefore text rest
  pub bbx : four_of word.bbx (words (line_at text 0)) ≡ Some four

-- ---- a bitmap line

-- a feed stands before the rest, alone or after a return
pub record FeedBefore (text rest : List ℕ) : Type 0 where
  pub place : (text ≡ 0x0A ∷ rest) ⊎ (text ≡ 0x0D ∷ 0x0A ∷ rest)

-- a bitmap line
pub record IsRow (text : List ℕ) (width bits : ℕ) (rest : List ℕ) : Type 0 where
  pub line : LineBefore text rest
  pub bitmap : row_of width (line_at text 0) ≡ Some bits
