-- The lines that an iterator has still to give. Assumes nothing.
-- Serves contracts: nothing here has to be believed.
use Rattle.std.specs.Prelude.{ℕ, ◌+◌, ◌≡◌, cond, leb, List, [], ◌∷◌, length, drop, Option, unwrap_or, MatchOption}
use Rattle.characters.specs.Lines.{lines}
use Rattle.text.specs.declared.texts.TextLine.{TextLine}
use Rattle.text.specs.declared.placed.TextLines.{TextLines}
use Rattle.text.specs.Text.{PlacedLine, laid_out, line_height, place_lines}
use Rattle.text.specs.Lent.{placed_line}

-- the bytes whose lines are given
abbrev pub source : TextLines → List ℕ
source s = (unwrap_or s.new s.layout.now.text).now

-- the lines from the one on that is next
unfoldable pub lines_left : TextLines → List PlacedLine
lines_left s = cond (leb s.from (length (source s))) (place_lines s.layout.now.metrics.font (laid_out s.layout.now (source s)) (lines (drop s.from (source s))) s.y) []

-- the first line left is given, in its place, and the next one stands lower by the line height
pub record LineGiven (s : TextLines) (l : TextLine) (t : TextLines) : Type 0 where
  pub first : lines_left s ≡ placed_line s.layout.now l ∷ lines_left t
  pub same_layout : t.layout ≡ s.layout
  pub same_y : l.position.y ≡ s.y
  pub next_y : t.y ≡ s.y + line_height s.layout.now.metrics.font s.layout.now.text_style.line_height

abbrev pub GivesLine : TextLines → Option TextLine → TextLines → Type 0
GivesLine s r t = MatchOption r ((lines_left s ≡ []) × (lines_left t ≡ [])) (λ l. LineGiven s l t)
