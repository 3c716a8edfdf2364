-- A text, its font and a line of it as the code lends them. Assumes nothing.
-- Serves contracts: nothing here has to be believed.
use Rattle.line.specs.Line.{font_of}
use Rattle.line.specs.Line
use Rattle.text.specs.declared.texts.TextLayout.{TextLayout}
use Rattle.text.specs.declared.texts.TextLine.{TextLine}
use Rattle.text.specs.declared.texts.Text as Lent
use Rattle.text.specs.Text.{Text, PlacedLine, text_of, laid_out, place_line}

-- the font of the numbers and the bytes that are lent
abbrev pub lent_font : Lent.Text → Line.Font
lent_font t = font_of t.layout.metrics.font t.atlas.now t.mapping.bytes.now

-- the text of the bytes that are lent
abbrev pub lent_text : TextLayout → Text
lent_text t = laid_out t t.text.now

-- a line of a text as a text of its own
abbrev pub line_text : TextLayout → TextLine → Text
line_text t l = text_of l.text.now l.position.x l.position.y t.character_style t.text_style

-- the same in its place
abbrev pub placed_line : TextLayout → TextLine → PlacedLine
placed_line t l = place_line t.metrics.font (line_text t l) l.text.now l.position.y
