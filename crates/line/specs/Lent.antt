-- A font as the code lends it, and what the glyphs of a line are drawn with. Assumes nothing.
-- Serves contracts: nothing here has to be believed.
use Rattle.std.specs.Prelude.{◌≡◌}
use Rattle.geometry.specs.declared.Rectangle.{Rectangle}
use Rattle.mapping.specs.Search.{StartOf}
use Rattle.line.specs.declared.PreparedLine.{PreparedLine}
use Rattle.line.specs.declared.fonts.Font
use Rattle.line.specs.Line
use Rattle.line.specs.Clip.{Covers}

-- the font of the numbers and the bytes that are lent
abbrev pub lent : Font.Font → Line.Font
lent f = Line.font_of f.metrics.font f.atlas.now f.mapping.bytes.now

-- what the glyphs of a line are drawn with in a clip, made of the bytes of its font
pub record PreparedFor (clip : Rectangle) (p : PreparedLine) : Type 0 where
  pub image_bytes : p.image.bytes.now ≡ p.line.font.atlas.now
  pub image_atlas : p.image.atlas ≡ p.line.font.metrics.font.atlas
  pub start : StartOf p.line.font.mapping.bytes.now p.start
  pub columns : Covers clip p.columns
