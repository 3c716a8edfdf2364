-- Limits under which no sum of a line's drawing is too large: what its functions require, and what an accepted sheet gives.
-- Assumes nothing.
-- Serves contracts: nothing here has to be believed.
use Rattle.std.specs.Prelude.{ℕ, ◌+◌, ◌≤◌}
use Rattle.geometry.specs.declared.Rectangle.{Rectangle}
use Rattle.line.specs.declared.DecorationDimensions.{DecorationDimensions}
use Rattle.line.specs.declared.MonoFont.{MonoFont}
use Rattle.line.specs.Line.{character_width, character_height, spacing}

-- a font's numbers: the limits of docs/SHEET.md, Sheet, and 255 for what is stored in a byte
pub record FontLimits (m : MonoFont) : Type 0 where
  pub atlas_narrow : m.atlas.width ≤ 1_024
  pub cw_small : character_width m ≤ 64
  pub ch_small : character_height m ≤ 64
  pub spacing_small : spacing m ≤ 64
  pub baseline_small : m.baseline ≤ 255
  pub strikethrough_near : m.strikethrough.offset ≤ 255
  pub strikethrough_low : m.strikethrough.height ≤ 255
  pub underline_near : m.underline.offset ≤ 255
  pub underline_low : m.underline.height ≤ 255

-- n bytes of text
pub record LengthLimit (n : ℕ) : Type 0 where
  pub text_short : n ≤ 65_536

-- n bytes of text at (x, top)
pub record PlaceLimits (n x top : ℕ) : Type 0 where
  pub text_short : n ≤ 65_536
  pub near_x : x ≤ 8_388_608
  pub near_top : top ≤ 8_388_608

-- a character after a gap, from x on, when so many are counted
pub record CharacterLimits (gap x count : ℕ) : Type 0 where
  pub gap_small : gap ≤ 64
  pub near_x : x ≤ 16_777_216
  pub few : count ≤ 65_536

-- a clip
pub record ClipLimit (clip : Rectangle) : Type 0 where
  pub near_left : clip.left ≤ 8_388_608
  pub near_right : clip.left + clip.width ≤ 8_388_608

-- a decoration of a line with its top edge at `top`
pub record DecorationLimits (d : DecorationDimensions) (top : ℕ) : Type 0 where
  pub near : d.offset ≤ 255
  pub near_top : top ≤ 8_388_608

-- the top edge of a line with decorations
pub record TopLimit (top : ℕ) : Type 0 where
  pub near_top : top ≤ 8_388_608
