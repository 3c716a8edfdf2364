-- A row of an atlas drawn eight pixels at a time, and what drawing part of an atlas requires. Assumes nothing.
-- Serves contracts: nothing here has to be believed.
use Rattle.std.specs.Prelude.{Option, Some, None, ℕ, ◌+◌, ◌-◌, ◌*◌, ◌/◌, ◌%◌, ◌^◌, ◌≤◌, ◌<◌, ◌≡◌, Bool, cond, List, get_or, eqb}
use Rattle.geometry.specs.Layer.{colored}
use Rattle.atlas.specs.declared.Atlas.{Atlas}
use Rattle.atlas.specs.declared.Cells.{Cells}
use Rattle.atlas.specs.Atlas.{image_height, glyphs_per_row, is_drawn, glyph_column, glyph_row}

-- how n bytes hold the glyphs of an atlas
pub record CellsOf (a : Atlas) (n : ℕ) (c : Cells) : Type 0 where
  pub per_row : c.glyphs_per_row ≡ glyphs_per_row a
  pub height : c.image_height ≡ image_height a n

-- where glyph i stands in an atlas of n bytes, if it is drawn
unfoldable pub glyph_corner : Atlas → ℕ → ℕ → Option (ℕ × ℕ)
glyph_corner a n i = cond (is_drawn a n i) (Some (glyph_column a i, glyph_row a i)) None

-- a pixel's grey after an atlas's pixel
abbrev pub blend : Bool → Option ℕ → Option ℕ → ℕ → ℕ
blend on text background grey = cond on (colored text grey) (colored background grey)

-- the pixels of a row of bytes, column by column
unfoldable pub image_row : List ℕ → Option ℕ → Option ℕ → ℕ → ℕ → ℕ
image_row line text background x grey = blend (eqb (get_or line (x / 8) 0 / 2 ^ (7 - x % 8) % 2) 1) text background grey

-- the byte that holds pixel x of a row and the one after it, or 0, shifted so that bit 7 is pixel x
unfoldable pub bits_at : List ℕ → ℕ → ℕ
bits_at line x = (get_or line (x / 8) 0 * 256 + get_or line (x / 8 + 1) 0) / 2 ^ (8 - x % 8)

-- eight pixels, from bit 7 on
unfoldable pub bit_row : ℕ → Option ℕ → Option ℕ → ℕ → ℕ → ℕ
bit_row bits text background i grey = blend (eqb (bits / 2 ^ (7 - i) % 2) 1) text background grey

-- the w by h pixels from (x, y) on lie in an atlas of n bytes
pub record SubImage (stride x y w h n : ℕ) : Type 0 where
  pub right : x + w ≤ 8 * stride
  pub foot : y + h ≤ n / stride
  pub narrow : stride < 2 ^ 32
