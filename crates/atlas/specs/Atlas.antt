-- An atlas's rows of bits, its glyphs' cells, and where the loop over a cell's rows stops (docs/SHEET.md, Atlas and Stop below the frame).
-- Assumes nothing.
-- To be believed: it says what a sheet means.
use Rattle.std.specs.Prelude.{Option, ℕ, ◌+◌, ◌-◌, ◌*◌, ◌/◌, ◌%◌, ◌^◌, min, max, Bool, cond, ◌&&◌, List, length, get_or, leb, eqb}
use Rattle.geometry.specs.declared.DrawTarget.{DrawTarget}
use Rattle.geometry.specs.Rectangle.{rectangle}
use Rattle.geometry.specs.Layer.{Layer, within, colored}
use Rattle.atlas.specs.declared.Atlas.{Atlas}

abbrev pub cell_width : Atlas → ℕ
cell_width a = a.cell_size.width

abbrev pub cell_height : Atlas → ℕ
cell_height a = a.cell_size.height

-- "A row takes (width + 7) / 8 bytes"
abbrev pub row_bytes : Atlas → ℕ
row_bytes a = (a.width + 7) / 8

-- "Height is whole rows"; n is the number of bytes
abbrev pub image_height : Atlas → ℕ → ℕ
image_height a n = n / row_bytes a

-- "the leftmost pixel is the highest bit, 1 is on"
unfoldable pub is_on : List ℕ → ℕ → ℕ → ℕ → Bool
is_on bytes stride x y = eqb (get_or bytes (y * stride + x / 8) 0 / 2 ^ (7 - x % 8) % 2) 1

-- "g = atlas width / cw: glyph i starts at column (i mod g) × cw, row (i / g) × ch"
abbrev pub glyphs_per_row : Atlas → ℕ
glyphs_per_row a = a.width / cell_width a

abbrev pub glyph_column : Atlas → ℕ → ℕ
glyph_column a i = i % glyphs_per_row a * cell_width a

abbrev pub glyph_row : Atlas → ℕ → ℕ
glyph_row a i = i / glyphs_per_row a * cell_height a

-- "Nothing is drawn if cw is 0, ch is 0, the atlas is narrower than cw, or the cell passes its foot"; n is the number of bytes
unfoldable pub is_drawn : Atlas → ℕ → ℕ → Bool
is_drawn a n i =
    leb 1 (cell_width a) && (leb 1 (cell_height a) && (leb (cell_width a) a.width && leb (glyph_row a i + cell_height a) (image_height a n)))

-- the image with its pixel (x₀, y₀) at (left, top): "On pixels take the text grey, off pixels the background grey, each only if set"
unfoldable pub image : List ℕ → ℕ → ℕ → ℕ → ℕ → ℕ → Option ℕ → Option ℕ → Layer
image bytes stride x₀ y₀ left top text background c r grey =
    cond (is_on bytes stride (x₀ + c - left) (y₀ + r - top)) (colored text grey) (colored background grey)

-- glyph i with its cell's corner at (left, top)
unfoldable pub glyph : List ℕ → Atlas → Option ℕ → Option ℕ → ℕ → ℕ → ℕ → Layer
glyph bytes a text background i left top c r grey =
    cond (is_drawn a (length bytes) i)
    (within (rectangle left top (cell_width a) (cell_height a))
    (image bytes (row_bytes a) (glyph_column a i) (glyph_row a i) left top text background) c r grey)
    grey

-- ---- the loop over a glyph's rows

-- "the first row below the frame or rectangle" that a target shows
abbrev pub lower_edge : DrawTarget → ℕ
lower_edge t = t.clip_area.top + t.clip_area.height

-- "It returns the first row it didn't run: the cell's foot or that edge, whichever is higher, but the cell's top if that lies lower";
-- of a cell from `top` on, ch rows high
unfoldable pub first_row_not_run : ℕ → ℕ → ℕ → ℕ
first_row_not_run top ch edge = max top (min (top + ch) edge)
