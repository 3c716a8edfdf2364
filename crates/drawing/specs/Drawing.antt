-- The page of a sheet: its fresh drawing, the damage rectangle of an edit, and repainting (docs/SHEET.md, Drawing and edits).
-- Assumes nothing.
-- To be believed: it says what a sheet means.
use Rattle.std.specs.Prelude.{ℕ, zero, suc, ◌+◌, ◌*◌, ◌/◌, ◌%◌, cond, List, [], ◌∷◌, replicate}
use Rattle.geometry.specs.declared.Point.{Point}
use Rattle.geometry.specs.declared.Rectangle.{Rectangle}
use Rattle.geometry.specs.Rectangle.{rectangle, is_empty, join, intersection}
use Rattle.geometry.specs.Layer.{origin, Layer, transparent, over, paint, paint_in, frame_of}
use Rattle.line.specs.declared.MonoFont.{MonoFont}
use Rattle.line.specs.Line.{top_edge, whitespace}
use Rattle.text.specs.Text.{Text, layer, ink_box}
use Rattle.sheet.specs.Fields.{frame_width, frame_height, paper, item_count}
use Rattle.records.specs.Records.{item, item_font}

-- ---- fresh drawing

-- the n numbers from k on
unfoldable pub numbers_from : ℕ → ℕ → List ℕ
numbers_from k zero = []
numbers_from k (suc n) = k ∷ numbers_from (suc k) n

-- the items in the order of drawing: "in number order"
unfoldable pub order : List ℕ → List ℕ
order b = numbers_from 0 (item_count b)

-- what item n paints
unfoldable pub item_layer : List ℕ → ℕ → Layer
item_layer b n = layer (item_font b n) (item b n)

-- what the items of a list paint, one after another
unfoldable pub items_layer : List ℕ → List ℕ → Layer
items_layer b [] = transparent
items_layer b (n ∷ ns) = over (items_layer b ns) (item_layer b n)

-- "Fresh drawing: all paper, then items in number order"
unfoldable pub page_layer : List ℕ → Layer
page_layer b = over (items_layer b (order b)) (λ c r grey. paper b)

unfoldable pub fresh_drawing : List ℕ → List ℕ → List ℕ
fresh_drawing b frame = paint (frame_width b) (page_layer b) frame

-- how many pixels a frame of the sheet's size has
abbrev pub pixel_count : List ℕ → ℕ
pixel_count b = frame_width b * frame_height b

-- where pixel k of such a frame stands: "Points run row by row"
abbrev pub column_of : List ℕ → ℕ → ℕ
column_of b k = origin + k % frame_width b

abbrev pub row_of : List ℕ → ℕ → ℕ
row_of b k = origin + k / frame_width b

-- the page of a sheet: its fresh drawing, whatever was on the frame before
unfoldable pub page : List ℕ → List ℕ
page b = fresh_drawing b (replicate (pixel_count b) 0)

-- ---- whitespace: "takes an item's x, y, style and baseline"

unfoldable pub whitespace_layer : MonoFont → Text → ℕ → Layer
whitespace_layer m t width = whitespace m t.character_style width t.position.x (top_edge m t.text_style.baseline t.position.y)

unfoldable pub whitespace_next : Text → ℕ → Point
whitespace_next t width = record { x = t.position.x + width; y = t.position.y }

-- ---- the damage rectangle

-- "(0, 0, 0, 0) if empty", counted from the frame's corner
unfoldable pub or_none : Rectangle → Rectangle
or_none a = cond (is_empty a) (rectangle origin origin 0 0) a

-- "cut to the frame"
unfoldable pub cut_to_frame : List ℕ → Rectangle → Rectangle
cut_to_frame b a = or_none (intersection a (frame_of (frame_width b) (frame_height b)))

-- the ink box of item n
unfoldable pub item_ink : List ℕ → ℕ → Rectangle
item_ink b n = ink_box (item_font b n).mono (item b n)

-- "the smallest holding the boxes before and after, cut to the frame": of item n, from the bytes before and after
unfoldable pub damage : List ℕ → List ℕ → ℕ → Rectangle
damage b b' n = cut_to_frame b (join (item_ink b n) (item_ink b' n))

-- the page's pixels in a rectangle painted on a frame, and no others
unfoldable pub repainted : List ℕ → Rectangle → List ℕ → List ℕ
repainted b area frame = paint_in (frame_width b) area (page_layer b) frame
