-- A text: its lines, where each stands, what they paint, its next position and its boxes (docs/SHEET.md, Text). Assumes nothing.
-- To be believed: it says what a sheet means.
use Rattle.std.specs.Prelude.{ℕ, ◌+◌, ◌-◌, ◌*◌, ◌/◌, List, [], ◌∷◌, map, length}
use Rattle.geometry.specs.declared.Point.{Point}
use Rattle.geometry.specs.declared.Rectangle.{Rectangle}
use Rattle.geometry.specs.Rectangle.{rectangle, joins}
use Rattle.geometry.specs.Layer.{Layer, transparent, over}
use Rattle.characters.specs.Utf8.{chars}
use Rattle.characters.specs.Lines.{lines, without_return}
use Rattle.line.specs.declared.MonoFont.{MonoFont}
use Rattle.line.specs.declared.MonoTextStyle.{MonoTextStyle}
use Rattle.line.specs.Line.{Font, character_height, top_edge, unlisted, string, advance, measured_width}
use Rattle.line.specs.Line
use Rattle.text.specs.declared.Alignment.{Alignment}
use Rattle.text.specs.declared.Alignment.TheVariants.{Left, Center, Right}
use Rattle.text.specs.declared.LineHeight.{LineHeight}
use Rattle.text.specs.declared.LineHeight.TheVariants.{Pixels, Percent}
use Rattle.text.specs.declared.TextStyle.{TextStyle}
use Rattle.text.specs.declared.texts.TextLayout.{TextLayout}

-- embedded-graphics' `Text`; its font stands beside it
pub record Text : Type 0 where
  pub text : List ℕ
  pub position : Point
  pub character_style : MonoTextStyle
  pub text_style : TextStyle

abbrev pub text_of : List ℕ → ℕ → ℕ → MonoTextStyle → TextStyle → Text
text_of text x y style text_style = record { text = text; position = record { x = x; y = y }; character_style = style; text_style = text_style }

-- bytes that stand and are set as a layout has it
abbrev pub laid_out : TextLayout → List ℕ → Text
laid_out t text = record { text = text; position = t.position; character_style = t.character_style; text_style = t.text_style }

-- ---- lines

-- "left starts at x, right at x − (w − 1), centre at x − (w − 1) / 2 truncated towards zero"; w is the measured width
unfoldable pub aligned_start : Alignment → ℕ → ℕ → ℕ
aligned_start Left x w = x
aligned_start Center x w = x - (w - 1) / 2
aligned_start Right x w = x + 1 - w

-- "Each line is lower by the pixels given or ch × percent / 100, truncated"
unfoldable pub line_height : MonoFont → LineHeight → ℕ
line_height m (Pixels n) = n
line_height m (Percent n) = character_height m * n / 100

-- a line in its place: its bytes without the return, and its position
pub record PlacedLine : Type 0 where
  pub text : List ℕ
  pub x : ℕ
  pub y : ℕ

-- the alignment measures the line with its 0D; "Then" the 0D is dropped
unfoldable pub place_line : MonoFont → Text → List ℕ → ℕ → PlacedLine
place_line m t l y = record {
  text = without_return l;
  x = aligned_start t.text_style.alignment t.position.x (measured_width m (length (chars l)));
  y = y;
}

unfoldable pub place_lines : MonoFont → Text → List (List ℕ) → ℕ → List PlacedLine
place_lines m t [] y = []
place_lines m t (l ∷ ls) y = place_line m t l y ∷ place_lines m t ls (y + line_height m t.text_style.line_height)

unfoldable pub placed_lines : MonoFont → Text → List PlacedLine
placed_lines m t = place_lines m t (lines t.text) t.position.y

-- ---- `Text::draw`

abbrev pub line_top : MonoFont → Text → PlacedLine → ℕ
line_top m t l = top_edge m t.text_style.baseline l.y

unfoldable pub line_layer : Font → Text → PlacedLine → Layer
line_layer f t l = string f t.character_style l.text l.x (line_top f.mono t l)

unfoldable pub lines_layer : Font → Text → List PlacedLine → Layer
lines_layer f t [] = transparent
lines_layer f t (l ∷ ls) = over (lines_layer f t ls) (line_layer f t l)

unfoldable pub layer : Font → Text → Layer
layer f t = lines_layer f t (placed_lines f.mono t)

-- "The next position is (x + advance, y)"
unfoldable pub line_next : MonoFont → Text → PlacedLine → Point
line_next m t l = record { x = l.x + advance m t.character_style (length (chars l.text)); y = l.y }

unfoldable pub last_next : MonoFont → Text → Point → List PlacedLine → Point
last_next m t p [] = p
last_next m t p (l ∷ ls) = last_next m t (line_next m t l) ls

-- "`Text::draw` returns the last line's next position"
unfoldable pub next : MonoFont → Text → Point
next m t = last_next m t t.position (placed_lines m t)

-- how many characters of a line the mapping does not list
unfoldable pub line_replaced : List ℕ → PlacedLine → ℕ
line_replaced mapping l = unlisted mapping (chars l.text)

unfoldable pub lines_replaced : List ℕ → List PlacedLine → ℕ
lines_replaced mapping [] = 0
lines_replaced mapping (l ∷ ls) = line_replaced mapping l + lines_replaced mapping ls

-- "how many characters of its lines, after the 0D is dropped, were not listed"
unfoldable pub replaced : Font → Text → ℕ
replaced f t = lines_replaced f.mapping (placed_lines f.mono t)

-- ---- boxes

-- the empty rectangle at a text's position
abbrev pub nowhere : Text → Rectangle
nowhere t = rectangle t.position.x t.position.y 0 0

unfoldable pub measured_box : MonoFont → Text → PlacedLine → Rectangle
measured_box m t l = Line.measured_box m t.character_style (length (chars l.text)) l.x (line_top m t l)

-- "`Text::bounding_box` joins the nonempty measured boxes; if none, size 0 at the item's position"
unfoldable pub bounding_box : MonoFont → Text → Rectangle
bounding_box m t = joins (nowhere t) (map (measured_box m t) (placed_lines m t))

unfoldable pub line_ink : MonoFont → Text → PlacedLine → Rectangle
line_ink m t l = Line.ink_box m t.character_style (length (chars l.text)) l.x (line_top m t l)

-- the ink box of an item (docs/SHEET.md, Drawing and edits): "the smallest holding its nonempty line boxes"
unfoldable pub ink_box : MonoFont → Text → Rectangle
ink_box m t = joins (nowhere t) (map (line_ink m t) (placed_lines m t))
