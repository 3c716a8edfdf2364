-- docs/SHEET.md's positions and boxes of a text in signed numbers, as the paper writes them: column 0 and row 0 are the frame's first. The other
-- definitions count coordinates from `origin`, in natural numbers; that the two agree is `text_exact`, and `sheet_exact` for a sheet.
-- Assumes nothing.
-- To be believed: it says what a sheet means.
use Rattle.std.specs.Prelude.{ℕ, ◌+◌, ◌*◌, Bool, cond, ◌&&◌, ◌||◌, List, [], ◌∷◌, map, eqb, ℤ, pos, negsuc, ◌+ℤ◌, ◌-ℤ◌, length}
use Rattle.std.specs.Int.Signed.{le_z, lt_z, quot_z}
use Rattle.geometry.specs.declared.Point.{Point}
use Rattle.geometry.specs.declared.Rectangle.{Rectangle}
use Rattle.geometry.specs.Layer.{signed}
use Rattle.characters.specs.Utf8.{chars}
use Rattle.characters.specs.Lines.{lines, without_return}
use Rattle.line.specs.declared.Baseline.{Baseline}
use Rattle.line.specs.declared.DecorationDimensions.{DecorationDimensions}
use Rattle.line.specs.declared.MonoFont.{MonoFont}
use Rattle.line.specs.declared.MonoTextStyle.{MonoTextStyle}
use Rattle.line.specs.Line.{character_width, spacing, baseline_offset, advance, measured_width, measured_height, ink_rows}
use Rattle.text.specs.declared.Alignment.{Alignment}
use Rattle.text.specs.declared.Alignment.TheVariants.{Left, Center, Right}
use Rattle.text.specs.declared.TextStyle.{TextStyle}
use Rattle.text.specs.Text.{Text, PlacedLine, line_height}

-- ---- numbers

abbrev pub min_z : ℤ → ℤ → ℤ
min_z a b = cond (le_z a b) a b

abbrev pub max_z : ℤ → ℤ → ℤ
max_z a b = cond (le_z a b) b a

-- a number, or 0 for one below 0
abbrev pub to_nat : ℤ → ℕ
to_nat (pos n) = n
to_nat (negsuc n) = 0

-- ---- points and rectangles: "A rectangle (left, top, width, height)"

pub record SignedPoint : Type 0 where
  pub x : ℤ
  pub y : ℤ

abbrev pub signed_point : Point → SignedPoint
signed_point p = record { x = signed p.x; y = signed p.y }

pub record SignedRectangle : Type 0 where
  pub left : ℤ
  pub top : ℤ
  pub width : ℕ
  pub height : ℕ

abbrev pub signed_rectangle : Rectangle → SignedRectangle
signed_rectangle a = record { left = signed a.left; top = signed a.top; width = a.width; height = a.height }

abbrev pub rectangle : ℤ → ℤ → ℕ → ℕ → SignedRectangle
rectangle l t w h = record { left = l; top = t; width = w; height = h }

abbrev pub right : SignedRectangle → ℤ
right a = a.left +ℤ pos a.width

abbrev pub foot : SignedRectangle → ℤ
foot a = a.top +ℤ pos a.height

-- "covers left ≤ column < left + width, likewise rows"
unfoldable pub covers : SignedRectangle → ℤ → ℤ → Bool
covers a c r = le_z a.left c && lt_z c (right a) && le_z a.top r && lt_z r (foot a)

-- "it is empty if width or height is 0"
unfoldable pub is_empty : SignedRectangle → Bool
is_empty a = eqb a.width 0 || eqb a.height 0

-- the rectangle from a left and a top edge to a right edge and a foot
abbrev pub between : ℤ → ℤ → ℤ → ℤ → SignedRectangle
between l t r f = rectangle l t (to_nat (r -ℤ l)) (to_nat (f -ℤ t))

-- the smallest rectangle that holds both
unfoldable pub envelope : SignedRectangle → SignedRectangle → SignedRectangle
envelope a b = between (min_z a.left b.left) (min_z a.top b.top) (max_z (right a) (right b)) (max_z (foot a) (foot b))

-- the smallest that holds those of the two that are not empty
unfoldable pub join : SignedRectangle → SignedRectangle → SignedRectangle
join a b = cond (is_empty b) a (cond (is_empty a) b (envelope a b))

-- the smallest that holds those of a list that are not empty; a where all are
unfoldable pub joins : SignedRectangle → List SignedRectangle → SignedRectangle
joins a [] = a
joins a (b ∷ bs) = joins (join a b) bs

-- what two rectangles share
unfoldable pub intersection : SignedRectangle → SignedRectangle → SignedRectangle
intersection a b = between (max_z a.left b.left) (max_z a.top b.top) (min_z (right a) (right b)) (min_z (foot a) (foot b))

-- ---- a text and its lines

pub record SignedText : Type 0 where
  pub text : List ℕ
  pub position : SignedPoint
  pub character_style : MonoTextStyle
  pub text_style : TextStyle

abbrev pub signed_text : Text → SignedText
signed_text t = record { text = t.text; position = signed_point t.position; character_style = t.character_style; text_style = t.text_style }

pub record SignedLine : Type 0 where
  pub text : List ℕ
  pub x : ℤ
  pub y : ℤ

abbrev pub signed_line : PlacedLine → SignedLine
signed_line l = record { text = l.text; x = signed l.x; y = signed l.y }

-- "left starts at x, right at x − (w − 1), centre at x − (w − 1) / 2 truncated towards zero": for w = 0 the quotient is −1 / 2, which is 0
unfoldable pub aligned_start : Alignment → ℤ → ℕ → ℤ
aligned_start Left x w = x
aligned_start Center x w = x -ℤ quot_z (pos w -ℤ pos 1) (pos 2)
aligned_start Right x w = x -ℤ (pos w -ℤ pos 1)

-- "Top edge = y − baseline offset"
abbrev pub top_edge : MonoFont → Baseline → ℤ → ℤ
top_edge m b y = y -ℤ pos (baseline_offset m b)

-- "With w the measured width"; "Then just one trailing 0D is dropped"
unfoldable pub place_line : MonoFont → SignedText → List ℕ → ℤ → SignedLine
place_line m t l y = record {
  text = without_return l;
  x = aligned_start t.text_style.alignment t.position.x (measured_width m (length (chars l)));
  y = y;
}

-- "Each line is lower by the pixels given or ch × percent / 100, truncated"
unfoldable pub place_lines : MonoFont → SignedText → List (List ℕ) → ℤ → List SignedLine
place_lines m t [] y = []
place_lines m t (l ∷ ls) y = place_line m t l y ∷ place_lines m t ls (y +ℤ pos (line_height m t.text_style.line_height))

unfoldable pub placed_lines : MonoFont → SignedText → List SignedLine
placed_lines m t = place_lines m t (lines t.text) t.position.y

abbrev pub line_top : MonoFont → SignedText → SignedLine → ℤ
line_top m t l = top_edge m t.text_style.baseline l.y

-- "Character k of n, from 0, stands at x + k × (cw + s), s the spacing"
abbrev pub character_x : MonoFont → SignedLine → ℕ → ℤ
character_x m l k = l.x +ℤ pos (k * (character_width m + spacing m))

-- "strikethrough then underline are filled .. at their offset below the top edge"
abbrev pub decoration_top : MonoFont → SignedText → SignedLine → DecorationDimensions → ℤ
decoration_top m t l d = line_top m t l +ℤ pos d.offset

-- ---- next positions

-- "The next position is (x + advance, y)"
unfoldable pub line_next : MonoFont → SignedText → SignedLine → SignedPoint
line_next m t l = record { x = l.x +ℤ pos (advance m t.character_style (length (chars l.text))); y = l.y }

unfoldable pub last_next : MonoFont → SignedText → SignedPoint → List SignedLine → SignedPoint
last_next m t p [] = p
last_next m t p (l ∷ ls) = last_next m t (line_next m t l) ls

-- "`Text::draw` returns the last line's next position"
unfoldable pub next : MonoFont → SignedText → SignedPoint
next m t = last_next m t t.position (placed_lines m t)

-- ---- boxes

-- the empty rectangle at a text's position
abbrev pub nowhere : SignedText → SignedRectangle
nowhere t = rectangle t.position.x t.position.y 0 0

-- "The measured box starts at x and the top edge"
unfoldable pub measured_box : MonoFont → SignedText → SignedLine → SignedRectangle
measured_box m t l = rectangle l.x (line_top m t l) (measured_width m (length (chars l.text))) (measured_height m t.character_style)

-- "`Text::bounding_box` joins the nonempty measured boxes; if none, size 0 at the item's position"
unfoldable pub bounding_box : MonoFont → SignedText → SignedRectangle
bounding_box m t = joins (nowhere t) (map (measured_box m t) (placed_lines m t))

-- "the smallest rectangle over these rows and the advance; none if no row counts"
unfoldable pub line_ink : MonoFont → SignedText → SignedLine → SignedRectangle
line_ink m t l = rectangle l.x (line_top m t l +ℤ pos (ink_rows m t.character_style).top) (advance m t.character_style (length (chars l.text))) (ink_rows m t.character_style).height

-- "An item's ink box is the smallest holding its nonempty line boxes"
unfoldable pub ink_box : MonoFont → SignedText → SignedRectangle
ink_box m t = joins (nowhere t) (map (line_ink m t) (placed_lines m t))
