-- One line of text: its glyphs and gaps, its decorations, its advance, its measured box and its ink box (docs/SHEET.md, One line; Ink).
-- Assumes nothing.
-- To be believed: it says what a sheet means.
use Rattle.std.specs.Prelude.{ℕ, zero, suc, Option, None, Some, ◌+◌, ◌-◌, ◌*◌, ◌/◌, Bool, true, false, cond, ◌||◌, List, [], ◌∷◌, map, length}
use Rattle.geometry.specs.declared.Rectangle.{Rectangle}
use Rattle.geometry.specs.Rectangle.{rectangle, join}
use Rattle.geometry.specs.Layer.{Layer, transparent, over, filled}
use Rattle.characters.specs.Utf8.{chars}
use Rattle.mapping.specs.Mapping
use Rattle.atlas.specs.Atlas.{cell_width, cell_height, glyph}
use Rattle.line.specs.declared.DecorationDimensions.{DecorationDimensions}
use Rattle.line.specs.declared.MonoFont.{MonoFont}
use Rattle.line.specs.declared.DecorationColor.{DecorationColor}
use Rattle.line.specs.declared.DecorationColor.TheVariants.{None as NoColor, TextColor, Custom}
use Rattle.line.specs.declared.MonoTextStyle.{MonoTextStyle}
use Rattle.line.specs.declared.Baseline.{Baseline}
use Rattle.line.specs.declared.Baseline.TheVariants.{Top, Bottom, Middle, Alphabetic}

-- a font: its numbers, and the bytes of its atlas and of its mapping
pub record Font : Type 0 where
  pub mono : MonoFont
  pub atlas : List ℕ
  pub mapping : List ℕ

abbrev pub font_of : MonoFont → List ℕ → List ℕ → Font
font_of m atlas mapping = record { mono = m; atlas = atlas; mapping = mapping }

-- ---- the drawn metrics: cw, ch and s

abbrev pub character_width : MonoFont → ℕ
character_width m = cell_width m.atlas

abbrev pub character_height : MonoFont → ℕ
character_height m = cell_height m.atlas

abbrev pub spacing : MonoFont → ℕ
spacing m = m.character_spacing

-- "Top 0, Bottom ch − 1, Middle (ch − 1) / 2, Alphabetic the font's baseline; ch − 1 is 0 for ch 0"
unfoldable pub baseline_offset : MonoFont → Baseline → ℕ
baseline_offset m Top = 0
baseline_offset m Bottom = character_height m - 1
baseline_offset m Middle = (character_height m - 1) / 2
baseline_offset m Alphabetic = m.baseline

-- "Top edge = y − baseline offset"
abbrev pub top_edge : MonoFont → Baseline → ℕ → ℕ
top_edge m b y = y - baseline_offset m b

-- ---- colours

abbrev pub text_color : MonoTextStyle → Option ℕ
text_color s = s.text_color

abbrev pub background_color : MonoTextStyle → Option ℕ
background_color s = s.background_color

abbrev pub is_set : Option ℕ → Bool
is_set None = false
is_set (Some g) = true

-- "With either grey set"
unfoldable pub is_painted : MonoTextStyle → Bool
is_painted s = is_set (text_color s) || is_set (background_color s)

-- a decoration's colour; "A text-colour decoration without text grey is not drawn"
unfoldable pub to_color : MonoTextStyle → DecorationColor → Option ℕ
to_color s NoColor = None
to_color s TextColor = text_color s
to_color s (Custom g) = Some g

-- ---- glyphs

-- a gap in the background's colour, then glyph i
unfoldable pub character : Font → MonoTextStyle → ℕ → ℕ → ℕ → ℕ → Layer
character f s gap i x top =
    over (glyph f.atlas f.mono.atlas (text_color s) (background_color s) i (x + gap) top)
    (filled (rectangle x top gap (character_height f.mono)) (background_color s))

-- the glyphs of a line from x on, the first after `gap`, each other after the font's spacing
unfoldable pub glyphs : Font → MonoTextStyle → ℕ → List ℕ → ℕ → ℕ → Layer
glyphs f s gap [] x top = transparent
glyphs f s gap (i ∷ is) x top =
    over (glyphs f s (spacing f.mono) is (x + gap + character_width f.mono) top) (character f s gap i x top)

-- "n × cw + (n − 1) × s, or 0 for n = 0"
unfoldable pub spaced : MonoFont → ℕ → ℕ
spaced m zero = 0
spaced m (suc n) = suc n * character_width m + n * spacing m

-- the advance of n characters; "with neither it is n × (cw + s)"
unfoldable pub advance : MonoFont → MonoTextStyle → ℕ → ℕ
advance m s n = cond (is_painted s) (spaced m n) (n * (character_width m + spacing m))

-- ---- decorations

unfoldable pub decoration : DecorationDimensions → Option ℕ → ℕ → ℕ → ℕ → Layer
decoration d color width x top = filled (rectangle x (top + d.offset) width d.height) color

-- "strikethrough then underline are filled, that wide, at their offset below the top edge"
unfoldable pub decorations : MonoFont → MonoTextStyle → ℕ → ℕ → ℕ → Layer
decorations m s width x top =
    over (decoration m.underline (to_color s s.underline_color) width x top)
    (decoration m.strikethrough (to_color s s.strikethrough_color) width x top)

-- ---- the line

-- the glyph of a character
abbrev pub glyph_index : Font → ℕ → ℕ
glyph_index f ch = Mapping.index f.mapping f.mono.replacement_index ch

-- how many characters of a list a mapping does not list, each as often as it occurs
unfoldable pub unlisted : List ℕ → List ℕ → ℕ
unlisted mapping [] = 0
unlisted mapping (ch ∷ chs) = cond (Mapping.contains mapping ch) 0 1 + unlisted mapping chs

-- the glyphs of a text from x on
abbrev pub line_glyphs : Font → MonoTextStyle → List ℕ → ℕ → ℕ → Layer
line_glyphs f s text x top = glyphs f s 0 (map (glyph_index f) (chars text)) x top

-- `draw_string`: the text's glyphs from x on, with their top edge at `top`, then its decorations
unfoldable pub string : Font → MonoTextStyle → List ℕ → ℕ → ℕ → Layer
string f s text x top =
    over (decorations f.mono s (advance f.mono s (length (chars text))) x top)
    (line_glyphs f s text x top)

-- `draw_whitespace`: "background v by ch if set, decorations, advance v"
unfoldable pub whitespace : MonoFont → MonoTextStyle → ℕ → ℕ → ℕ → Layer
whitespace m s width x top =
    over (decorations m s width x top) (filled (rectangle x top width (character_height m)) (background_color s))

-- ---- `measure_string`

-- "its width is n × (cw + s) − s, at least 0"
unfoldable pub measured_width : MonoFont → ℕ → ℕ
measured_width m n = n * (character_width m + spacing m) - spacing m

abbrev pub is_none : DecorationColor → Bool
is_none NoColor = true
is_none TextColor = false
is_none (Custom g) = false

-- "measured height is ch, or underline offset + height if the underline mode isn't none"
unfoldable pub measured_height : MonoFont → MonoTextStyle → ℕ
measured_height m s = cond (is_none s.underline_color) (character_height m) (m.underline.offset + m.underline.height)

-- "The measured box starts at x and the top edge"; n characters
unfoldable pub measured_box : MonoFont → MonoTextStyle → ℕ → ℕ → ℕ → Rectangle
measured_box m s n x top = rectangle x top (measured_width m n) (measured_height m s)

-- ---- the ink box of a line (docs/SHEET.md, Ink)

-- rows below a line's top edge, as a column of pixels: those of a part that counts, else none
abbrev pub rows_if : Bool → ℕ → ℕ → Rectangle
rows_if counts offset height = rectangle 0 offset 1 (cond counts height 0)

-- "the ch rows only if a text or background grey is set"
abbrev pub character_rows : MonoFont → MonoTextStyle → Rectangle
character_rows m s = rows_if (is_painted s) 0 (character_height m)

-- "a decoration's rows only if its colour resolves"
abbrev pub decoration_rows : DecorationDimensions → Option ℕ → Rectangle
decoration_rows d color = rows_if (is_set color) d.offset d.height

abbrev pub strikethrough_rows : MonoFont → MonoTextStyle → Rectangle
strikethrough_rows m s = decoration_rows m.strikethrough (to_color s s.strikethrough_color)

abbrev pub underline_rows : MonoFont → MonoTextStyle → Rectangle
underline_rows m s = decoration_rows m.underline (to_color s s.underline_color)

-- "the smallest rectangle over these rows": the rows between two of them too
unfoldable pub ink_rows : MonoFont → MonoTextStyle → Rectangle
ink_rows m s = join (join (character_rows m s) (strikethrough_rows m s)) (underline_rows m s)

-- "and the advance; none if no row counts": of n characters from x on
unfoldable pub ink_box : MonoFont → MonoTextStyle → ℕ → ℕ → ℕ → Rectangle
ink_box m s n x top = rectangle x (top + (ink_rows m s).top) (advance m s n) (ink_rows m s).height
