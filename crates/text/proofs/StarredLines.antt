-- The starred lines of docs/SHEET.md, Worked examples: one table, by computing the definitions. Assumes nothing.
use Prim.Native.Nat.{ℕ, ◌+◌}
use mathlib.Core.Path.{◌≡◌, refl}
use mathlib.Core.List.{List, [], ◌∷◌, ◌++◌, map}
use lib.ListN.{replicate}
use Rattle.std.specs.Prelude.{Option, None, Some}
use Rattle.geometry.specs.declared.Point.{Point}
use Rattle.geometry.specs.Rectangle
use Rattle.geometry.specs.Layer.{origin}
use Rattle.geometry.specs.Layer
use Rattle.characters.specs.Utf8
use Rattle.characters.specs.Lines
use Rattle.mapping.specs.Mapping
use Rattle.atlas.specs.Atlas
use Rattle.line.specs.declared.MonoFont.{MonoFont}
use Rattle.line.specs.declared.DecorationColor.{DecorationColor}
use Rattle.line.specs.declared.DecorationColor.TheVariants.{None as NoColor, Custom}
use Rattle.line.specs.declared.MonoTextStyle.{MonoTextStyle}
use Rattle.line.specs.declared.Baseline.TheVariants.{Top}
use Rattle.line.specs.Line.{Font, glyph_index}
use Rattle.line.specs.Line
use Rattle.text.specs.declared.Alignment.{Alignment}
use Rattle.text.specs.declared.Alignment.TheVariants.{Left, Center, Right}
use Rattle.text.specs.declared.LineHeight.TheVariants.{Pixels, Percent}
use Rattle.text.specs.Text

-- every definition that the table computes with
unfoldable computing : ℕ
unfolding Rectangle.covers Layer.filled Layer.map_indexed Layer.paint Utf8.leading_ones Utf8.is_continuation Utf8.is_surrogate Utf8.scalar Utf8.two Utf8.three Utf8.four Utf8.sequence Utf8.step_at Utf8.fold_by Utf8.fold_at Utf8.chars_from Lines.lines Lines.without_return Mapping.scalars_from Mapping.spelled Mapping.place_from Atlas.is_on Atlas.is_drawn Atlas.image Atlas.glyph Line.baseline_offset Line.is_painted Line.to_color Line.character Line.glyphs Line.spaced Line.advance Line.decoration Line.decorations Line.string Line.measured_width Text.aligned_start Text.line_height Text.place_line Text.place_lines Text.placed_lines Text.line_layer Text.lines_layer Text.layer Text.line_next Text.last_next Text.next
computing = 0

-- "Atlas 4 wide, bytes 90 60; cw = ch = 2, s = 1, baseline 1, mapping `AB`, .. strikethrough 0 and 1, underline 3 and 1"
abbrev mono : ℕ → ℕ → MonoFont
mono ch replacement = record {
  atlas = record { width = 4; cell_size = record { width = 2; height = ch } };
  replacement_index = replacement;
  character_spacing = 1;
  baseline = 1;
  strikethrough = record { offset = 0; height = 1 };
  underline = record { offset = 3; height = 1 };
}

abbrev font : ℕ → Font
font replacement = record { mono = mono 2 replacement; atlas = 0x90 ∷ 0x60 ∷ []; mapping = 0x41 ∷ 0x42 ∷ [] }

abbrev style : Option ℕ → Option ℕ → DecorationColor → MonoTextStyle
style text background underline = record { text_color = text; background_color = background; underline_color = underline; strikethrough_color = NoColor }

-- a text in row 0
abbrev sample : MonoTextStyle → Alignment → ℕ → List ℕ → Text.Text
sample s a x bytes = record {
  text = bytes;
  position = record { x = origin + x; y = origin };
  character_style = s;
  text_style = record { alignment = a; baseline = Top; line_height = Pixels 2 };
}

-- "Left, Top, at (0, 0) unless said"
abbrev left : MonoTextStyle → List ℕ → Text.Text
left s bytes = sample s Left 0 bytes

-- a text drawn on a frame w wide of n pixels of one grey
abbrev drawn : ℕ → Text.Text → ℕ → ℕ → ℕ → List ℕ
drawn replacement t w n grey = Layer.paint w (Text.layer (font replacement) t) (replicate n grey)

abbrev next : ℕ → Text.Text → Point
next replacement t = Text.next (mono 2 replacement) t

-- where the lines of a text start
abbrev starts : Text.Text → List ℕ
starts t = map (λ (l : Text.PlacedLine). l.x) (Text.placed_lines (mono 2 1) t)

abbrev position : ℕ → ℕ → Point
position x y = record { x = origin + x; y = origin + y }

abbrev AB : List ℕ
AB = 0x41 ∷ 0x42 ∷ []

abbrev both : MonoTextStyle
both = style (Some 9) (Some 5) NoColor

abbrev underlined : MonoTextStyle
underlined = style None None (Custom 7)

-- where a pixel is untouched, it has the frame's grey g, whatever that is
pub record StarredLines : Type 0 where
  -- "`AB`, text 9, background 5: 9 5 5 5 9 over 5 9 5 9 5; next (5, 0)"
  pub text_and_background : (g : ℕ) → drawn 1 (left both AB) 5 10 g ≡ 9 ∷ 5 ∷ 5 ∷ 5 ∷ 9 ∷ 5 ∷ 9 ∷ 5 ∷ 9 ∷ 5 ∷ []
  pub text_and_background_next : next 1 (left both AB) ≡ position 5 0
  -- "Background 5 only (· untouched): · 5 5 5 · over 5 · 5 · 5"
  pub background_only : (g : ℕ) → drawn 1 (left (style None (Some 5) NoColor) AB) 5 10 g ≡ g ∷ 5 ∷ 5 ∷ 5 ∷ g ∷ 5 ∷ g ∷ 5 ∷ g ∷ 5 ∷ []
  -- "Neither, own underline 7: row 3, columns 0 to 5; next (6, 0)", on 8 columns and 5 rows
  pub underline_only : (g : ℕ) → drawn 1 (left underlined AB) 8 40 g ≡ replicate 24 g ++ replicate 6 7 ++ replicate 10 g
  pub underline_only_next : next 1 (left underlined AB) ≡ position 6 0
  -- "`Z` is index 1"
  pub unlisted : glyph_index (font 1) 0x5A ≡ 1
  -- "replacement 2: nothing drawn, advance 2"
  pub past_atlas : (g : ℕ) → drawn 2 (left both (0x5A ∷ [])) 5 10 g ≡ replicate 10 g
  pub past_atlas_next : next 2 (left both (0x5A ∷ [])) ≡ position 2 0
  -- "Empty text at x = 10: right starts at 11, centre at 10"
  pub empty_right : starts (sample both Right 10 []) ≡ (origin + 11) ∷ []
  pub empty_centre : starts (sample both Center 10 []) ≡ (origin + 10) ∷ []
  -- "Right at 10: `AB` from 6, `AB` with 0D from 3"
  pub right : starts (sample both Right 10 AB) ≡ (origin + 6) ∷ []
  pub right_with_return : starts (sample both Right 10 (AB ++ (0x0D ∷ []))) ≡ (origin + 3) ∷ []
  -- "Mapping 00 ED 9F BF EE 80 80: U+E000 is 1"
  pub surrogate_gap : Mapping.index (0x00 ∷ 0xED ∷ 0x9F ∷ 0xBF ∷ 0xEE ∷ 0x80 ∷ 0x80 ∷ []) 9 0xE000 ≡ 1
  -- "00 62 61 63: `c` is 0"
  pub backward_range : Mapping.index (0x00 ∷ 0x62 ∷ 0x61 ∷ 0x63 ∷ []) 9 0x63 ≡ 0
  -- "ch 7 at 150 percent: 10"
  pub percent : Text.line_height (mono 7 1) (Percent 150) ≡ 10

pub starred_lines : StarredLines
unfolding computing
starred_lines = record {
  text_and_background = λ g. refl;
  text_and_background_next = refl;
  background_only = λ g. refl;
  underline_only = λ g. refl;
  underline_only_next = refl;
  unlisted = refl;
  past_atlas = λ g. refl;
  past_atlas_next = refl;
  empty_right = refl;
  empty_centre = refl;
  right = refl;
  right_with_return = refl;
  surrogate_gap = refl;
  backward_range = refl;
  percent = refl;
}
