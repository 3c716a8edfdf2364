-- Fonts and items, as drawing reads them from the file. Assumes nothing.
-- To be believed: it says what a sheet means.
use Rattle.std.specs.Prelude.{ℕ, Option, None, Some, cond, List, eqb, get_or}
use Rattle.line.specs.declared.MonoFont.{MonoFont}
use Rattle.line.specs.declared.DecorationColor.{DecorationColor}
use Rattle.line.specs.declared.DecorationColor.TheVariants.{None as NoColor, TextColor, Custom}
use Rattle.line.specs.declared.MonoTextStyle.{MonoTextStyle}
use Rattle.line.specs.declared.Baseline.{Baseline}
use Rattle.line.specs.declared.Baseline.TheVariants.{Top, Bottom, Middle, Alphabetic}
use Rattle.line.specs.Line.{Font}
use Rattle.text.specs.declared.Alignment.{Alignment}
use Rattle.text.specs.declared.Alignment.TheVariants.{Left, Center, Right}
use Rattle.text.specs.declared.LineHeight.{LineHeight}
use Rattle.text.specs.declared.LineHeight.TheVariants.{Pixels, Percent}
use Rattle.text.specs.declared.TextStyle.{TextStyle}
use Rattle.text.specs.Text.{Text}
use Rattle.sheet.specs.Fields

-- ---- codes

-- "0 none, 1 set"; "An unused grey is ignored"
unfoldable pub optional_grey : ℕ → ℕ → Option ℕ
optional_grey mode grey = cond (eqb mode 0) None (Some grey)

-- "0 none, 1 text colour, 2 own grey"
unfoldable pub decoration_color : ℕ → ℕ → DecorationColor
decoration_color mode grey = cond (eqb mode 0) NoColor (cond (eqb mode 1) TextColor (Custom grey))

-- "0 left, 1 centre, 2 right"
unfoldable pub alignment : ℕ → Alignment
alignment code = cond (eqb code 0) Left (cond (eqb code 1) Center Right)

-- "0 Top, 1 Bottom, 2 Middle, 3 Alphabetic"
unfoldable pub baseline : ℕ → Baseline
baseline code = cond (eqb code 0) Top (cond (eqb code 1) Bottom (cond (eqb code 2) Middle Alphabetic))

-- "0 pixels, 1 percent"
unfoldable pub line_height : ℕ → ℕ → LineHeight
line_height kind value = cond (eqb kind 0) (Pixels value) (Percent value)

-- ---- records

unfoldable pub mono_font : List ℕ → ℕ → MonoFont
mono_font b o = record {
  atlas = record { width = Fields.atlas_width b o; cell_size = record { width = Fields.font_cw b o; height = Fields.font_ch b o } };
  replacement_index = Fields.replacement_index b o;
  character_spacing = Fields.font_spacing b o;
  baseline = Fields.font_baseline b o;
  strikethrough = record { offset = Fields.strikethrough_offset b o; height = Fields.strikethrough_height b o };
  underline = record { offset = Fields.underline_offset b o; height = Fields.underline_height b o };
}

-- font number n
unfoldable pub font : List ℕ → ℕ → Font
font b n = record { mono = mono_font b (Fields.font_at n); atlas = Fields.atlas_bytes b (Fields.font_at n); mapping = Fields.mapping_bytes b (Fields.font_at n) }

unfoldable pub mono_text_style : List ℕ → ℕ → MonoTextStyle
mono_text_style b o = record {
  text_color = optional_grey (Fields.text_mode b o) (Fields.text_grey b o);
  background_color = optional_grey (Fields.background_mode b o) (Fields.background_grey b o);
  underline_color = decoration_color (Fields.underline_mode b o) (Fields.underline_grey b o);
  strikethrough_color = decoration_color (Fields.strikethrough_mode b o) (Fields.strikethrough_grey b o);
}

-- the style that the 8 bytes of a style edit give
unfoldable pub style_of : List ℕ → MonoTextStyle
style_of t = record {
  text_color = optional_grey (get_or t 0 0) (get_or t 1 0);
  background_color = optional_grey (get_or t 2 0) (get_or t 3 0);
  underline_color = decoration_color (get_or t 4 0) (get_or t 5 0);
  strikethrough_color = decoration_color (get_or t 6 0) (get_or t 7 0);
}

unfoldable pub text_style : List ℕ → ℕ → TextStyle
text_style b o = record {
  alignment = alignment (Fields.alignment_code b o);
  baseline = baseline (Fields.baseline_code b o);
  line_height = line_height (Fields.height_kind b o) (Fields.height_value b o);
}

-- the item whose record stands at o
unfoldable pub item_of : List ℕ → ℕ → Text
item_of b o = record {
  text = Fields.text_bytes b o;
  position = record { x = Fields.coordinate (Fields.item_x b o); y = Fields.coordinate (Fields.item_y b o) };
  character_style = mono_text_style b o;
  text_style = text_style b o;
}

-- item number n, and the font that it is set in
unfoldable pub item : List ℕ → ℕ → Text
item b n = item_of b (Fields.item_at b n)

unfoldable pub item_font : List ℕ → ℕ → Font
item_font b n = font b (Fields.font_number b (Fields.item_at b n))
