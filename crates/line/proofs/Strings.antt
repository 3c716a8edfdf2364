-- What the functions that draw a line paint, in the form in which their proofs have the facts. Assumes nothing.
use Prim.Native.Nat.{ℕ, ◌+◌, ◌-◌, ◌*◌}
use native.Mathlib.Omega.{arith}
use mathlib.Core.Path.{◌≡◌, refl, sym, ◌∙◌, ap, subst}
use mathlib.Core.Bool.{Bool, true, false, cond, ◌||◌, false≢true}
use mathlib.Mathlib.Data.Bool.Basic.{or-eq-false-eq-eq-false-and-eq-false}
use mathlib.Core.List.{List}
use lib.ListN.{length}
use Rattle.std.specs.Prelude.{Option}
use Rattle.geometry.specs.declared.Rectangle.{Rectangle}
use Rattle.geometry.specs.declared.DrawTarget.{DrawTarget}
use Rattle.geometry.specs.Rectangle.{rectangle}
use Rattle.geometry.specs.Layer.{filled}
use Rattle.geometry.specs.Canvas.{paint_on}
use Rattle.geometry.proofs.Layers.{within_none, paint_none}
use Rattle.characters.specs.Utf8.{chars}
use Rattle.mapping.specs.declared.Glyph.{Glyph}
use Rattle.mapping.specs.Mapping
use Rattle.atlas.specs.Atlas.{glyph}
use Rattle.line.specs.declared.MonoFont.{MonoFont}
use Rattle.line.specs.declared.MonoTextStyle.{MonoTextStyle}
use Rattle.line.specs.Line.{Font, character_width, character_height, spacing, text_color, background_color, is_painted, to_color, character, glyphs, spaced, advance, decoration, decorations, glyph_index, line_glyphs, string, whitespace}
use Rattle.line.specs.declared.Columns.{Columns}
use Rattle.line.specs.Clip.{disjoint, shows_glyphs, is_beside, Covers}
use Rattle.line.proofs.Colors.{glyphs_unset}
use Rattle.geometry.specs.declared.canvas.Frame.{Frame}
use Rattle.geometry.specs.Painted.{Painted}
use Rattle.geometry.proofs.Paintings.{painted_then}
use Rattle.atlas.specs.declared.Atlas.{Atlas}
use Rattle.line.proofs.Painting.{paint-disjoint, columns_disjoint, rows_disjoint}
use Rattle.line.proofs.Ink.{character_out, glyphs_out}
use Rattle.line.proofs.Unlisted.{beside_disjoint}

module _ (t : DrawTarget) (f : Font) (s : MonoTextStyle) (gap x top : ℕ) (xs : List ℕ) where
  -- a character beside columns that cover the target's clip
  pub character_beside : (c : Columns) (out : Bool) (i : ℕ) → Covers t.clip_area c → out ≡ is_beside c x (gap + character_width f.mono) → out ≡ true
      → xs ≡ paint_on t (character f s gap i x top) xs
  character_beside c out i covers e h =
      let area = rectangle x top (gap + character_width f.mono) (character_height f.mono) in
      paint-disjoint t area (character f s gap i x top) xs (λ c r grey o. character_out c r f s gap i x top grey o) (columns_disjoint t.clip_area area (beside_disjoint t.clip_area c x (gap + character_width f.mono) covers (sym e ∙ h)))

-- a gap and a glyph painted in turn
pub character_painted : (f : Font) (s : MonoTextStyle) (gap : Rectangle) (ch : ℕ) (bytes : List ℕ) (a : Atlas) (g : Glyph) (before middle after : Frame) → gap.height ≡ character_height f.mono
    → bytes ≡ f.atlas → a ≡ f.mono.atlas → g ≡ Mapping.glyph f.mapping f.mono.replacement_index ch
    → Painted before (filled gap (background_color s)) middle
    → Painted middle (glyph bytes a (text_color s) (background_color s) g.index (gap.left + gap.width) gap.top) after
    → Painted before (character f s gap.width (glyph_index f ch) gap.left gap.top) after
unfolding character
character_painted f s gap ch bytes a g before middle after eh eb ea eg p q =
    let area : gap ≡ rectangle gap.left gap.top gap.width (character_height f.mono) = ap (λ (h : ℕ). rectangle gap.left gap.top gap.width h) eh in
    let first : Painted before (filled (rectangle gap.left gap.top gap.width (character_height f.mono)) (background_color s)) middle = subst (λ (r : Rectangle). Painted before (filled r (background_color s)) middle) area p in
    painted_then before _ _ middle after first (rw (eb, ea, eg) at q)

module _ (m : MonoFont) (s : MonoTextStyle) (width x top : ℕ) (before middle after : Frame) where
  pub decorations_painted : (first second : Option ℕ) → first ≡ to_color s s.strikethrough_color → second ≡ to_color s s.underline_color
      → Painted before (decoration m.strikethrough first width x top) middle → Painted middle (decoration m.underline second width x top) after
      → Painted before (decorations m s width x top) after
  unfolding decorations
  decorations_painted first second e d p q = rw (← e, ← d) (painted_then before _ _ middle after p q)

  pub whitespace_painted : Painted before (filled (rectangle x top width (character_height m)) (background_color s)) middle → Painted middle (decorations m s width x top) after
      → Painted before (whitespace m s width x top) after
  unfolding whitespace
  whitespace_painted p q = painted_then before _ _ middle after p q

-- glyphs that the target does not show, or that take no grey
module _ (t : DrawTarget) (f : Font) (s : MonoTextStyle) (is : List ℕ) (x top : ℕ) (xs : List ℕ) where
  pub glyphs_unshown : (shows counts : Bool) → shows ≡ shows_glyphs t.clip_area f.mono s top → (shows || counts) ≡ false → xs ≡ paint_on t (glyphs f s 0 is x top) xs
  unfolding shows_glyphs
  glyphs_unshown shows counts e n =
      let h = ((or-eq-false-eq-eq-false-and-eq-false shows counts).0 n).0 in
      go (disjoint top (character_height f.mono) t.clip_area.top t.clip_area.height) refl (sym e ∙ h)
    where
      area : Rectangle
      area = rectangle x top (0 + spaced f.mono (length is)) (character_height f.mono)

      go : (d : Bool) → disjoint top (character_height f.mono) t.clip_area.top t.clip_area.height ≡ d → cond d false (is_painted s) ≡ false → xs ≡ paint_on t (glyphs f s 0 is x top) xs
      go true q n = paint-disjoint t area (glyphs f s 0 is x top) xs (λ c r grey o. glyphs_out c r f s 0 is x top grey o) (rows_disjoint t.clip_area area q)
      go false q n = sym (paint_none t.width _ xs (within_none t.clip_area (glyphs f s 0 is x top) (λ c r grey. glyphs_unset f s top c r n 0 is x grey)))

-- where the clip shows them the advance has no spacing after the last character
pub advance_shown : (clip : Rectangle) (m : MonoFont) (s : MonoTextStyle) (n x top r : ℕ) (t : Bool) → t ≡ shows_glyphs clip m s top → t ≡ true → r ≡ x + spaced m n → r ≡ x + advance m s n
unfolding shows_glyphs advance
advance_shown clip m s n x top r t e h d = go (disjoint top (character_height m) clip.top clip.height) (is_painted s) (sym e ∙ h)
  where
    go : (u v : Bool) → cond u false v ≡ true → r ≡ x + cond v (spaced m n) (n * (character_width m + spacing m))
    go true v q = absurd (false≢true q)
    go false true q = d
    go false false q = absurd (false≢true q)

pub string_painted : (f : Font) (s : MonoTextStyle) (text : List ℕ) (x top next : ℕ) (before middle after : Frame) → next ≡ x + advance f.mono s (length (chars text))
    → Painted before (line_glyphs f s text x top) middle → Painted middle (decorations f.mono s (next - x) x top) after
    → Painted before (string f s text x top) after
unfolding string
string_painted f s text x top next before middle after e p q =
    let w : next - x ≡ advance f.mono s (length (chars text)) = omega arith in
    rw (← w) (painted_then before _ _ middle after p q)
