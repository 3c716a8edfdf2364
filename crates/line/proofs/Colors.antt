-- Colours: when the characters take a grey, that they paint nothing without one, and when an underline counts. Assumes nothing.
use Prim.Native.Nat.{ℕ, ◌+◌}
use mathlib.Core.Path.{◌≡◌, refl, ap, ◌∙◌}
use mathlib.Core.Bool.{Bool, false, true≢false}
use mathlib.Mathlib.Data.Bool.Basic.{or-eq-false-eq-eq-false-and-eq-false}
use mathlib.Core.List.{List, [], ◌∷◌}
use Rattle.std.specs.Prelude.{Option, Some, None, is_some}
use Rattle.geometry.specs.Rectangle.{rectangle}
use Rattle.geometry.specs.Layer.{filled}
use Rattle.geometry.proofs.Layers.{within_none}
use Rattle.atlas.proofs.Glyphs.{glyph_unset}
use Rattle.line.specs.declared.MonoFont.{MonoFont}
use Rattle.line.specs.declared.DecorationColor.{DecorationColor}
use Rattle.line.specs.declared.DecorationColor.TheVariants.{None as NoColor, TextColor, Custom}
use Rattle.line.specs.declared.MonoTextStyle.{MonoTextStyle}
use Rattle.line.specs.Line.{Font, character_width, character_height, spacing, text_color, background_color, is_set, is_painted, to_color, character, glyphs, is_none, measured_height}

-- the `_` of a match that has taken `NoColor`
not_none : (d : DecorationColor) → (d ≡ NoColor → ⊥) → is_none d ≡ false
not_none NoColor e = absurd (e refl)
not_none TextColor e = refl
not_none (Custom g) e = refl

pub measured_underlined : (m : MonoFont) (s : MonoTextStyle) → (s.underline_color ≡ NoColor → ⊥)
    → m.underline.offset + m.underline.height ≡ measured_height m s
unfolding measured_height
measured_underlined m s t = rw (not_none s.underline_color t)

-- a colour that resolves
pub resolved : (s : MonoTextStyle) (d : DecorationColor) (color : Option ℕ) (t : Bool) → color ≡ to_color s d → t ≡ is_some color → t ≡ is_set (to_color s d)
resolved s d color t e f = f ∙ is_set_some color ∙ ap is_set e
  where
    is_set_some : (o : Option ℕ) → is_some o ≡ is_set o
    is_set_some None = refl
    is_set_some (Some g) = refl

unset : (color : Option ℕ) → is_set color ≡ false → color ≡ None
unset None e = refl
unset (Some g) e = absurd (true≢false e)

-- with neither grey set glyphs and gaps paint nothing
module _ (f : Font) (s : MonoTextStyle) (top c r : ℕ) (e : is_painted s ≡ false) where
  character-unset : (gap i x grey : ℕ) → character f s gap i x top c r grey ≡ grey
  unfolding character is_painted filled
  character-unset gap i x grey =
      let n = (or-eq-false-eq-eq-false-and-eq-false (is_set (text_color s)) (is_set (background_color s))).0 e in
      rw (unset (text_color s) n.0, unset (background_color s) n.1, glyph_unset f.atlas f.mono.atlas i (x + gap) top c r _)
      (within_none (rectangle x top gap (character_height f.mono)) (λ c r grey. grey) (λ c r grey. refl) c r grey)

  pub glyphs_unset : (gap : ℕ) (is : List ℕ) (x grey : ℕ) → glyphs f s gap is x top c r grey ≡ grey
  unfolding glyphs
  glyphs_unset gap [] x grey = refl
  glyphs_unset gap (i ∷ is) x grey = glyphs_unset (spacing f.mono) is (x + gap + character_width f.mono) _ ∙ character-unset gap i x grey
