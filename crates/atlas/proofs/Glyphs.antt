-- Laws of glyphs: where one paints nothing. Assumes nothing.
use Prim.Native.Nat.{ℕ}
use mathlib.Core.Path.{◌≡◌, refl, sym, ◌∙◌}
use mathlib.Core.Bool.{Bool, true, false, cond}
use mathlib.Core.List.{List}
use mathlib.Core.Logic.{⊎_elim}
use lib.ListN.{length}
use Rattle.std.specs.Prelude.{Option, None}
use Rattle.geometry.specs.Rectangle.{rectangle}
use Rattle.geometry.specs.Layer.{within}
use Rattle.geometry.proofs.Rectangles.{In, in_or_out}
use Rattle.geometry.proofs.Layers.{within_in, within_out}
use Rattle.atlas.specs.declared.Atlas.{Atlas}
use Rattle.atlas.specs.Atlas.{cell_width, cell_height, row_bytes, glyph_column, glyph_row, is_drawn, image, glyph}

-- two equal branches are one
cond_same : (t : Bool) (n : ℕ) → cond t n n ≡ n
cond_same true n = refl
cond_same false n = refl

module _ (bytes : List ℕ) (a : Atlas) (text background : Option ℕ) (i left top c r grey : ℕ) where
  -- a glyph paints nothing outside its cell
  pub glyph_out : (In (rectangle left top (cell_width a) (cell_height a)) c r → ⊥) → glyph bytes a text background i left top c r grey ≡ grey
  unfolding glyph
  glyph_out o = rw (within_out (rectangle left top (cell_width a) (cell_height a)) (image bytes (row_bytes a) (glyph_column a i) (glyph_row a i) left top text background) c r grey o)
      (cond_same (is_drawn a (length bytes) i) grey)

  -- so its cell does not cut it
  pub glyph-within : within (rectangle left top (cell_width a) (cell_height a)) (glyph bytes a text background i left top) c r grey ≡ glyph bytes a text background i left top c r grey
  glyph-within = ⊎_elim (λ h. within_in _ (glyph bytes a text background i left top) c r grey h) (λ o. within_out _ (glyph bytes a text background i left top) c r grey o ∙ sym (glyph_out o)) (in_or_out (rectangle left top (cell_width a) (cell_height a)) c r)

-- nor does one with neither grey set
pub glyph_unset : (bytes : List ℕ) (a : Atlas) (i left top c r grey : ℕ) → glyph bytes a None None i left top c r grey ≡ grey
unfolding glyph image
glyph_unset bytes a i left top c r grey = simp cond_same
