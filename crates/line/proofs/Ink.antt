-- A line paints nothing outside its ink box. Assumes nothing.
use Prim.Native.Nat.{ℕ, ◌+◌, ◌-◌, ◌≤◌, ◌<◌}
use native.Mathlib.Omega.{arith}
use mathlib.Core.Path.{◌≡◌, refl, ◌∙◌}
use mathlib.Core.Bool.{Bool, true, false, cond}
use mathlib.Core.List.{List, [], ◌∷◌, map}
use mathlib.Core.Logic.{inl, inr}
use lib.ListN.{length, length-map}
use mir.Syntax.{w32}
use mir.Val.{Fits}
use Rattle.std.specs.Prelude.{Option, Some, None}
use Rattle.geometry.specs.declared.Rectangle.{Rectangle}
use Rattle.geometry.specs.Rectangle.{rectangle, envelope, join}
use Rattle.geometry.specs.Canvas.{EndsFit}
use Rattle.geometry.specs.Layer.{transparent, filled}
use Rattle.geometry.proofs.Rectangles.{In, join_left, join-right, join_cases, ends_fit_join}
use Rattle.geometry.proofs.Layers.{within_none, filled_out}
use Rattle.characters.specs.Utf8.{chars}
use Rattle.atlas.proofs.Glyphs.{glyph_out}
use Rattle.line.specs.declared.DecorationDimensions.{DecorationDimensions}
use Rattle.line.specs.declared.MonoFont.{MonoFont}
use Rattle.line.specs.declared.MonoTextStyle.{MonoTextStyle}
use Rattle.line.specs.Line.{Font, character_width, character_height, spacing, is_set, is_painted, to_color, character, glyphs, spaced, advance, decoration, decorations, glyph_index, line_glyphs, string, rows_if, character_rows, strikethrough_rows, underline_rows, ink_rows, ink_box}
use Rattle.line.specs.Ink.{Counts}
use Rattle.line.specs.Limits.{FontLimits}
use Rattle.line.proofs.Advances.{spaced-advance}
use Rattle.line.proofs.Colors.{glyphs_unset}

-- ---- the rows that count

module _ (m : MonoFont) (s : MonoTextStyle) where
  pub counts_in : (r : ℕ) → Counts m s r → In (ink_rows m s) 0 r
  unfolding ink_rows
  counts_in r (inl p) = join_left 0 r _ _ (join_left 0 r _ _ (rw p.painted (omega (arith, p.above_foot))))
  counts_in r (inr (inl p)) = join_left 0 r _ _ (join-right 0 r _ _ (rw p.resolves (omega (arith, p.from_offset, p.above_foot))))
  counts_in r (inr (inr p)) = join-right 0 r _ _ (rw p.resolves (omega (arith, p.from_offset, p.above_foot)))

  -- a place over the advance, in a row that counts, is in the ink box
  pub counts_box : (n x top c r : ℕ) → x ≤ c → c < x + advance m s n → top ≤ r → Counts m s (r - top) → In (ink_box m s n x top) c r
  unfolding ink_box
  counts_box n x top c r p q u h = let i = counts_in (r - top) h in omega arith

-- what holds of the three parts, and of the envelope of two, holds of the rows that count
pub rows_cases : (P : Rectangle → Type 0) (m : MonoFont) (s : MonoTextStyle) → P (character_rows m s) → P (strikethrough_rows m s) → P (underline_rows m s)
    → ((a b : Rectangle) → P a → P b → P (envelope a b)) → P (ink_rows m s)
unfolding ink_rows
rows_cases P m s c t u e =
    let upper : P (join (character_rows m s) (strikethrough_rows m s)) = join_cases P _ _ c t (e _ _ c t) in
    join_cases P _ _ upper u (e _ _ upper u)

-- ---- `rows_if`, `ink_rows` and `ink_box`

module _ (counts : Bool) (offset height : ℕ) where
  pub rows_counted : counts ≡ true → rectangle 0 offset 1 height ≡ rows_if counts offset height
  rows_counted e = rw e

  part_low : offset ≤ 255 → height ≤ 255 → (rows_if counts offset height).top + (rows_if counts offset height).height ≤ 510
  part_low p q = go counts
    where
      go : (t : Bool) → offset + cond t height 0 ≤ 510
      go true = omega arith
      go false = omega arith

  pub part-fits : (a : Rectangle) → a ≡ rows_if counts offset height → offset ≤ 255 → height ≤ 255 → EndsFit a
  part-fits a e p q = rw e (omega (arith, part_low p q))

pub characters_fit : (counts : Bool) (height : ℕ) (a : Rectangle) → a ≡ rows_if counts 0 height → height ≤ 64 → EndsFit a
characters_fit counts height a e p = part-fits counts 0 height a e (omega arith) (omega arith)

pub parts_fit : (a b both : Rectangle) → both ≡ join a b → EndsFit a → EndsFit b → EndsFit both
parts_fit a b both e p q = rw e (ends_fit_join a b p q)

pub rows_joined : (m : MonoFont) (s : MonoTextStyle) (p q o : Bool) (characters strikethrough underline both all : Rectangle) → p ≡ is_painted s
    → q ≡ is_set (to_color s s.strikethrough_color) → o ≡ is_set (to_color s s.underline_color) → characters ≡ rows_if p 0 (character_height m)
    → strikethrough ≡ rows_if q m.strikethrough.offset m.strikethrough.height → underline ≡ rows_if o m.underline.offset m.underline.height
    → both ≡ join characters strikethrough → all ≡ join both underline → all ≡ ink_rows m s
unfolding ink_rows
rows_joined m s p q o characters strikethrough underline both all ep eq eo ec es eu eb e = rw (e, eb, ec, es, eu, ep, eq, eo)

module _ (m : MonoFont) (s : MonoTextStyle) (limits : FontLimits m) where
  pub rows_low : (ink_rows m s).top + (ink_rows m s).height ≤ 510
  unfolding envelope
  rows_low = rows_cases (λ a. a.top + a.height ≤ 510) m s
      (part_low (is_painted s) 0 (character_height m) (omega arith) (omega arith))
      (part_low (is_set (to_color s s.strikethrough_color)) m.strikethrough.offset m.strikethrough.height limits.strikethrough_near limits.strikethrough_low)
      (part_low (is_set (to_color s s.underline_color)) m.underline.offset m.underline.height limits.underline_near limits.underline_low)
      (λ a b p q. omega (arith, p, q))

  pub first_fits : (rows : Rectangle) (top : ℕ) → rows ≡ ink_rows m s → top ≤ 8_388_608 → Fits w32 (top + rows.top)
  first_fits rows top e near = rw e (omega (arith, rows_low))

-- ---- what a line paints

module _ (c r : ℕ) where
  -- a decoration paints nothing outside its rows, and nothing at all without a grey
  decoration-out : (d : DecorationDimensions) (color : Option ℕ) (width x top grey : ℕ) → (is_set color ≡ true → In (rectangle x (top + d.offset) width d.height) c r → ⊥) → decoration d color width x top c r grey ≡ grey
  unfolding decoration filled
  decoration-out d None width x top grey o = within_none (rectangle x (top + d.offset) width d.height) transparent (λ c r grey. refl) c r grey
  decoration-out d (Some g) width x top grey o = filled_out (rectangle x (top + d.offset) width d.height) (Some g) c r grey (o refl)

  -- a gap and a glyph paint nothing outside the gap and the cell
  pub character_out : (f : Font) (s : MonoTextStyle) (gap i x top grey : ℕ) → (In (rectangle x top (gap + character_width f.mono) (character_height f.mono)) c r → ⊥) → character f s gap i x top c r grey ≡ grey
  unfolding character
  character_out f s gap i x top grey o =
      glyph_out f.atlas f.mono.atlas _ _ i (x + gap) top c r _ (λ h. o (omega arith)) ∙ filled_out (rectangle x top gap (character_height f.mono)) _ c r grey (λ h. o (omega arith))

  pub glyphs_out : (f : Font) (s : MonoTextStyle) (gap : ℕ) (is : List ℕ) (x top grey : ℕ) → (In (rectangle x top (gap + spaced f.mono (length is)) (character_height f.mono)) c r → ⊥) → glyphs f s gap is x top c r grey ≡ grey
  unfolding glyphs spaced
  glyphs_out f s gap [] x top grey o = refl
  glyphs_out f s gap (i ∷ []) x top grey o = character_out f s gap i x top grey (λ h. o (omega arith))
  glyphs_out f s gap (i ∷ j ∷ is) x top grey o =
      glyphs_out f s (spacing f.mono) (j ∷ is) (x + gap + character_width f.mono) top _ (λ h. o (omega arith)) ∙ character_out f s gap i x top grey (λ h. o (omega arith))

  pub string_out : (f : Font) (s : MonoTextStyle) (text : List ℕ) (x top grey : ℕ) → (In (ink_box f.mono s (length (chars text)) x top) c r → ⊥) → string f s text x top c r grey ≡ grey
  unfolding string decorations
  string_out f s text x top grey o =
      decoration-out f.mono.underline _ _ x top _ (λ e h. out (omega arith) (omega arith) (omega arith) (inr (inr (record { resolves = e; from_offset = omega arith; above_foot = omega arith }))))
      ∙ decoration-out f.mono.strikethrough _ _ x top _ (λ e h. out (omega arith) (omega arith) (omega arith) (inr (inl (record { resolves = e; from_offset = omega arith; above_foot = omega arith }))))
      ∙ glyph-rows (is_painted s) refl
    where
      n : ℕ
      n = length (chars text)

      out : x ≤ c → c < x + advance f.mono s n → top ≤ r → Counts f.mono s (r - top) → ⊥
      out p q u h = o (counts_box f.mono s n x top c r p q u h)

      glyph-rows : (t : Bool) → is_painted s ≡ t → line_glyphs f s text x top c r grey ≡ grey
      glyph-rows true e =
          let q : length (map (glyph_index f) (chars text)) ≡ n = simp length-map in
          glyphs_out f s 0 (map (glyph_index f) (chars text)) x top grey (rw q (λ h. out (omega arith) (omega (arith, spaced-advance f.mono s n)) (omega arith) (inl (record { painted = e; above_foot = omega arith }))))
      glyph-rows false e = glyphs_unset f s top c r e 0 (map (glyph_index f) (chars text)) x grey
