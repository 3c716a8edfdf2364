-- A line in two runs, drawn one after the other, the second where the first ends, is the line drawn at once. For whitespace this holds at any
-- spacing, for text at spacing 0. That is used in two places: the second run's first character, which stands after a gap in the whole line,
-- stands after none in its run (`no_gap`), and the first run's advance has no gap at its end (`advance-unspaced`). Nothing is asked of frame, clip
-- or atlas: the laws are about layers. Assumes nothing.
use Prim.Native.Nat.{ℕ, zero, suc, ◌+◌, ◌*◌}
use native.Mathlib.Nat.{mul-zero}
use native.Mathlib.Omega.{arith}
use mathlib.Core.Path.{◌≡◌, refl, ap, ◌∙◌}
use mathlib.Core.Bool.{Bool, true, false, cond}
use mathlib.Core.List.{List, [], ◌∷◌, ◌++◌, map, map-append}
use lib.ListN.{length, length-append, length-map}
use Rattle.std.specs.Prelude.{Option}
use Rattle.geometry.proofs.Beside.{Joined, EndsAt, StartsAt, part_by_part, over_ends, filled_ends, filled_starts, filled_joined}
use Rattle.characters.specs.Utf8.{chars, well_formed}
use Rattle.characters.proofs.Parts.{chars-append}
use Rattle.line.specs.declared.DecorationDimensions.{DecorationDimensions}
use Rattle.line.specs.declared.MonoFont.{MonoFont}
use Rattle.line.specs.declared.MonoTextStyle.{MonoTextStyle}
use Rattle.line.specs.Line.{Font, character_width, character_height, spacing, background_color, is_painted, glyphs, spaced, advance, decoration, decorations, glyph_index, line_glyphs, string, whitespace}
use Rattle.line.proofs.Advances.{walked, walked_end, walked_next, walked_spaced}
use Rattle.line.proofs.Ink.{glyphs_out}

-- ---- decorations and whitespace, at any spacing

module _ (s : MonoTextStyle) (m : MonoFont) (v w x top : ℕ) where
  decoration-joined : (d : DecorationDimensions) (color : Option ℕ) → Joined (decoration d color (v + w) x top) (decoration d color v x top) (decoration d color w (x + v) top)
  unfolding decoration
  decoration-joined d color = filled_joined x (top + d.offset) v w d.height color

  decoration-ends : (d : DecorationDimensions) (color : Option ℕ) → EndsAt (x + v) (decoration d color v x top)
  unfolding decoration
  decoration-ends d color = filled_ends x (top + d.offset) v d.height color

  decoration-starts : (d : DecorationDimensions) (color : Option ℕ) → StartsAt (x + v) (decoration d color w (x + v) top)
  unfolding decoration
  decoration-starts d color = filled_starts (x + v) (top + d.offset) w d.height color

  decorations-joined : Joined (decorations m s (v + w) x top) (decorations m s v x top) (decorations m s w (x + v) top)
  unfolding decorations
  decorations-joined = part_by_part (decoration-joined _ _) (decoration-joined _ _) (decoration-ends _ _) (decoration-starts _ _)

  decorations-end : EndsAt (x + v) (decorations m s v x top)
  unfolding decorations
  decorations-end = over_ends (decoration-ends _ _) (decoration-ends _ _)

  -- two whitespace widths
  pub whitespace_joined : Joined (whitespace m s (v + w) x top) (whitespace m s v x top) (whitespace m s w (x + v) top)
  unfolding whitespace
  whitespace_joined = part_by_part decorations-joined (filled_joined x top v w (character_height m) (background_color s)) decorations-end (filled_starts (x + v) top w (character_height m) (background_color s))

-- ---- text, at spacing 0

-- the gap before what follows some characters, the first of which stands after `gap`
gap_after : MonoFont → ℕ → List ℕ → ℕ
gap_after m gap [] = gap
gap_after m gap (i ∷ is) = spacing m

module _ (m : MonoFont) (unspaced : spacing m ≡ 0) where
  no_gap : (is : List ℕ) → gap_after m 0 is ≡ 0
  unfolding gap_after
  no_gap [] = refl
  no_gap (i ∷ is) = unspaced

  unspaced-width : (n : ℕ) → n * (character_width m + spacing m) ≡ n * character_width m
  unspaced-width n = let z : n * spacing m ≡ 0 = ap (λ (k : ℕ). n * k) unspaced ∙ mul-zero n in omega arith

  spaced-unspaced : (n : ℕ) → spaced m n ≡ n * character_width m
  unfolding spaced
  spaced-unspaced zero = omega arith
  spaced-unspaced (suc n) = omega (arith, unspaced-width n)

  -- "n × cw + (n − 1) × s" and "n × (cw + s)" are the same
  advance-unspaced : (s : MonoTextStyle) (n : ℕ) → advance m s n ≡ n * character_width m
  unfolding advance
  advance-unspaced s n = by (is_painted s)
    where
      by : (t : Bool) → cond t (spaced m n) (n * (character_width m + spacing m)) ≡ n * character_width m
      by true = spaced-unspaced n
      by false = unspaced-width n

  pub advance_joined : (s : MonoTextStyle) (n k : ℕ) → advance m s (n + k) ≡ advance m s n + advance m s k
  advance_joined s n k = omega (arith, advance-unspaced s (n + k), advance-unspaced s n, advance-unspaced s k)

module _ (f : Font) (s : MonoTextStyle) (top : ℕ) where
  -- at any spacing, what follows stands after its gap
  glyphs-append : (is js : List ℕ) (gap x : ℕ) → Joined (glyphs f s gap (is ++ js) x top) (glyphs f s gap is x top) (glyphs f s (gap_after f.mono gap is) js (walked f.mono gap is x) top)
  unfolding glyphs gap_after
  glyphs-append [] js gap x = record { at = λ c r grey. rw (walked_end f.mono gap x) }
  glyphs-append (i ∷ []) js gap x = record { at = λ c r grey. rw (walked_next f.mono gap i [] x, walked_end f.mono (spacing f.mono) (x + gap + character_width f.mono)) }
  glyphs-append (i ∷ j ∷ is) js gap x = record {
    at = λ c r grey. rw (walked_next f.mono gap i (j ∷ is) x) ((glyphs-append (j ∷ is) js (spacing f.mono) (x + gap + character_width f.mono)).at c r _);
  }

  module _ (unspaced : spacing f.mono ≡ 0) (t u : List ℕ) (well : well_formed t ≡ true) (x : ℕ) where
    -- where the second run starts
    abbrev behind : ℕ
    behind = x + advance f.mono s (length (chars t))

    walked-behind : walked f.mono 0 (map (glyph_index f) (chars t)) x ≡ behind
    walked-behind =
        let e : length (map (glyph_index f) (chars t)) ≡ length (chars t) = simp length-map in
        walked_spaced f.mono (map (glyph_index f) (chars t)) x ∙ rw e (omega (arith, spaced-unspaced f.mono unspaced (length (chars t)), advance-unspaced f.mono unspaced s (length (chars t))))

    line-glyphs-joined : Joined (line_glyphs f s (t ++ u) x top) (line_glyphs f s t x top) (line_glyphs f s u behind top)
    line-glyphs-joined =
        let is = map (glyph_index f) (chars t) in
        rw (chars-append t u well, map-append (glyph_index f) (chars t) (chars u)) (rw (no_gap f.mono unspaced is, walked-behind) at (glyphs-append is (map (glyph_index f) (chars u)) 0 x))

    line-glyphs-start : StartsAt behind (line_glyphs f s u behind top)
    line-glyphs-start = record { before = λ c r grey l. glyphs_out c r f s 0 (map (glyph_index f) (chars u)) behind top grey (λ i. omega arith) }

    pub advances_joined : advance f.mono s (length (chars (t ++ u))) ≡ advance f.mono s (length (chars t)) + advance f.mono s (length (chars u))
    advances_joined = rw (chars-append t u well, length-append (chars t) (chars u)) (advance_joined f.mono unspaced s (length (chars t)) (length (chars u)))

    -- two strings
    pub string_joined : Joined (string f s (t ++ u) x top) (string f s t x top) (string f s u behind top)
    unfolding string
    string_joined = rw advances_joined (part_by_part (decorations-joined s f.mono _ _ x top) line-glyphs-joined (decorations-end s f.mono _ 0 x top) line-glyphs-start)
