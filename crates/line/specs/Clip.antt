-- What a clip shows of a line, as its functions test it before they look at characters or pixels, and the characters that they then look up.
-- Assumes nothing.
-- Serves contracts: nothing here has to be believed.
use Rattle.std.specs.Prelude.{ℕ, ◌+◌, ◌-◌, ◌≤◌, Bool, false, cond, ◌||◌, List, [], ◌∷◌, ltb, leb}
use Rattle.geometry.specs.declared.Rectangle.{Rectangle}
use Rattle.mapping.specs.Mapping.{contains}
use Rattle.line.specs.declared.Columns.{Columns}
use Rattle.line.specs.declared.MonoFont.{MonoFont}
use Rattle.line.specs.declared.MonoTextStyle.{MonoTextStyle}
use Rattle.line.specs.Line.{character_width, character_height, spacing, is_painted}

-- whether none of the n numbers from a on is among the m from b on
unfoldable pub disjoint : ℕ → ℕ → ℕ → ℕ → Bool
disjoint a n b m = leb n (b - a) || leb m (a - b)

-- whether the glyphs of a line with its top edge at `top` can change a pixel in the clip's rows
unfoldable pub shows_glyphs : Rectangle → MonoFont → MonoTextStyle → ℕ → Bool
shows_glyphs clip m s top = cond (disjoint top (character_height m) clip.top clip.height) false (is_painted s)

-- ---- the columns in which characters are looked up

-- whether a character of a width at x ends before the columns, or starts after them
unfoldable pub is_beside : Columns → ℕ → ℕ → Bool
is_beside c x width = ltb (x + width) c.first || leb c.end x

-- those of a clip, or all where characters are counted
unfoldable pub columns_of : Rectangle → Bool → Columns
columns_of clip counts = cond counts (record { first = 0; end = 0xFFFFFFFF }) (record { first = clip.left + 1; end = clip.left + clip.width })

-- columns beside which no column of a clip stands
pub record Covers (clip : Rectangle) (c : Columns) : Type 0 where
  pub first : c.first ≤ clip.left + 1
  pub end : clip.left + clip.width ≤ c.end

-- 1 for a character that is looked up and not listed
unfoldable pub met_character : Columns → List ℕ → ℕ → ℕ → ℕ → ℕ
met_character c mapping width ch x = cond (is_beside c x width) 0 (cond (contains mapping ch) 0 1)

-- how many characters that are looked up are not listed, from x on, the first after `gap`, each other after the font's spacing
unfoldable pub met_unlisted : Columns → MonoFont → List ℕ → ℕ → List ℕ → ℕ → ℕ
met_unlisted c m mapping gap [] x = 0
met_unlisted c m mapping gap (ch ∷ chs) x =
    met_character c mapping (gap + character_width m) ch x + met_unlisted c m mapping (spacing m) chs (x + gap + character_width m)
