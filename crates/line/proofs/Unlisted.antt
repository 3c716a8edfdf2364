-- Characters that are not listed, counted as they are looked up: those that do not stand beside the columns, and all where they are counted.
-- Assumes nothing.
use Prim.Native.Nat.{ℕ, ◌+◌, ◌-◌, ◌*◌, ◌≤◌}
use native.Mathlib.Omega.{arith}
use mathlib.Core.Path.{◌≡◌, refl, sym, ap, ◌∙◌}
use Rattle.std.specs.Prelude.{Option, Some, None}
use Rattle.std.specs.Bool.{then_some}
use Rattle.std.specs.Int.{from_bool}
use mathlib.Core.Bool.{Bool, true, false, not, cond, ◌||◌, or-true, true≢false}
use mathlib.Mathlib.Data.Bool.Basic.{or-eq-false-eq-eq-false-and-eq-false}
use mathlib.Core.List.{List, [], ◌∷◌, ◌++◌}
use borrow.Author.Tests.{ltb-true, leb-true, le-ltb, lt-leb, le-leb}
use lib.Dec.{ltb, leb}
use lib.ListN.{length}
use Rattle.geometry.specs.declared.Rectangle.{Rectangle}
use Rattle.characters.specs.Utf8.{chars}
use Rattle.characters.proofs.Folds.{length-chars}
use Rattle.mapping.specs.declared.Glyph.{Glyph}
use Rattle.mapping.specs.Mapping.{glyph, contains}
use Rattle.line.specs.declared.Columns.{Columns}
use Rattle.line.specs.declared.MonoFont.{MonoFont}
use Rattle.line.specs.Line.{character_width, spacing, unlisted}
use Rattle.line.specs.Clip.{disjoint, is_beside, columns_of, Covers, met_character, met_unlisted}
use Rattle.line.specs.Limits.{FontLimits}

-- ---- counts that are asked for, or not

pub counted_none : (counts : Bool) → ◌≡◌ {A = ℕ} (cond counts 0 0) 0
counted_none true = refl
counted_none false = refl

-- a sum is counted part by part
pub counted_sum : (counts : Bool) (m n : ℕ) → cond counts (m + n) 0 ≡ cond counts m 0 + cond counts n 0
counted_sum true m n = refl
counted_sum false m n = refl

pub counted_few : (counts : Bool) (n : ℕ) → cond counts n 0 ≤ n
counted_few true n = omega arith
counted_few false n = omega arith

-- what is told where it is asked for is told
counted_if : (counts : Bool) (m n : ℕ) (told : Option ℕ) → (counts ≡ true → m ≡ n) → told ≡ then_some counts m → told ≡ cond counts (Some n) None
counted_if true m n told h t = t ∙ ap Some (h refl)
counted_if false m n told h t = t

-- those of two lists together
pub unlisted-append : (mapping chs more : List ℕ) → unlisted mapping (chs ++ more) ≡ unlisted mapping chs + unlisted mapping more
unfolding unlisted
unlisted-append mapping [] more = omega arith
unlisted-append mapping (ch ∷ chs) more = omega (arith, unlisted-append mapping chs more)

-- no more than there are
pub unlisted_few : (mapping chs : List ℕ) → unlisted mapping chs ≤ length chs
unfolding unlisted
unlisted_few mapping [] = omega arith
unlisted_few mapping (ch ∷ chs) = by (contains mapping ch) (unlisted_few mapping chs)
  where
    by : (t : Bool) → unlisted mapping chs ≤ length chs → cond t 0 1 + unlisted mapping chs ≤ length (ch ∷ chs)
    by true h = omega arith
    by false h = omega arith

-- ---- columns

pub columns_cover : (clip : Rectangle) (counts : Bool) (c : Columns) → clip.left + clip.width ≤ 0xFFFFFFFF → c ≡ columns_of clip counts → Covers clip c
unfolding columns_of
columns_cover clip counts c limit e = rw e (by counts)
  where
    by : (k : Bool) → Covers clip (columns_of clip k)
    by true = record { first = omega arith; end = limit }
    by false = record { first = omega arith; end = omega arith }

-- a character beside columns that cover a clip shares no column with it
pub beside_disjoint : (clip : Rectangle) (c : Columns) (x width : ℕ) → Covers clip c → is_beside c x width ≡ true → disjoint x width clip.left clip.width ≡ true
unfolding is_beside disjoint
beside_disjoint clip c x width k h = by (ltb (x + width) c.first) (leb c.end x) refl refl h
  where
    by : (t u : Bool) → ltb (x + width) c.first ≡ t → leb c.end x ≡ u → (t || u) ≡ true → (leb width (clip.left - x) || leb clip.width (x - clip.left)) ≡ true
    by true u p q h = rw (le-leb width (clip.left - x) (omega (arith, ltb-true (x + width) c.first p, k)))
    by false true p q h = rw (le-leb clip.width (x - clip.left) (omega (arith, leb-true c.end x q, k))) (or-true (leb width (clip.left - x)))
    by false false p q h = absurd (true≢false (sym h))

-- ---- a character that is looked up

pub met_beside : (c : Columns) (mapping : List ℕ) (width ch x n : ℕ) (t : Bool) → t ≡ is_beside c x width → t ≡ true → n ≡ n + met_character c mapping width ch x
unfolding met_character
met_beside c mapping width ch x n t e h = rw (← e, h) (omega arith)

pub met_small : (c : Columns) (mapping : List ℕ) (width ch x : ℕ) → met_character c mapping width ch x ≤ 1
unfolding met_character
met_small c mapping width ch x = by (is_beside c x width) (contains mapping ch)
  where
    by : (u v : Bool) → cond u 0 (cond v 0 1) ≤ 1
    by true v = omega arith
    by false true = omega arith
    by false false = omega arith

-- and counted, if it is not listed
pub count_met : (c : Columns) (mapping : List ℕ) (width replacement ch x n more : ℕ) (g : Glyph) (t : Bool) → t ≡ is_beside c x width → t ≡ false → g ≡ glyph mapping replacement ch
    → more ≡ from_bool (not g.listed) → n + more ≡ n + met_character c mapping width ch x
unfolding met_character
count_met c mapping width replacement ch x n more g t e h eg em =
    ap (λ (k : ℕ). n + k) (em ∙ by g.listed ∙ rw (eg, ← e, h))
  where
    by : (u : Bool) → from_bool (not u) ≡ cond u 0 1
    by true = refl
    by false = refl

-- ---- the characters of a line

pub met_none : (c : Columns) (m : MonoFont) (mapping : List ℕ) (gap x : ℕ) → met_unlisted c m mapping gap [] x ≡ 0
unfolding met_unlisted
met_none c m mapping gap x = refl

pub met_next : (c : Columns) (m : MonoFont) (mapping : List ℕ) (gap ch : ℕ) (chs : List ℕ) (x : ℕ)
    → met_unlisted c m mapping gap (ch ∷ chs) x ≡ met_character c mapping (gap + character_width m) ch x + met_unlisted c m mapping (spacing m) chs (x + gap + character_width m)
unfolding met_unlisted
met_next c m mapping gap ch chs x = refl

pub met_in : (c : Columns) (clip : Rectangle) (counts : Bool) (m : MonoFont) (mapping chs : List ℕ) (gap x r : ℕ) → c ≡ columns_of clip counts → r ≡ met_unlisted c m mapping gap chs x
    → r ≡ met_unlisted (columns_of clip counts) m mapping gap chs x
met_in c clip counts m mapping chs gap x r e q = rw e at q

-- where characters are counted, each is looked up
module _ (clip : Rectangle) (m : MonoFont) (limits : FontLimits m) (mapping : List ℕ) where
  all-met : (width ch x : ℕ) → x ≤ 33_554_432 → met_character (columns_of clip true) mapping width ch x ≡ cond (contains mapping ch) 0 1
  unfolding met_character is_beside columns_of
  all-met width ch x near = rw (le-ltb (x + width) 0 (omega arith), lt-leb 0xFFFFFFFF x (omega arith))

  met_all : (gap : ℕ) (chs : List ℕ) (x : ℕ) → gap ≤ 64 → x + 128 * length chs ≤ 33_554_432 → met_unlisted (columns_of clip true) m mapping gap chs x ≡ unlisted mapping chs
  unfolding met_unlisted unlisted
  met_all gap [] x small near = refl
  met_all gap (ch ∷ chs) x small near =
      rw (all-met (gap + character_width m) ch x (omega arith), met_all (spacing m) chs (x + gap + character_width m) limits.spacing_small (omega (arith, limits)))

  pub met_counted : (text : List ℕ) (x r : ℕ) (counts : Bool) (told : Option ℕ) → length text ≤ 65_536 → x ≤ 8_388_608
      → r ≡ met_unlisted (columns_of clip counts) m mapping 0 (chars text) x → told ≡ then_some counts r → told ≡ cond counts (Some (unlisted mapping (chars text))) None
  met_counted text x r counts told short near e =
      counted_if counts r _ told (λ h. (rw h at e) ∙ met_all 0 (chars text) x (omega arith) (omega (arith, length-chars text)))

-- where they are neither shown nor counted, none is asked for
pub unasked : (shows counts : Bool) (n : ℕ) → (shows || counts) ≡ false → None ≡ cond counts (Some n) None
unasked shows counts n h = rw ((or-eq-false-eq-eq-false-and-eq-false shows counts).0 h).1
