-- Where a text's ink box can stand, told from its place, its heights, its style and its bytes without its characters. Assumes nothing.
use Prim.Native.Nat.{ℕ, suc, ◌+◌, ◌-◌, ◌*◌, ◌≤◌}
use native.Mathlib.Nat.{mul-le-mul, mul-le-mul_right}
use native.Mathlib.Omega.{arith}
use mathlib.Core.Path.{◌≡◌, refl, ap, ◌∙◌}
use mathlib.Core.Bool.{Bool, true, false, cond}
use mathlib.Core.List.{List, [], ◌∷◌, map, Memᴰ}
use lib.ListN.{length}
use lib.Dec.{eqb, leb}
use borrow.Author.Tests.{leb-true}
use mir.Syntax.{w32}
use mir.Val.{Fits, bool_byte}
use Rattle.std.specs.Prelude.{sum_by}
use Rattle.std.proofs.lemmas.List.Sums.{sum_by-cons}
use Rattle.geometry.specs.declared.Rectangle.{Rectangle}
use Rattle.geometry.specs.Rectangle.{rectangle, is_empty, join, joins, intersection}
use Rattle.geometry.proofs.Rectangles.{Within, join-within, joins-within, apart_within}
use Rattle.characters.specs.Utf8.{chars}
use Rattle.characters.specs.Lines.{before, lines, without_return}
use Rattle.characters.proofs.Folds.{length-chars}
use Rattle.characters.proofs.Feeds.{length-without_return}
use Rattle.line.specs.declared.MonoFont.{MonoFont}
use Rattle.line.specs.declared.MonoTextStyle.{MonoTextStyle}
use Rattle.line.specs.Line.{character_width, spacing, top_edge, measured_width, ink_rows}
use Rattle.line.specs.Line
use Rattle.line.specs.Limits.{FontLimits}
use Rattle.line.proofs.Advances.{advance_width}
use Rattle.line.proofs.Ink.{rows_low}
use Rattle.text.specs.declared.Alignment.{Alignment}
use Rattle.text.specs.declared.Alignment.TheVariants.{Left, Center, Right}
use Rattle.text.specs.declared.LineHeight.{LineHeight}
use Rattle.text.specs.declared.TextStyle.{TextStyle}
use Rattle.text.specs.Text.{Text, text_of, aligned_start, line_height, place_line, place_lines, placed_lines, nowhere, line_ink, ink_box}
use Rattle.text.specs.Lines.{feed_count, start_reach, is_below}
use Rattle.text.specs.Limits.{height_value, TextLimits}
use Rattle.text.proofs.Exact.{length_line}
use Rattle.text.proofs.Places.{height_small}

-- ---- lines

length_before : (c : ℕ) (ls : List (List ℕ)) → length (before c ls) ≡ length ls
length_before c [] = refl
length_before c (l ∷ ls) = refl

-- "n feeds give n + 1 lines"
pub length-lines : (t : List ℕ) → length (lines t) ≡ suc (feed_count t)
unfolding lines feed_count
length-lines [] = refl
length-lines (c ∷ cs) = go (length-lines cs) (eqb c 0x0A)
  where
    go : length (lines cs) ≡ suc (feed_count cs) → (b : Bool) → length (cond b ([] ∷ lines cs) (before c (lines cs))) ≡ suc (cond b 1 0 + feed_count cs)
    go ih true = omega (arith, ih)
    go ih false = omega (arith, ih, length_before c (lines cs))

-- where a line that is at most k wide can start
module _ (x w k : ℕ) (h : w ≤ k) where
  start_past : (a : Alignment) → x - start_reach a k ≤ aligned_start a x w
  unfolding start_reach aligned_start
  start_past Left = omega arith
  start_past Center = omega arith
  start_past Right = omega arith

  start-to : (a : Alignment) → aligned_start a x w ≤ x + start_reach a k
  unfolding start_reach aligned_start
  start-to Left = omega arith
  start-to Center = omega arith
  start-to Right = omega arith

reach_near : (a : Alignment) (w : ℕ) → start_reach a w ≤ w + 1
unfolding start_reach
reach_near Left w = omega arith
reach_near Center w = omega arith
reach_near Right w = omega arith

-- the columns are found in 32 bits
module _ (a : Alignment) (n x y w r : ℕ) (h : LineHeight) (limits : TextLimits n x y h) (small : w ≤ 1_048_576) (e : r ≡ start_reach a w) where
  pub reach-fits : Fits w32 (x + r)
  reach-fits = omega (arith, reach_near a w)

  pub right-fits : Fits w32 (x + r + w)
  right-fits = omega (arith, reach_near a w)

-- the lines of a text of n bytes, from `first` on, the last no lower than `span` below it: each one's ink box stands between the columns that the
-- widest line could reach, and between the first row of the first line's ink and the last of the last line's
module _ (m : MonoFont) (t : Text) (n first span : ℕ) where
  abbrev widest : ℕ
  widest = n * (character_width m + spacing m)

  abbrev reach : ℕ
  reach = start_reach t.text_style.alignment widest

  abbrev height : ℕ
  height = line_height m t.text_style.line_height

  abbrev rows : Rectangle
  rows = ink_rows m t.character_style

  abbrev around : Rectangle
  around = rectangle (t.position.x - reach) (top_edge m t.text_style.baseline first + rows.top) (t.position.x + reach + widest - (t.position.x - reach)) (span + rows.height)

  narrow : (l : List ℕ) → length l ≤ n → length (chars l) * (character_width m + spacing m) ≤ widest
  narrow l h = mul-le-mul_right (character_width m + spacing m) (omega (arith, length-chars l))

  line-within : (l : List ℕ) (at : ℕ) → length l ≤ n → first ≤ at → at ≤ first + span → Within (line_ink m t (place_line m t l at)) around
  unfolding line_ink place_line Line.ink_box measured_width
  line-within l at h p q c r i =
      let w : measured_width m (length (chars l)) ≤ widest = omega (arith, narrow l h) in
      omega (arith, narrow (without_return l) (omega (arith, length-without_return l)), advance_width m t.character_style (length (chars (without_return l))), start_past t.position.x _ widest w t.text_style.alignment, start-to t.position.x _ widest w t.text_style.alignment)

  lines-within : (ls : List (List ℕ)) (at : ℕ) (area : Rectangle) → ((l : List ℕ) → Memᴰ l ls → length l ≤ n) → first ≤ at → at + length ls * height ≤ first + span + height → Within area around
      → Within (joins area (map (line_ink m t) (place_lines m t ls at))) around
  unfolding joins place_lines
  lines-within [] at area s p q h = h
  lines-within (l ∷ ls) at area s p q h =
      lines-within ls (at + height) (join area (line_ink m t (place_line m t l at))) (λ k i. s k (Memᴰ.tail i)) (omega arith) (omega arith)
      (join-within around area (line_ink m t (place_line m t l at)) h (line-within l at (s l (Memᴰ.head refl)) p (omega arith)))

-- ---- `feed_count`

one_small : (b : Bool) → cond b 1 0 ≤ 1
one_small true = omega arith
one_small false = omega arith

byte_number : (b : Bool) → bool_byte b ≡ cond b 1 0
byte_number true = refl
byte_number false = refl

pub feeds_summed : (t : List ℕ) → sum_by (λ c. bool_byte (eqb c 0x0A)) t ≡ feed_count t
unfolding feed_count
feeds_summed [] = refl
feeds_summed (c ∷ cs) = sum_by-cons _ c cs ∙ rw byte_number (ap (λ n. cond (eqb c 0x0A) 1 0 + n) (feeds_summed cs))

-- ---- `most_width` and `lines_span`

pub few_feeds : (t : List ℕ) → feed_count t ≤ length t
unfolding feed_count
few_feeds [] = omega arith
few_feeds (c ∷ cs) = omega (arith, one_small (eqb c 0x0A), few_feeds cs)

module _ (m : MonoFont) (font : FontLimits m) (text : List ℕ) (short : length text ≤ 4_096) where
  pub width_most : length text * (character_width m + spacing m) ≤ 1_048_576
  width_most = let p : character_width m + spacing m ≤ 128 = omega arith in omega (arith, mul-le-mul short p)

  pub width_fits : Fits w32 (length text * (character_width m + spacing m))
  width_fits = omega (arith, width_most)

  module _ (h : LineHeight) (small : height_value h ≤ 1_000) (feeds lower : ℕ) (ef : feeds ≡ feed_count text) (el : lower ≡ line_height m h) where
    pub span_is : feeds * lower ≡ feed_count text * line_height m h
    span_is = rw (ef, el)

    pub span_small : feeds * lower ≤ 4_194_304
    span_small =
        let p : feed_count text ≤ 4_096 = omega (arith, few_feeds text) in
        let most : feed_count text * line_height m h ≤ 4_096_000 = mul-le-mul p (height_small m font h small) in
        rw (ef, el) (omega (arith, most))

    pub span_fits : Fits w32 (feeds * lower)
    span_fits = omega (arith, span_small)

-- ---- the rows of ink are found in 32 bits

module _ (m : MonoFont) (s : MonoTextStyle) (font : FontLimits m) (rows : Rectangle) (er : rows ≡ ink_rows m s) (n x y : ℕ) (h : LineHeight) (limits : TextLimits n x y h) (offset edge : ℕ) (ee : edge ≡ y - offset) where
  low : rows.top + rows.height ≤ 510
  low = rw er (rows_low m s font)

  pub top_fits : Fits w32 (edge + rows.top)
  top_fits = omega (arith, low)

  module _ (top span : ℕ) (et : top ≡ edge + rows.top) (small : span ≤ 4_194_304) where
    pub span_end_fits : Fits w32 (top + span)
    span_end_fits = omega (arith, low)

    pub foot-fits : Fits w32 (top + span + rows.height)
    foot-fits = omega (arith, low)

-- ---- `is_apart`, and `starts_below` before it: a clip above the ink box, beside it or below it, or a text without ink

module _ (m : MonoFont) (text : List ℕ) (x y : ℕ) (ts : TextStyle) (s : MonoTextStyle) where
  abbrev whole : Text
  whole = text_of text x y s ts

  abbrev spanned : ℕ
  spanned = feed_count text * line_height m ts.line_height

  abbrev Apart : Rectangle → Type 0
  Apart clip = is_empty (intersection (ink_box m whole) clip) ≡ true

  ink-within : Within (ink_box m whole) (around m whole (length text) y spanned)
  unfolding ink_box placed_lines
  ink-within =
      lines-within m whole (length text) y spanned (lines text) y (nowhere whole) (λ l i. length_line text l i) (omega arith) (rw (length-lines text) (omega arith))
      (λ c r i. absurd (omega arith))

  pub apart_above : (clip : Rectangle) → is_below clip (top_edge m ts.baseline y) ≡ true → Apart clip
  unfolding is_below
  apart_above clip e = let h = leb-true clip.height (top_edge m ts.baseline y - clip.top) e in apart_within _ _ clip ink-within (λ c r i j. omega arith)

  module _ (clip rows : Rectangle) (er : rows ≡ ink_rows m s) where
    -- no row counts
    pub apart_none : rows.height ≡ 0 → Apart clip
    unfolding ink_box line_ink Line.ink_box
    apart_none h =
        let k = ap (λ (a : Rectangle). a.height) er in
        let none = rectangle 0 0 0 0 in
        apart_within (ink_box m whole) none clip (joins-within none (line_ink m whole) (nowhere whole) (placed_lines m whole) (λ c r i. absurd (omega arith)) (λ l q c r i. absurd (omega arith))) (λ c r i j. omega arith)

    module _ (edge top : ℕ) (ee : edge ≡ top_edge m ts.baseline y) (et : top ≡ edge + rows.top) where
      pub apart_first : (room : ℕ) → room ≡ top - clip.top → clip.height ≤ room → Apart clip
      apart_first room e h = let t = ap (λ (a : Rectangle). a.top) er in apart_within _ _ clip ink-within (λ c r i j. omega arith)

      pub apart_below : (span : ℕ) → span ≡ spanned → leb (top + span + rows.height) clip.top ≡ true → Apart clip
      apart_below span e h =
          let t = ap (λ (a : Rectangle). a.top) er in
          let k = ap (λ (a : Rectangle). a.height) er in
          apart_within _ _ clip ink-within (λ c r i j. omega (arith, leb-true (top + span + rows.height) clip.top h))

  module _ (clip : Rectangle) (widest reach : ℕ) (ew : widest ≡ length text * (character_width m + spacing m)) (er : reach ≡ start_reach ts.alignment widest) where
    pub apart_left : (from room : ℕ) → from ≡ x - reach → room ≡ from - clip.left → clip.width ≤ room → Apart clip
    apart_left from room ef e h = let k = rw ew at er in apart_within _ _ clip ink-within (λ c r i j. omega arith)

    pub apart_right : leb (x + reach + widest) clip.left ≡ true → Apart clip
    apart_right h = let k = rw ew at er in apart_within _ _ clip ink-within (λ c r i j. omega (arith, leb-true (x + reach + widest) clip.left h))
