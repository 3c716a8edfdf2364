-- Where the characters of a line stand, and how far a line advances. Assumes nothing.
use Prim.Native.Nat.{ℕ, zero, suc, ◌+◌, ◌-◌, ◌*◌, ◌≤◌}
use native.Mathlib.Nat.{mul-le-mul}
use native.Mathlib.Omega.{arith}
use mathlib.Core.Path.{◌≡◌, refl, ◌∙◌}
use mathlib.Core.Bool.{Bool, true, false, cond}
use mathlib.Core.List.{List, [], ◌∷◌}
use lib.ListN.{length}
use mir.Syntax.{w32}
use mir.Val.{Fits}
use Rattle.geometry.specs.Rectangle.{rectangle}
use Rattle.geometry.specs.Layer.{Layer, transparent, over, filled}
use Rattle.geometry.proofs.Layers.{filled_out}
use Rattle.characters.specs.Utf8.{chars}
use Rattle.characters.proofs.Folds.{length-chars}
use Rattle.atlas.specs.Atlas.{glyph}
use Rattle.line.specs.declared.MonoFont.{MonoFont}
use Rattle.line.specs.declared.MonoTextStyle.{MonoTextStyle}
use Rattle.line.specs.Line.{Font, character_width, character_height, spacing, text_color, background_color, is_painted, character, glyphs, spaced, advance}
use Rattle.line.specs.Limits.{FontLimits}

-- ---- the advance: embedded-graphics walks the line's elements, and the closed form is where the walk ends

-- where the characters of a line end, the first after `gap`, each other after the spacing
pub walked : MonoFont → ℕ → List ℕ → ℕ → ℕ
walked m gap [] x = x
walked m gap (i ∷ is) x = walked m (spacing m) is (x + gap + character_width m)

pub walked_end : (m : MonoFont) (gap x : ℕ) → walked m gap [] x ≡ x
unfolding walked
walked_end m gap x = refl

pub walked_next : (m : MonoFont) (gap i : ℕ) (is : List ℕ) (x : ℕ) → walked m gap (i ∷ is) x ≡ walked m (spacing m) is (x + gap + character_width m)
unfolding walked
walked_next m gap i is x = refl

walked_more : (m : MonoFont) (i : ℕ) (is : List ℕ) (gap x : ℕ) → walked m gap (i ∷ is) x ≡ x + gap + spaced m (suc (length is))
unfolding walked spaced
walked_more m i [] gap x = omega arith
walked_more m i (j ∷ is) gap x = walked_more m j is (spacing m) (x + gap + character_width m) ∙ omega arith

-- n × cw + (n − 1) × s is where the walk ends
pub walked_spaced : (m : MonoFont) (is : List ℕ) (x : ℕ) → walked m 0 is x ≡ x + spaced m (length is)
unfolding walked spaced
walked_spaced m [] x = omega arith
walked_spaced m (i ∷ is) x = walked_more m i is 0 x ∙ omega arith

-- ---- "Character k of n, from 0, stands at x + k × (cw + s)"

module _ (f : Font) (s : MonoTextStyle) (x top : ℕ) where
  place : ℕ → ℕ
  place k = x + k * (character_width f.mono + spacing f.mono)

  -- the gap before character k: none before the first
  gap_before : ℕ → Layer
  gap_before zero = transparent
  gap_before (suc k) = filled (rectangle (place k + character_width f.mono) top (spacing f.mono) (character_height f.mono)) (background_color s)

  -- the characters from number k on, each in its place, after the gap before it
  pub in_place : ℕ → List ℕ → Layer
  in_place k [] = transparent
  in_place k (i ∷ is) = over (in_place (suc k) is) (over (glyph f.atlas f.mono.atlas (text_color s) (background_color s) i (place k) top) (gap_before k))

  module _ (c r : ℕ) where
    after : (k : ℕ) (is : List ℕ) (grey : ℕ) → glyphs f s (spacing f.mono) is (place k + character_width f.mono) top c r grey ≡ in_place (suc k) is c r grey
    unfolding glyphs character in_place gap_before place
    after k [] grey = refl
    after k (i ∷ is) grey =
        let e : place k + character_width f.mono + spacing f.mono ≡ place (suc k) = omega arith in
        rw (e, after (suc k) is)

    -- the walk draws each character in its place
    pub glyphs_in_place : (is : List ℕ) (grey : ℕ) → glyphs f s 0 is x top c r grey ≡ in_place 0 is c r grey
    unfolding glyphs character in_place gap_before place
    glyphs_in_place [] grey = refl
    glyphs_in_place (i ∷ is) grey =
        let e : x + 0 ≡ place 0 = omega arith in
        rw (filled_out (rectangle x top 0 (character_height f.mono)) (background_color s) c r grey (λ h. omega arith), e, after 0 is)

-- no advance is shorter than the characters
pub spaced-advance : (m : MonoFont) (s : MonoTextStyle) (n : ℕ) → spaced m n ≤ advance m s n
unfolding advance spaced
spaced-advance m s n = go n (is_painted s)
  where
    go : (n : ℕ) (t : Bool) → spaced m n ≤ cond t (spaced m n) (n * (character_width m + spacing m))
    go n true = omega arith
    go zero false = omega arith
    go (suc n) false = omega arith

-- ---- how wide the characters of a text of few bytes stand

module _ (m : MonoFont) (limits : FontLimits m) (text : List ℕ) (short : length text ≤ 65_536) (n : ℕ) (e : n ≡ length (chars text)) where
  pub count_fits : Fits w32 n
  count_fits = omega (arith, length-chars text)

  pub width_small : n * (character_width m + spacing m) ≤ 8_388_608
  width_small =
      let p : n ≤ 65_536 = omega (arith, length-chars text) in
      let q : character_width m + spacing m ≤ 128 = omega (arith, limits) in
      mul-le-mul p q

  pub width_fits : Fits w32 (n * (character_width m + spacing m))
  width_fits = omega (arith, width_small)

-- ---- the advance from the characters' width

-- n × cw + (n − 1) × s is n × (cw + s) − s, at least 0
spaced_minus : (m : MonoFont) (n : ℕ) → spaced m n ≡ n * (character_width m + spacing m) - spacing m
unfolding spaced
spaced_minus m zero = omega arith
spaced_minus m (suc n) = omega arith

module _ (m : MonoFont) (s : MonoTextStyle) (n : ℕ) where
  pub advance_width : advance m s n ≤ n * (character_width m + spacing m)
  unfolding advance
  advance_width = go (is_painted s)
    where
      go : (t : Bool) → cond t (spaced m n) (n * (character_width m + spacing m)) ≤ n * (character_width m + spacing m)
      go true = omega (arith, spaced_minus m n)
      go false = omega arith

  pub next_fits : (text : List ℕ) (x r : ℕ) → FontLimits m → length text ≤ 65_536 → n ≡ length (chars text) → x ≤ 8_388_608 → r ≡ advance m s n → Fits w32 (x + r)
  next_fits text x r limits short e near d = omega (arith, width_small m limits text short n e, advance_width)

  module _ (t : Bool) (e : t ≡ is_painted s) (width : ℕ) (w : width ≡ n * (character_width m + spacing m)) where
    pub advance_painted : t ≡ true → (r : ℕ) → r ≡ width - spacing m → r ≡ advance m s n
    unfolding advance
    advance_painted h r d = rw (← e, h, spaced_minus m n, ← w) d

    pub advance_unpainted : t ≡ false → width ≡ advance m s n
    unfolding advance
    advance_unpainted h = rw (← e, h) w
