-- How many characters of a text are not listed: what its lines' bytes and the mapping say, whatever place, style, atlas and clip it has.
-- Assumes nothing.
use Prim.Native.Nat.{ℕ, suc, ◌+◌, ◌≤◌}
use native.Mathlib.Omega.{arith}
use mathlib.Core.Path.{◌≡◌, refl, ap}
use mathlib.Core.Bool.{Bool, true, false, cond}
use mathlib.Core.List.{List, [], ◌∷◌}
use lib.Dec.{eqb}
use lib.ListN.{length}
use Rattle.characters.specs.Utf8.{chars}
use Rattle.characters.specs.Lines.{before, lines, without_return}
use Rattle.characters.proofs.Folds.{length-chars}
use Rattle.characters.proofs.Feeds.{length-without_return}
use Rattle.line.specs.declared.MonoFont.{MonoFont}
use Rattle.line.specs.Line.{Font, unlisted}
use Rattle.line.proofs.Unlisted.{unlisted_few}
use Rattle.text.specs.Text.{Text, place_line, place_lines, placed_lines, line_replaced, lines_replaced, replaced}

-- ---- the count by the lines' bytes alone

pub unlisted_in : List ℕ → List (List ℕ) → ℕ
unlisted_in mapping [] = 0
unlisted_in mapping (l ∷ ls) = unlisted mapping (chars (without_return l)) + unlisted_in mapping ls

placed_unlisted : (m : MonoFont) (t : Text) (mapping : List ℕ) (ls : List (List ℕ)) (y : ℕ) → lines_replaced mapping (place_lines m t ls y) ≡ unlisted_in mapping ls
unfolding lines_replaced place_lines line_replaced place_line unlisted_in
placed_unlisted m t mapping [] y = refl
placed_unlisted m t mapping (l ∷ ls) y = ap (λ n. unlisted mapping (chars (without_return l)) + n) (placed_unlisted m t mapping ls _)

-- neither place, style and alignment of a text nor its font's atlas and metrics matter
pub replaced-lines : (f : Font) (t : Text) → replaced f t ≡ unlisted_in f.mapping (lines t.text)
unfolding replaced placed_lines
replaced-lines f t = placed_unlisted f.mono t f.mapping (lines t.text) t.position.y

-- ---- no more are counted than the text has bytes

total : List (List ℕ) → ℕ
total [] = 0
total (l ∷ ls) = length l + total ls

total-lines : (s : List ℕ) → total (lines s) ≤ length s
unfolding lines total
total-lines [] = omega arith
total-lines (c ∷ cs) = go (total-lines cs) (eqb c 0x0A)
  where
    with-byte : (ls : List (List ℕ)) → total (before c ls) ≤ suc (total ls)
    with-byte [] = omega arith
    with-byte (l ∷ ls) = omega arith

    go : total (lines cs) ≤ length cs → (b : Bool) → total (cond b ([] ∷ lines cs) (before c (lines cs))) ≤ suc (length cs)
    go ih true = omega arith
    go ih false = omega (arith, with-byte (lines cs))

unlisted-total : (mapping : List ℕ) (ls : List (List ℕ)) → unlisted_in mapping ls ≤ total ls
unfolding unlisted_in total
unlisted-total mapping [] = omega arith
unlisted-total mapping (l ∷ ls) =
    let line = without_return l in
    omega (arith, unlisted-total mapping ls, unlisted_few mapping (chars line), length-chars line, length-without_return l)

pub replaced_few : (f : Font) (t : Text) → replaced f t ≤ length t.text
replaced_few f t = omega (arith, replaced-lines f t, unlisted-total f.mapping (lines t.text), total-lines t.text)
