-- A font as it is written: bitmap lines put one by one into the rows of the atlas, and what the functions that write need. Assumes nothing.
-- Serves contracts: nothing here has to be believed.
use Rattle.std.specs.Prelude.{ℕ, ◌+◌, ◌-◌, ◌*◌, ◌/◌, ◌%◌, ◌^◌, ◌≤◌, ◌<◌, cond, List, [], ◌∷◌, Result, Ok, Err, length, take, drop, get_or, leb}
use Rattle.std.specs.Int.Bits.{bit_or}
use borrow.Rule.Slice.PartMut.{put_mid}
use Rattle.geometry.specs.Layer.{map_indexed}
use Rattle.bdf.specs.declared.reader.BoundingBox.{BoundingBox}
use Rattle.bdf.specs.declared.reader.Reader.{Reader}
use Rattle.refusals.specs.declared.Refusal.{Refusal}
use Rattle.bdf.specs.declared.reader.Answer.{Answer}
use Rattle.bdf.specs.declared.reader.Answer.TheVariants.{Passed, Boxed, Encoded, Drawn}
use Rattle.bdf.specs.Reader.{baseline, spelling, step, after}
use Rattle.bdf.specs.Font.{Glyph, ink_left, ink_top, stride}

-- ---- a bitmap line in a row of the atlas

-- the eight pixels of byte j of a row in which the bits stand with the last of them before the pixel `end`
unfoldable pub bits_in : ℕ → ℕ → ℕ → ℕ
bits_in bits end j = cond (leb (8 * j + 8) end) (bits / 2 ^ (end - (8 * j + 8)) % 256) (bits * 2 ^ (8 * j + 8 - end) % 256)

-- byte j of the row with the bits put into it
unfoldable pub with_bits : ℕ → ℕ → ℕ → ℕ → ℕ
with_bits bits end j b = bit_or b (bits_in bits end j)

-- bits from pixel `left` up to `end` of a row of n bytes
pub record BitsFit (left end bits n : ℕ) : Type 0 where
  pub ordered : left ≤ end
  pub narrow : end ≤ left + 64
  pub within : end ≤ 8 * n
  pub small : bits < 2 ^ (end - left)
  pub short : n ≤ 128

-- line i of a bitmap, of glyph k with the box b, put into an atlas
unfoldable pub put_row : BoundingBox → ℕ → BoundingBox → ℕ → ℕ → List ℕ → List ℕ
put_row cell k b i bits atlas =
    let n = stride cell in
    let at = (k / 16 * cell.height + (ink_top cell b + i)) * n in
    put_mid at n atlas (map_indexed (with_bits bits (k % 16 * cell.width + (ink_left cell b + b.width))) 0 (take n (drop at atlas)))

-- the lines of a bitmap from line i on
unfoldable pub put_rows : BoundingBox → ℕ → BoundingBox → ℕ → List ℕ → List ℕ → List ℕ
put_rows cell k b i [] atlas = atlas
put_rows cell k b i (bits ∷ rows) atlas = put_rows cell k b (i + 1) rows (put_row cell k b i bits atlas)

-- the bitmaps of glyphs, the first of them glyph k
unfoldable pub put_glyphs : BoundingBox → ℕ → List Glyph → List ℕ → List ℕ
put_glyphs cell k [] atlas = atlas
put_glyphs cell k (g ∷ gs) atlas = put_glyphs cell (k + 1) gs (put_rows cell k g.bbx 0 g.rows atlas)

-- a box that lies in a cell
pub record InCell (cell b : BoundingBox) : Type 0 where
  pub left : cell.x ≤ b.x
  pub right : b.x + b.width ≤ cell.x + cell.width
  pub foot : cell.y ≤ b.y
  pub head : b.y + b.height ≤ cell.y + cell.height

-- a cell within the limits
pub record GoodCell (cell : BoundingBox) : Type 0 where
  pub narrow : cell.width ≤ 64
  pub low : cell.height ≤ 64
  pub left : cell.x ≤ 2_000_000_000
  pub foot : cell.y ≤ 2_000_000_000
  pub baseline-fits : baseline cell ≤ 255

-- a bitmap of a box that lies in its cell
pub record GoodGlyph (cell : BoundingBox) (g : Glyph) : Type 0 where
  pub in_cell : InCell cell g.bbx
  pub small : (i : ℕ) → get_or g.rows i 0 < 2 ^ g.bbx.width
  pub few : length g.rows ≤ g.bbx.height

unfoldable pub GoodGlyphs : BoundingBox → List Glyph → Type 0
GoodGlyphs cell [] = Unit {0}
GoodGlyphs cell (g ∷ gs) = GoodGlyph cell g × GoodGlyphs cell gs

-- ---- lines of a file as they are written

-- what a line puts into the atlas of `size` bytes and the mapping after it; r is the reader before the line
unfoldable pub put : ℕ → Reader → Result Answer Refusal → List ℕ → List ℕ
put size r (Err n) out = out
put size r (Ok (Passed s)) out = out
put size r (Ok (Boxed s)) out = out
put size r (Ok (Encoded s v)) out = put_mid (size + r.mapping) (length (spelling v)) out (spelling v)
put size r (Ok (Drawn s bits)) out = put_row r.cell (r.glyphs - 1) r.bbx r.read bits out

-- what all lines put there
unfoldable pub put_lines : ℕ → Reader → List (List ℕ) → List ℕ → List ℕ
put_lines size r [] out = out
put_lines size r (l ∷ ls) out = put_lines size (after r (step r l)) ls (put size r (step r l) out)
