-- Laws of bitmap lines put into the rows of an atlas: its bytes after one line, and what all lines keep. Assumes nothing.
use Prim.Native.Nat.{ℕ, suc, ◌+◌, ◌-◌, ◌*◌, ◌/◌, ◌%◌, ◌^◌, ◌≤◌, ◌<◌}
use native.Mathlib.Nat.{zero-add, le_refl, mul-le-mul_right}
use native.Mathlib.Omega.{arith}
use mathlib.Core.Path.{◌≡◌, sym, ap, ◌∙◌}
use mathlib.Core.List.{List, [], ◌∷◌, ◌++◌, append_assoc}
use mathlib.Core.Logic.{◌⊎◌, ⊎_elim}
use lib.ListN.{length, get_or, take, drop, length-drop, get_or-append}
use lib.Seq.{length-take-le, take-append-le, drop-append-le, get_or-append-add, get_or-take, get_or-drop}
use lib.Bits.{bit_or, or_lt}
use borrow.Rule.Slice.PartMut.{put_mid, post_of, same_len_mid, take_put}
use Rattle.geometry.specs.Layer.{map_indexed}
use Rattle.geometry.proofs.Layers.{length-map_indexed, map_indexed_at}
use Rattle.bdf.specs.declared.reader.BoundingBox.{BoundingBox}
use Rattle.bdf.specs.Font.{Glyph, ink_left, ink_top, glyph_count, stride, atlas_size}
use Rattle.bdf.specs.Writing.{with_bits, put_row, put_rows, put_glyphs, InCell, GoodGlyph, GoodGlyphs}
use Rattle.bdf_lines.proofs.Numbers.{lt_or_le}
use Rattle.bdf.proofs.Bits.{line_bit, with_bits-bit, bits_in_small}

-- ---- a part of a list mapped and put back

abbrev mapped_part : (ℕ → ℕ → ℕ) → ℕ → ℕ → List ℕ → List ℕ
mapped_part f at n xs = map_indexed f 0 (take n (drop at xs))

abbrev with_part : (ℕ → ℕ → ℕ) → ℕ → ℕ → List ℕ → List ℕ
with_part f at n xs = put_mid at n xs (mapped_part f at n xs)

module _ (f : ℕ → ℕ → ℕ) (at n : ℕ) (xs : List ℕ) (room : at + n ≤ length xs) where
  length_part : length (take n (drop at xs)) ≡ n
  length_part = length-take-le n (drop at xs) (rw length-drop (omega arith))

  length-put : length (with_part f at n xs) ≡ length xs
  length-put = same_len_mid at n xs (mapped_part f at n xs) (length-map_indexed f 0 (take n (drop at xs)))

  -- an element from `at` on
  from-part : (m : ℕ) → get_or (with_part f at n xs) (at + m) 0 ≡ get_or (mapped_part f at n xs ++ post_of at n xs) m 0
  from-part m =
      rw (length-take-le at xs (omega arith)) at (get_or-append-add (take at xs) (mapped_part f at n xs ++ post_of at n xs) m 0)

  put_in : (j : ℕ) → j < n → get_or (with_part f at n xs) (at + j) 0 ≡ f j (get_or xs (at + j) 0)
  put_in j h =
      let l : j < length (take n (drop at xs)) = rw length_part h in
      from-part j ∙ get_or-append (mapped_part f at n xs) (post_of at n xs) 0 j (rw length-map_indexed l) ∙ map_indexed_at f 0 (take n (drop at xs)) j l
      ∙ rw (zero-add j, get_or-take n (drop at xs) j 0 h, get_or-drop at xs j 0)

  put-before : (p : ℕ) → p < at → get_or (with_part f at n xs) p 0 ≡ get_or xs p 0
  put-before p h = sym (get_or-take at _ p 0 h) ∙ ap (λ (l : List ℕ). get_or l p 0) (take_put at n xs (mapped_part f at n xs) (omega arith)) ∙ get_or-take at xs p 0 h

  put-after : (p : ℕ) → at + n ≤ p → get_or (with_part f at n xs) p 0 ≡ get_or xs p 0
  put-after p h =
      let e : at + (n + (p - (at + n))) ≡ p = omega arith in
      let ln : length (mapped_part f at n xs) ≡ n = length-map_indexed f 0 (take n (drop at xs)) ∙ length_part in
      let m : get_or (mapped_part f at n xs ++ post_of at n xs) (n + (p - (at + n))) 0 ≡ get_or (post_of at n xs) (p - (at + n)) 0 =
      rw ln at (get_or-append-add (mapped_part f at n xs) (post_of at n xs) (p - (at + n)) 0) in
      let q : get_or (with_part f at n xs) (at + (n + (p - (at + n)))) 0 ≡ get_or xs (at + (n + (p - (at + n)))) 0 =
      from-part (n + (p - (at + n))) ∙ m ∙ get_or-drop n (drop at xs) (p - (at + n)) 0 ∙ get_or-drop at xs (n + (p - (at + n))) 0 in
      rw e at q

  -- what the map keeps, each element of the list keeps
  put_keeps : (P : ℕ → Type 0) → ((j x : ℕ) → P x → P (f j x)) → ((p : ℕ) → P (get_or xs p 0)) → (p : ℕ) → P (get_or (with_part f at n xs) p 0)
  put_keeps P keep h p = ⊎_elim
      (λ (u : p < at). rw (put-before p u) (h p))
      (λ (u : at ≤ p). ⊎_elim
      (λ (v : p < at + n).
      let e : at + (p - at) ≡ p = omega arith in
      let q : P (get_or (with_part f at n xs) (at + (p - at)) 0) = rw (put_in (p - at) (omega arith)) (keep (p - at) _ (h (at + (p - at)))) in
      rw e at q)
      (λ (v : at + n ≤ p). rw (put-after p v) (h p))
      (lt_or_le p (at + n)))
      (lt_or_le p at)

  -- a list after it stays after it
  put-append : (ys : List ℕ) → with_part f at n (xs ++ ys) ≡ with_part f at n xs ++ ys
  put-append ys =
      let l : n ≤ length (drop at xs) = rw length-drop (omega arith) in
      rw (take-append-le at xs ys (omega arith), drop-append-le at xs ys (omega arith), take-append-le n (drop at xs) ys l, drop-append-le n (drop at xs) ys l)
      (simp append_assoc)

-- ---- a bitmap line put into an atlas

-- the row of the atlas that takes line i of a bitmap, of glyph k with the box b, and the pixel after its bits
abbrev pub line_row : BoundingBox → ℕ → BoundingBox → ℕ → ℕ
line_row cell k b i = k / 16 * cell.height + (ink_top cell b + i)

abbrev pub line_end : BoundingBox → ℕ → BoundingBox → ℕ
line_end cell k b = k % 16 * cell.width + (ink_left cell b + b.width)

module _ (cell : BoundingBox) (k : ℕ) (b : BoundingBox) (i bits : ℕ) (atlas : List ℕ) (room : line_row cell k b i * stride cell + stride cell ≤ length atlas) where
  pub length-put_row : length (put_row cell k b i bits atlas) ≡ length atlas
  unfolding put_row
  length-put_row = length-put (with_bits bits (line_end cell k b)) (line_row cell k b i * stride cell) (stride cell) atlas room

  -- what lies after the atlas stays
  pub row_append : (rest : List ℕ) → put_row cell k b i bits (atlas ++ rest) ≡ put_row cell k b i bits atlas ++ rest
  unfolding put_row
  row_append rest = put-append (with_bits bits (line_end cell k b)) (line_row cell k b i * stride cell) (stride cell) atlas room rest

  pub bytes_put_row : ((p : ℕ) → get_or atlas p 0 < 256) → (p : ℕ) → get_or (put_row cell k b i bits atlas) p 0 < 256
  unfolding put_row with_bits
  bytes_put_row =
      put_keeps (with_bits bits (line_end cell k b)) (line_row cell k b i * stride cell) (stride cell) atlas room (λ x. x < 256)
      (λ j x h. or_lt 8 x _ h (bits_in_small bits (line_end cell k b) j))

  -- a byte of the row
  row-own : (j : ℕ) → j < stride cell
      → get_or (put_row cell k b i bits atlas) (line_row cell k b i * stride cell + j) 0 ≡ with_bits bits (line_end cell k b) j (get_or atlas (line_row cell k b i * stride cell + j) 0)
  unfolding put_row
  row-own = put_in (with_bits bits (line_end cell k b)) (line_row cell k b i * stride cell) (stride cell) atlas room

  -- a bit of the row
  pub row_bit : (y j q : ℕ) → j < stride cell → q < 8 → line_row cell k b i ≡ y
      → get_or (put_row cell k b i bits atlas) (y * stride cell + j) 0 / 2 ^ (7 - q) % 2
      ≡ bit_or (get_or atlas (y * stride cell + j) 0 / 2 ^ (7 - q) % 2) (line_bit bits (line_end cell k b) (8 * j + q))
  row_bit y j q h l e = rw (← e) (ap (λ (v : ℕ). v / 2 ^ (7 - q) % 2) (row-own j h) ∙ with_bits-bit bits (line_end cell k b) j q _ l)

  -- a byte of another row
  pub row_other : (y j : ℕ) → j < stride cell → (line_row cell k b i < y) ⊎ (y < line_row cell k b i) → get_or (put_row cell k b i bits atlas) (y * stride cell + j) 0 ≡ get_or atlas (y * stride cell + j) 0
  unfolding put_row
  row_other y j h = ⊎_elim
      (λ (u : line_row cell k b i < y).
      let m : (line_row cell k b i + 1) * stride cell ≤ y * stride cell = mul-le-mul_right (stride cell) (omega arith) in
      put-after (with_bits bits (line_end cell k b)) (line_row cell k b i * stride cell) (stride cell) atlas room (y * stride cell + j) (omega arith))
      (λ (u : y < line_row cell k b i).
      let m : (y + 1) * stride cell ≤ line_row cell k b i * stride cell = mul-le-mul_right (stride cell) (omega arith) in
      put-before (with_bits bits (line_end cell k b)) (line_row cell k b i * stride cell) (stride cell) atlas room (y * stride cell + j) (omega arith))

-- ---- all lines of glyphs

-- line i of a bitmap with the box b
pub record BitmapLine (cell b : BoundingBox) (i bits : ℕ) : Type 0 where
  pub in_cell : InCell cell b
  pub below : i < b.height
  pub small : bits < 2 ^ b.width

-- it lies in the atlas
pub line_room : (cell b : BoundingBox) (k i bits n : ℕ) → BitmapLine cell b i bits → k < n → line_row cell k b i * stride cell + stride cell ≤ atlas_size cell n
unfolding atlas_size ink_top
line_room cell b k i bits n l h =
    let m : (k / 16 + 1) * cell.height ≤ (n + 15) / 16 * cell.height = mul-le-mul_right cell.height (omega arith) in
    let t : ink_top cell b + i < cell.height = omega (arith, l.in_cell.foot, l.in_cell.head, l.below) in
    let r : (line_row cell k b i + 1) * stride cell ≤ (n + 15) / 16 * cell.height * stride cell = mul-le-mul_right (stride cell) (omega arith) in
    omega arith

-- the lines of a bitmap with the box b from line i on
pub record BitmapLines (cell b : BoundingBox) (i : ℕ) (rows : List ℕ) : Type 0 where
  pub in_cell : InCell cell b
  pub small : (m : ℕ) → get_or rows m 0 < 2 ^ b.width
  pub few : i + length rows ≤ b.height

pub first_line : (cell b : BoundingBox) (i bits : ℕ) (rows : List ℕ) → BitmapLines cell b i (bits ∷ rows) → BitmapLine cell b i bits
first_line cell b i bits rows l = record { in_cell = l.in_cell; below = omega (arith, l.few); small = l.small 0 }

pub next-lines : (cell b : BoundingBox) (i bits : ℕ) (rows : List ℕ) → BitmapLines cell b i (bits ∷ rows) → BitmapLines cell b (i + 1) rows
next-lines cell b i bits rows l = record { in_cell = l.in_cell; small = λ m. l.small (suc m); few = omega (arith, l.few) }

pub all_lines : (cell : BoundingBox) (g : Glyph) → GoodGlyph cell g → BitmapLines cell g.bbx 0 g.rows
all_lines cell g h = record { in_cell = h.in_cell; small = h.small; few = omega (arith, h.few) }

-- what each line keeps, they keep together
pub rows_keep : (P : List ℕ → Type 0) (cell : BoundingBox) (k : ℕ) (b : BoundingBox) (i : ℕ) (rows atlas : List ℕ) → BitmapLines cell b i rows
    → ((m bits : ℕ) (xs : List ℕ) → i ≤ m → BitmapLine cell b m bits → P xs → P (put_row cell k b m bits xs)) → P atlas → P (put_rows cell k b i rows atlas)
unfolding put_rows
rows_keep P cell k b i [] atlas l keep p = p
rows_keep P cell k b i (bits ∷ rows) atlas l keep p =
    rows_keep P cell k b (i + 1) rows (put_row cell k b i bits atlas) (next-lines cell b i bits rows l) (λ m bits xs h. keep m bits xs (omega arith))
    (keep i bits atlas (le_refl i) (first_line cell b i bits rows l) p)

pub glyphs_keep : (P : List ℕ → Type 0) (cell : BoundingBox) (k : ℕ) (gs : List Glyph) (atlas : List ℕ) → GoodGlyphs cell gs
    → ((m : ℕ) (b : BoundingBox) (i bits : ℕ) (xs : List ℕ) → k ≤ m → m < k + glyph_count gs → BitmapLine cell b i bits → P xs → P (put_row cell m b i bits xs))
    → P atlas → P (put_glyphs cell k gs atlas)
unfolding put_glyphs glyph_count GoodGlyphs
glyphs_keep P cell k [] atlas good keep p = p
glyphs_keep P cell k (g ∷ gs) atlas good keep p =
    glyphs_keep P cell (k + 1) gs _ good.1 (λ m b i bits xs h l. keep m b i bits xs (omega arith) (omega arith))
    (rows_keep P cell k g.bbx 0 g.rows atlas (all_lines cell g good.0) (λ i bits xs h. keep k g.bbx i bits xs (le_refl k) (omega arith)) p)
