-- The atlas that is written, line by line, is the font's: followed at one pixel, which only one line of one glyph can set. Assumes nothing.
use Prim.Native.Nat.{ℕ, zero, suc, ◌+◌, ◌-◌, ◌*◌, ◌/◌, ◌%◌, ◌^◌, ◌≤◌, ◌<◌}
use native.Mathlib.Nat.{add-zero, add-suc, suc-add, zero-add, le_of_suc-le-suc, not-suc-le-zero, zero-div, mul-zero, zero-mul, eq-zero-or-pos, mul-le-mul_right, mod-lt, div-add-mod', div-lt_iff_lt-mul}
use native.Mathlib.Omega.{arith}
use mathlib.Core.Path.{◌≡◌, refl, sym, ap, ◌∙◌}
use mathlib.Core.Bool.{Bool, true, false, ◌&&◌}
use mathlib.Core.List.{List, [], ◌∷◌}
use mathlib.Core.Logic.{◌⊎◌, inl, inr, ⊎_elim}
use lib.ListN.{length, get_or, replicate, length-replicate, get_or-eq_default}
use lib.Seq.{ext_get_or}
use lib.Dec.{ltb, leb, eqb, leb-suc-suc}
use lib.Arith.{digits_div}
use lib.Bits.{or_zero_r}
use borrow.Author.Tests.{lt-ltb, le-ltb, le-leb, lt-leb, eq-eqb, ne_eqb}
use Rattle.bdf.specs.declared.reader.BoundingBox.{BoundingBox}
use Rattle.bdf.specs.Font.{Glyph, BdfFont, ink_left, ink_top, is_ink, glyph_at, glyph_count, is_set, bit, counted, stride, atlas_size, atlas_byte, atlas_of}
use Rattle.bdf.specs.Writing.{put_row, put_rows, put_glyphs, GoodGlyph, GoodGlyphs}
use Rattle.bdf_lines.proofs.Numbers.{lt_or_le}
use Rattle.bdf.proofs.Bits.{line_bit, line_in, line_past, line_before, line_none, line_moved, byte_of_bits}
use Rattle.bdf.proofs.Rows.{line_row, line_end, length-put_row, bytes_put_row, row_bit, row_other, BitmapLine, BitmapLines, line_room, first_line, next-lines, all_lines, rows_keep, glyphs_keep}

same_or_not : (a b : ℕ) → (a ≡ b) ⊎ ((a < b) ⊎ (b < a))
same_or_not a b = ⊎_elim (λ (u : a < b). inr (inl u)) (λ (u : b ≤ a). ⊎_elim (λ (v : b < a). inr (inr v)) (λ (v : a ≤ b). inl (omega arith)) (lt_or_le b a)) (lt_or_le a b)

-- a bit that is tested for 1
bit_of : (n : ℕ) → n % 2 ≡ bit (eqb (n % 2) 1)
bit_of n = ⊎_elim (λ (u : n % 2 < 1). rw (ne_eqb (n % 2) 1 (λ e. omega arith)) (omega arith)) (λ (u : 1 ≤ n % 2). rw (eq-eqb (n % 2) 1 (omega arith)) (omega arith)) (lt_or_le (n % 2) 1)

-- an atlas of n bytes, and its bit q of byte p
record BitIs (n p q v : ℕ) (atlas : List ℕ) : Type 0 where
  size : length atlas ≡ n
  bytes : (k : ℕ) → get_or atlas k 0 < 256
  pixel : get_or atlas p 0 / 2 ^ (7 - q) % 2 ≡ v

-- column c and row r of the cell in column gx and row gy of the cells, which is bit q of byte j of its row, in an atlas of n glyphs
module _ (cell : BoundingBox) (n gx gy c r j q : ℕ)
    (right : c < cell.width) (foot : r < cell.height) (across : gx < 16) (inside : j < stride cell) (eight : q < 8) (place : 8 * j + q ≡ gx * cell.width + c) where
  abbrev At : ℕ → List ℕ → Type 0
  At v atlas = BitIs (atlas_size cell n) ((gy * cell.height + r) * stride cell + j) q v atlas

  -- after a line that leaves some bit there
  after_line : (k : ℕ) (b : BoundingBox) (i bits v w : ℕ) (atlas : List ℕ) → BitmapLine cell b i bits → k < n → At v atlas
      → (line_row cell k b i * stride cell + stride cell ≤ length atlas → get_or (put_row cell k b i bits atlas) ((gy * cell.height + r) * stride cell + j) 0 / 2 ^ (7 - q) % 2 ≡ w)
      → At w (put_row cell k b i bits atlas)
  after_line k b i bits v w atlas l less a e =
      let room : line_row cell k b i * stride cell + stride cell ≤ length atlas = omega (arith, a.size, line_room cell b k i bits n l less) in
      record { size = length-put_row cell k b i bits atlas room ∙ a.size; bytes = bytes_put_row cell k b i bits atlas room a.bytes; pixel = e room }

  -- a line that has no bit there
  kept : (k : ℕ) (b : BoundingBox) (i bits v : ℕ) (atlas : List ℕ) → BitmapLine cell b i bits → k < n
      → (line_row cell k b i ≡ gy * cell.height + r → line_bit bits (line_end cell k b) (8 * j + q) ≡ 0) → At v atlas → At v (put_row cell k b i bits atlas)
  kept k b i bits v atlas l less dark a = after_line k b i bits v v atlas l less a (λ room. ⊎_elim
      (λ (u : line_row cell k b i ≡ gy * cell.height + r). row_bit cell k b i bits atlas room _ j q inside eight u ∙ rw (dark u, or_zero_r) a.pixel)
      (λ u. rw (row_other cell k b i bits atlas room (gy * cell.height + r) j inside u) a.pixel)
      (same_or_not (line_row cell k b i) (gy * cell.height + r)))

  -- a line of a glyph with another number has none
  other-dark : (k : ℕ) (b : BoundingBox) (i bits : ℕ) → BitmapLine cell b i bits → (k ≡ gy * 16 + gx → ⊥)
      → line_row cell k b i ≡ gy * cell.height + r → line_bit bits (line_end cell k b) (8 * j + q) ≡ 0
  unfolding ink_top ink_left
  other-dark k b i bits l differs e =
      let t : ink_top cell b + i < cell.height = omega (arith, l.in_cell.foot, l.in_cell.head, l.below) in
      let w : ink_left cell b + b.width ≤ cell.width = omega (arith, l.in_cell.left, l.in_cell.right) in
      let d : k / 16 ≡ gy = sym (digits_div (k / 16) t) ∙ ap (λ (v : ℕ). v / cell.height) e ∙ digits_div gy foot in
      ⊎_elim
      (λ (u : k % 16 < gx). let m : (k % 16 + 1) * cell.width ≤ gx * cell.width = mul-le-mul_right cell.width (omega arith) in line_past bits (line_end cell k b) (8 * j + q) (omega arith))
      (λ (u : gx ≤ k % 16). ⊎_elim
      (λ (z : gx < k % 16).
      let m : (gx + 1) * cell.width ≤ k % 16 * cell.width = mul-le-mul_right cell.width (omega arith) in
      line_before bits (line_end cell k b) (8 * j + q) b.width l.small (omega arith))
      (λ (z : k % 16 ≤ gx). absurd (differs (omega arith)))
      (lt_or_le gx (k % 16)))
      (lt_or_le (k % 16) gx)

  -- a line of this glyph that stands in another row
  own-dark : (k : ℕ) (b : BoundingBox) (i bits : ℕ) → k ≡ gy * 16 + gx → (ink_top cell b + i ≡ r → ⊥)
      → line_row cell k b i ≡ gy * cell.height + r → line_bit bits (line_end cell k b) (8 * j + q) ≡ 0
  own-dark k b i bits own differs e = let d : k / 16 ≡ gy = omega arith in let m : k / 16 * cell.height ≡ gy * cell.height = ap (λ (v : ℕ). v * cell.height) d in absurd (differs (omega arith))

  -- the line of this glyph that stands in this row
  own_line : (k : ℕ) (b : BoundingBox) (i bits : ℕ) (atlas : List ℕ) → BitmapLine cell b i bits → k < n → k ≡ gy * 16 + gx → ink_top cell b + i ≡ r → At 0 atlas
      → At (line_bit bits (ink_left cell b + b.width) c) (put_row cell k b i bits atlas)
  own_line k b i bits atlas l less own e a =
      let d : k / 16 ≡ gy = omega arith in
      let x : k % 16 ≡ gx = omega arith in
      after_line k b i bits 0 _ atlas l less a (λ room.
      row_bit cell k b i bits atlas room _ j q inside eight (rw (d, e)) ∙ rw (a.pixel, x, place) (line_moved bits (ink_left cell b + b.width) c (gx * cell.width)))

  -- the lines of this glyph from line i on, of rows below this one
  lines-past : (k : ℕ) (b : BoundingBox) (i v : ℕ) (rows atlas : List ℕ) → BitmapLines cell b i rows → k < n → k ≡ gy * 16 + gx → r < ink_top cell b + i → At v atlas
      → At v (put_rows cell k b i rows atlas)
  lines-past k b i v rows atlas l less own past a =
      rows_keep (At v) cell k b i rows atlas l (λ m bits xs h l s. kept k b m bits v xs l less (own-dark k b m bits own (λ e. omega arith)) s) a

  -- the same, where line i + m stands in this row
  lines_at : (k : ℕ) (b : BoundingBox) (i m : ℕ) (rows atlas : List ℕ) → BitmapLines cell b i rows → k < n → k ≡ gy * 16 + gx → ink_top cell b + (i + m) ≡ r → At 0 atlas
      → At (line_bit (get_or rows m 0) (ink_left cell b + b.width) c) (put_rows cell k b i rows atlas)
  unfolding put_rows
  lines_at k b i m [] atlas l less own e a = rw (line_none (ink_left cell b + b.width) c) a
  lines_at k b i zero (bits ∷ rows) atlas l less own e a =
      lines-past k b (i + 1) _ rows _ (next-lines cell b i bits rows l) less own (omega arith) (own_line k b i bits atlas (first_line cell b i bits rows l) less own (omega arith) a)
  lines_at k b i (suc m) (bits ∷ rows) atlas l less own e a =
      lines_at k b (i + 1) m rows _ (next-lines cell b i bits rows l) less own (omega arith)
      (kept k b i bits 0 atlas (first_line cell b i bits rows l) less (own-dark k b i bits own (λ f. omega arith)) a)

  -- a bit of the line that stands in this row, if its column is there
  ink-line : (g : Glyph) (m : ℕ) → GoodGlyph cell g → ink_top cell g.bbx + m ≡ r → line_bit (get_or g.rows m 0) (ink_left cell g.bbx + g.bbx.width) c ≡ bit (is_ink cell g c r)
  unfolding is_ink
  ink-line g m good e =
      let left : ℕ = ink_left cell g.bbx in
      let w : ℕ = g.bbx.width in
      let f : r - ink_top cell g.bbx ≡ m = omega arith in
      ⊎_elim
      (λ (u : c < left). line_before (get_or g.rows m 0) (left + w) c w (good.small m) (omega arith) ∙ rw (lt-leb left c u))
      (λ (u : left ≤ c). ⊎_elim
      (λ (v : c < left + w). line_in (get_or g.rows m 0) (left + w) c v ∙ rw (le-leb left c u, lt-ltb c (left + w) v, f, le-leb (ink_top cell g.bbx) r (omega arith)) (⊎_elim
      (λ (z : r < ink_top cell g.bbx + g.bbx.height). rw (lt-ltb r (ink_top cell g.bbx + g.bbx.height) z) (bit_of (get_or g.rows m 0 / 2 ^ (left + w - (c + 1)))))
      (λ (z : ink_top cell g.bbx + g.bbx.height ≤ r). rw (
        le-ltb r (ink_top cell g.bbx + g.bbx.height) z,
        get_or-eq_default g.rows 0 {n = m} (omega (arith, good.few)),
        zero-div (2 ^ (left + w - (c + 1))),
      ))
      (lt_or_le r (ink_top cell g.bbx + g.bbx.height))))
      (λ (v : left + w ≤ c). line_past (get_or g.rows m 0) (left + w) c v ∙ rw (le-leb left c u, le-ltb c (left + w) v))
      (lt_or_le c (left + w)))
      (lt_or_le c left)

  ink-above : (g : Glyph) → r < ink_top cell g.bbx → 0 ≡ bit (is_ink cell g c r)
  unfolding is_ink
  ink-above g h = rw (lt-leb (ink_top cell g.bbx) r h) (go (leb (ink_left cell g.bbx) c && ltb c (ink_left cell g.bbx + g.bbx.width)))
    where
      go : (t : Bool) → 0 ≡ bit (t && false)
      go true = refl
      go false = refl

  -- this glyph
  glyph-at : (k : ℕ) (g : Glyph) (atlas : List ℕ) → GoodGlyph cell g → k < n → k ≡ gy * 16 + gx → At 0 atlas → At (bit (is_ink cell g c r)) (put_rows cell k g.bbx 0 g.rows atlas)
  glyph-at k g atlas good less own a = ⊎_elim
      (λ (u : r < ink_top cell g.bbx). rw (← ink-above g u) (lines-past k g.bbx 0 0 g.rows atlas (all_lines cell g good) less own (omega arith) a))
      (λ (u : ink_top cell g.bbx ≤ r).
      let e : ink_top cell g.bbx + (r - ink_top cell g.bbx) ≡ r = omega arith in
      rw (← ink-line g (r - ink_top cell g.bbx) good e) (lines_at k g.bbx 0 (r - ink_top cell g.bbx) g.rows atlas (all_lines cell g good) less own (omega arith) a))
      (lt_or_le r (ink_top cell g.bbx))

  -- glyphs from k on, where k + m is this one
  glyphs-at : (k m : ℕ) (gs : List Glyph) (atlas : List ℕ) → GoodGlyphs cell gs → k + glyph_count gs ≤ n → k + m ≡ gy * 16 + gx → At 0 atlas
      → At (bit (ltb m (glyph_count gs) && is_ink cell (glyph_at gs m) c r)) (put_glyphs cell k gs atlas)
  unfolding put_glyphs glyph_count glyph_at GoodGlyphs
  glyphs-at k m [] atlas good few e a = rw (le-ltb m 0 (omega arith)) a
  glyphs-at k zero (g ∷ gs) atlas good few e a =
      rw (lt-ltb 0 (suc (glyph_count gs)) (omega arith)) (glyphs_keep (At (bit (is_ink cell g c r))) cell (k + 1) gs _ good.1
      (λ m b i bits xs h s l p. kept m b i bits _ xs l (omega arith) (other-dark m b i bits l (λ f. omega arith)) p)
      (glyph-at k g atlas good.0 (omega arith) (omega arith) a))
  glyphs-at k (suc m) (g ∷ gs) atlas good few e a =
      rw (leb-suc-suc (suc m) (glyph_count gs)) (glyphs-at (k + 1) m gs _ good.1 (omega arith) (omega arith)
      (rows_keep (At 0) cell k g.bbx 0 g.rows atlas (all_lines cell g good.0)
      (λ i bits xs h l p. kept k g.bbx i bits 0 xs l (omega arith) (other-dark k g.bbx i bits l (λ f. omega arith)) p) a))

-- ---- the font's atlas, byte by byte

length-counted : (k n : ℕ) (f : ℕ → ℕ) → length (counted k n f) ≡ n
unfolding counted
length-counted k zero f = refl
length-counted k (suc n) f = ap suc (length-counted (suc k) n f)

counted_at : (k n : ℕ) (f : ℕ → ℕ) (p : ℕ) → p < n → get_or (counted k n f) p 0 ≡ f (k + p)
unfolding counted
counted_at k zero f p h = absurd (not-suc-le-zero h)
counted_at k (suc n) f zero h = rw (add-zero k)
counted_at k (suc n) f (suc p) h = rw (add-suc k p, ← suc-add k p) (counted_at (suc k) n f p (le_of_suc-le-suc h))

pub length_atlas : (f : BdfFont) → length (atlas_of f) ≡ atlas_size f.cell (glyph_count f.glyphs)
unfolding atlas_of
length_atlas f = length-counted 0 _ (atlas_byte f)

pub atlas_at : (f : BdfFont) (p : ℕ) → p < atlas_size f.cell (glyph_count f.glyphs) → get_or (atlas_of f) p 0 ≡ atlas_byte f p
unfolding atlas_of
atlas_at f p h = counted_at 0 _ (atlas_byte f) p h ∙ rw (zero-add p)

-- ---- the atlas that is written

zeros : (n p : ℕ) → get_or {A = ℕ} (replicate n 0) p 0 ≡ 0
zeros zero p = refl
zeros (suc n) zero = refl
zeros (suc n) (suc p) = zeros n p

-- an atlas that has bytes has cells with sides
sides : (a h w p : ℕ) → p < a * h * (2 * w) → (0 < w) × (0 < h)
sides a h w p l = (
  ⊎_elim (λ (z : w ≡ 0). let e : a * h * (2 * w) ≡ 0 = rw (z, mul-zero (a * h)) in absurd (omega arith)) (λ (z : 0 < w). z) (eq-zero-or-pos w),
  ⊎_elim (λ (z : h ≡ 0). let e : a * h * (2 * w) ≡ 0 = rw (z, mul-zero a, zero-mul (2 * w)) in absurd (omega arith)) (λ (z : 0 < h). z) (eq-zero-or-pos h),
)

pub length-put_glyphs : (cell : BoundingBox) (gs : List Glyph) (atlas : List ℕ) → GoodGlyphs cell gs → length atlas ≡ atlas_size cell (glyph_count gs) → length (put_glyphs cell 0 gs atlas) ≡ length atlas
length-put_glyphs cell gs atlas good e =
    glyphs_keep (λ xs. length xs ≡ length atlas) cell 0 gs atlas good
    (λ m b i bits xs h l line s. length-put_row cell m b i bits xs (omega (arith, line_room cell b m i bits (glyph_count gs) line (omega arith))) ∙ s) refl

module _ (f : BdfFont) (good : GoodGlyphs f.cell f.glyphs) where
  abbrev size : ℕ
  size = atlas_size f.cell (glyph_count f.glyphs)

  abbrev written : List ℕ
  written = put_glyphs f.cell 0 f.glyphs (replicate size 0)

  length-written : length written ≡ size
  length-written = length-put_glyphs f.cell f.glyphs (replicate size 0) good (length-replicate size 0) ∙ length-replicate size 0

  -- each bit is the font's
  bit-written : (p q : ℕ) → p < size → q < 8 → BitIs size p q (bit (is_set f (8 * (p % stride f.cell) + q) (p / stride f.cell))) written
  unfolding is_set atlas_size
  bit-written p q h l =
      let cw : ℕ = f.cell.width in
      let ch : ℕ = f.cell.height in
      let s : ℕ = stride f.cell in
      let y : ℕ = p / s in
      let x : ℕ = 8 * (p % s) + q in
      let z = sides ((glyph_count f.glyphs + 15) / 16) ch cw p h in
      let j : p % s < s = mod-lt p (omega arith) in
      let a = glyphs-at f.cell (glyph_count f.glyphs) (x / cw) (y / ch) (x % cw) (y % ch) (p % s) q
      (mod-lt x z.0) (mod-lt y z.1) ((div-lt_iff_lt-mul z.0).1 (omega arith)) j l (sym (div-add-mod' x cw))
      0 (y / ch * 16 + x / cw) f.glyphs (replicate size 0) good (omega arith) (zero-add (y / ch * 16 + x / cw))
      (record { size = length-replicate size 0; bytes = λ k. rw (zeros size k) (omega arith); pixel = rw (zeros size _, zero-div (2 ^ (7 - q))) }) in
      rw (div-add-mod' y ch, div-add-mod' p s) at a

  byte-written : (p : ℕ) → p < size → get_or written p 0 ≡ atlas_byte f p
  unfolding atlas_byte
  byte-written p h = byte_of_bits (get_or written p 0) _ ((bit-written p 0 h (omega arith)).bytes p) (λ i l. (bit-written p i h l).pixel)

-- the bitmaps of all glyphs, put into an empty atlas, are the font's atlas
pub atlas_written : (f : BdfFont) → GoodGlyphs f.cell f.glyphs
    → put_glyphs f.cell 0 f.glyphs (replicate (atlas_size f.cell (glyph_count f.glyphs)) 0) ≡ atlas_of f
atlas_written f good =
    ext_get_or 0 (written f good) (atlas_of f) (length-written f good ∙ sym (length_atlas f))
    (λ p h. let i : p < size f good = omega (arith, length-written f good) in byte-written f good p i ∙ sym (atlas_at f p i))
