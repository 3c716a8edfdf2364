-- What the font's atlas shows by the rules of an atlas: each glyph is drawn, and its pixels are those of its bitmap, placed by its BBX. Assumes nothing.
use Prim.Native.Nat.{ℕ, ◌+◌, ◌-◌, ◌*◌, ◌/◌, ◌%◌, ◌≤◌, ◌<◌}
use native.Mathlib.Nat.{mul-le-mul_right, mul-div_cancel, div-add-mod'}
use native.Mathlib.Omega.{arith}
use mathlib.Core.Path.{◌≡◌, refl, ◌∙◌}
use mathlib.Core.Bool.{Bool, true, false}
use lib.ListN.{length}
use lib.Dec.{eqb}
use lib.Arith.{digits_div, digits_mod}
use borrow.Author.Tests.{lt-ltb, le-leb}
use Rattle.atlas.specs.declared.Atlas.{Atlas}
use Rattle.atlas.specs.Atlas.{row_bytes, is_on, glyph_column, glyph_row, is_drawn}
use Rattle.bdf.specs.declared.reader.BoundingBox.{BoundingBox}
use Rattle.bdf.specs.Font.{BdfFont, is_ink, glyph_at, glyph_count, is_set, bit, stride, atlas_size, atlas_byte, atlas_of}
use Rattle.bdf.proofs.Bits.{byte_of-bit}
use Rattle.bdf.proofs.Atlas.{length_atlas, atlas_at}

-- the atlas of a cell: 16 cells wide
abbrev pub atlas_with : BoundingBox → Atlas
atlas_with cell = record { width = 16 * cell.width; cell_size = record { width = cell.width; height = cell.height } }

bit-is_on : (t : Bool) → eqb (bit t) 1 ≡ t
bit-is_on true = refl
bit-is_on false = refl

module _ (f : BdfFont) where
  -- each pixel of the atlas
  pub on_set : (x y : ℕ) → x < 16 * f.cell.width → y < (glyph_count f.glyphs + 15) / 16 * f.cell.height → is_on (atlas_of f) (stride f.cell) x y ≡ is_set f x y
  unfolding is_on atlas_byte atlas_size
  on_set x y h l =
      let s : ℕ = stride f.cell in
      let m : (y + 1) * s ≤ (glyph_count f.glyphs + 15) / 16 * f.cell.height * s = mul-le-mul_right s (omega arith) in
      let j : x / 8 < s = omega arith in
      let e : 8 * (x / 8) + x % 8 ≡ x = omega arith in
      rw (atlas_at f (y * s + x / 8) (omega arith), byte_of-bit (λ i. is_set f (8 * ((y * s + x / 8) % s) + i) ((y * s + x / 8) / s)) (x % 8) (omega arith), digits_div y j, digits_mod y j, e)
      (bit-is_on (is_set f x y))

  module _ (k : ℕ) (less : k < glyph_count f.glyphs) where
    -- a row of glyph k's cell
    row_in : (r : ℕ) → r < f.cell.height → k / 16 * f.cell.height + r < (glyph_count f.glyphs + 15) / 16 * f.cell.height
    row_in r h = let m : (k / 16 + 1) * f.cell.height ≤ (glyph_count f.glyphs + 15) / 16 * f.cell.height = mul-le-mul_right f.cell.height (omega arith) in omega arith

    set-ink : (c r : ℕ) → c < f.cell.width → r < f.cell.height
        → is_set f (k % 16 * f.cell.width + c) (k / 16 * f.cell.height + r) ≡ is_ink f.cell (glyph_at f.glyphs k) c r
    unfolding is_set
    set-ink c r h l = rw (digits_div (k % 16) h, digits_mod (k % 16) h, digits_div (k / 16) l, digits_mod (k / 16) l, div-add-mod' k 16, lt-ltb k (glyph_count f.glyphs) less)

    -- each pixel of glyph k is that of its bitmap
    pub pixel : (c r : ℕ) → c < f.cell.width → r < f.cell.height
        → is_on (atlas_of f) (row_bytes (atlas_with f.cell)) (glyph_column (atlas_with f.cell) k + c) (glyph_row (atlas_with f.cell) k + r)
        ≡ is_ink f.cell (glyph_at f.glyphs k) c r
    pixel c r h l =
        let b : (16 * f.cell.width + 7) / 8 ≡ stride f.cell = omega arith in
        let m : (k % 16 + 1) * f.cell.width ≤ 16 * f.cell.width = mul-le-mul_right f.cell.width (omega arith) in
        rw (b, mul-div_cancel 16 {n = f.cell.width} (omega arith)) (on_set _ _ (omega arith) (row_in r l) ∙ set-ink c r h l)

    -- glyph k is drawn
    pub drawn : 1 ≤ f.cell.width → 1 ≤ f.cell.height → is_drawn (atlas_with f.cell) (length (atlas_of f)) k ≡ true
    unfolding is_drawn atlas_size
    drawn w h =
        let b : (16 * f.cell.width + 7) / 8 ≡ stride f.cell = omega arith in
        rw (
          length_atlas f,
          b,
          mul-div_cancel 16 {n = f.cell.width} w,
          mul-div_cancel ((glyph_count f.glyphs + 15) / 16 * f.cell.height) {n = stride f.cell} (omega arith),
          le-leb 1 f.cell.width w,
          le-leb 1 f.cell.height h,
          le-leb f.cell.width (16 * f.cell.width) (omega arith),
        )
        (le-leb (k / 16 * f.cell.height + f.cell.height) ((glyph_count f.glyphs + 15) / 16 * f.cell.height) (omega (arith, row_in (f.cell.height - 1) (omega arith))))
