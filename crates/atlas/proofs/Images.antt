-- Laws of part of an atlas drawn row by row. Assumes nothing.
use Prim.Native.Nat.{ℕ, ◌+◌, ◌-◌, ◌*◌, ◌/◌, ◌^◌, ◌≤◌, ◌<◌}
use native.Mathlib.Nat.{div-le_self, div-mul-le_self, mul-le-mul_right, add-sub_cancel_left}
use native.Mathlib.Omega.{arith}
use mathlib.Core.Path.{◌≡◌, ◌∙◌}
use mathlib.Core.Bool.{cond}
use mathlib.Core.List.{List}
use lib.ListN.{length, get_or, take, drop, length-drop}
use Rattle.std.proofs.lemmas.List.{get_or-take, get_or-drop}
use lib.Seq.{length-take-le}
use borrow.Rule.Slice.PartMut.{put_mid}
use Rattle.std.specs.Prelude.{Option}
use Rattle.geometry.specs.declared.FrameArea.{FrameArea}
use Rattle.geometry.specs.Layer.{origin, colored, map_indexed}
use Rattle.geometry.specs.Canvas.{InFrame}
use Rattle.geometry.proofs.Frames.{RowsPainted, rows_start, rows_step}
use Rattle.atlas.specs.Atlas.{is_on, image}
use Rattle.atlas.specs.Row.{image_row, SubImage}

-- a row of the atlas: its bytes lie in the atlas, and are as many as a row has
module _ (bytes : List ℕ) (stride x y w h : ℕ) (s : SubImage stride x y w h (length bytes)) (k : ℕ) (less : k < h) where
  pub line_in : (y + k) * stride + stride ≤ length bytes
  line_in =
      let m : (y + k + 1) * stride ≤ length bytes / stride * stride = mul-le-mul_right stride (omega (arith, s.foot)) in
      omega (arith, div-mul-le_self (length bytes) stride)

  line_length : length (take ((y + k) * stride + stride - (y + k) * stride) (drop ((y + k) * stride) bytes)) ≡ stride
  line_length =
      rw (add-sub_cancel_left ((y + k) * stride) stride) (length-take-le stride (drop ((y + k) * stride) bytes) (rw length-drop (omega (arith, line_in))))

  -- and its pixels are the atlas's
  pub line_pixel : (text background : Option ℕ) (i grey : ℕ) → i < w
      → image_row (take ((y + k) * stride + stride - (y + k) * stride) (drop ((y + k) * stride) bytes)) text background (x + i) grey
      ≡ cond (is_on bytes stride (x + i) (y + k)) (colored text grey) (colored background grey)
  unfolding image_row is_on
  line_pixel text background i grey u =
      let e : get_or (take stride (drop ((y + k) * stride) bytes)) ((x + i) / 8) 0 ≡ get_or bytes ((y + k) * stride + (x + i) / 8) 0 =
      get_or-take stride (drop ((y + k) * stride) bytes) ((x + i) / 8) 0 (omega (arith, s.right)) ∙ get_or-drop ((y + k) * stride) bytes ((x + i) / 8) 0 in
      rw (add-sub_cancel_left ((y + k) * stride) stride, e)

-- the state of the loop over a part's rows: the first k are drawn, and the part lies in the frame and in the atlas
pub record RowsDrawn (fw : ℕ) (a : FrameArea) (k stride x y : ℕ) (bytes : List ℕ) (text background : Option ℕ) (xs frame : List ℕ) : Type 0 where
  pub rows : RowsPainted fw a k (image bytes stride x y (origin + a.left) (origin + a.top) text background) xs frame
  pub in_frame : InFrame fw (length xs) a
  pub in_image : SubImage stride x y a.width a.height (length bytes)
  pub rows_fit : y + a.height < 2 ^ 64

module _ (fw : ℕ) (a : FrameArea) (stride x y : ℕ) (bytes : List ℕ) (text background : Option ℕ) (xs : List ℕ) where
  pub image-start : InFrame fw (length xs) a → SubImage stride x y a.width a.height (length bytes) → length bytes < 2 ^ 64 → RowsDrawn fw a 0 stride x y bytes text background xs xs
  image-start f i b = record { rows = rows_start fw a _ xs; in_frame = f; in_image = i; rows_fit = omega (arith, i.foot, div-le_self (length bytes) stride) }

  -- one row more
  pub image-step : (k : ℕ) (frame part : List ℕ) → RowsDrawn fw a k stride x y bytes text background xs frame → k < a.height
      → part ≡ map_indexed (image_row (take ((y + k) * stride + stride - (y + k) * stride) (drop ((y + k) * stride) bytes)) text background) x (take ((a.top + k) * fw + a.left + a.width - ((a.top + k) * fw + a.left)) (drop ((a.top + k) * fw + a.left) frame))
      → RowsDrawn fw a (k + 1) stride x y bytes text background xs (put_mid ((a.top + k) * fw + a.left) ((a.top + k) * fw + a.left + a.width - ((a.top + k) * fw + a.left)) frame part)
  unfolding image
  image-step k frame part d less ep = record {
    rows =
        rows_step fw a k x (image bytes stride x y (origin + a.left) (origin + a.top) text background)
        (image_row (take ((y + k) * stride + stride - (y + k) * stride) (drop ((y + k) * stride) bytes)) text background) xs frame part d.in_frame d.rows less ep
        (λ i grey u.
        let c : x + (origin + a.left + i) - (origin + a.left) ≡ x + i = omega arith in
        let r : y + (origin + (a.top + k)) - (origin + a.top) ≡ y + k = omega arith in
        rw (c, r) (line_pixel bytes stride x y a.width a.height d.in_image k less text background i grey u));
    in_frame = d.in_frame;
    in_image = d.in_image;
    rows_fit = d.rows_fit;
  }
