-- Laws of what a clip shows of an area: the intersection of the two, as the painters compute it. Assumes nothing.
use Prim.Native.Nat.{ℕ, ◌+◌, ◌-◌, ◌*◌, ◌≤◌}
use native.Mathlib.Nat.{mul-le-mul, mul-le-mul_right}
use native.Mathlib.Omega.{arith}
use mathlib.Core.Path.{◌≡◌, sym, ◌∙◌}
use mathlib.Core.Bool.{Bool, true, false}
use mathlib.Core.List.{List}
use Rattle.geometry.specs.declared.Rectangle.{Rectangle}
use Rattle.geometry.specs.declared.DrawTarget.{DrawTarget}
use Rattle.geometry.specs.declared.FrameArea.{FrameArea}
use Rattle.geometry.specs.Rectangle.{is_empty, intersection}
use Rattle.geometry.specs.Layer.{origin, Layer, within, paint, paint_in}
use Rattle.geometry.specs.Canvas.{Canvas, StartsOnFrame, InFrame, from_corner, on_frame}
use Rattle.geometry.proofs.Rectangles.{empty_out, not_empty}
use Rattle.geometry.proofs.Layers.{within_out, within-intersection, paint_none, paint-same}

module _ (clip area shown : Rectangle) (e : shown ≡ intersection clip area) where
  -- it lies in the clip
  pub shown_in_clip : (clip.left ≤ shown.left) × (clip.top ≤ shown.top)
  unfolding intersection
  shown_in_clip = rw e (omega arith)

  -- and in the area
  pub shown_in_area : (area.left ≤ shown.left) × (area.top ≤ shown.top)
  unfolding intersection
  shown_in_area = rw e (omega arith)

  pub shown_past_left : area.left ≤ shown.left
  shown_past_left = shown_in_area.0

  pub shown_past_top : area.top ≤ shown.top
  shown_past_top = shown_in_area.1

  -- where it is not empty it ends in both
  pub shown_ends : is_empty shown ≡ false → (shown.left + shown.width ≤ clip.left + clip.width) × (shown.top + shown.height ≤ clip.top + clip.height)
      × (shown.left + shown.width ≤ area.left + area.width) × (shown.top + shown.height ≤ area.top + area.height)
  unfolding intersection
  shown_ends n = let p = not_empty shown n in let q = rw e at p in rw e (omega arith)

  -- a layer of the area, in the clip
  pub paint_shown : (fw : ℕ) (f : Layer) (xs : List ℕ) → paint fw (within shown f) xs ≡ paint_in fw clip (within area f) xs
  paint_shown fw f xs = paint-same fw _ _ xs (λ c r grey. rw e (sym (within-intersection clip area f c r grey)))

  -- paints nothing where the two share nothing
  pub paint_unshown : (fw : ℕ) (f : Layer) (xs : List ℕ) (empty : Bool) → empty ≡ is_empty shown → empty ≡ true → xs ≡ paint_in fw clip (within area f) xs
  paint_unshown fw f xs empty is-empty holds =
      sym (paint_none fw (within shown f) xs (λ c r grey. within_out shown f c r grey (empty_out shown empty is-empty holds c r)))
      ∙ paint_shown fw f xs

-- what a draw target shows of an area
module _ (t : DrawTarget) (area shown : Rectangle) (e : shown ≡ intersection t.clip_area area) (n : ℕ) (canvas : Canvas t n) where
  pub shown_starts : StartsOnFrame shown
  shown_starts = omega (arith, canvas, shown_in_clip t.clip_area area shown e)

  module _ (part : FrameArea) (p : part ≡ from_corner shown) where
    -- counted from the frame's corner it is the same rectangle
    pub part-on_frame : on_frame part ≡ shown
    part-on_frame =
        let l : origin + (shown.left - origin) ≡ shown.left = omega (arith, shown_starts) in
        let u : origin + (shown.top - origin) ≡ shown.top = omega (arith, shown_starts) in
        rw (p, l, u)

    -- and lies in the frame
    pub part_in_frame : (empty : Bool) → empty ≡ is_empty shown → empty ≡ false → InFrame t.width n part
    part_in_frame empty is-empty holds =
        let b = shown_ends t.clip_area area shown e (cc) in
        let m : (shown.top - origin + shown.height) * t.width ≤ t.height * t.width = mul-le-mul_right t.width (omega (arith, canvas, shown_starts)) in
        let s : t.height * t.width ≤ 512 * 512 = mul-le-mul canvas.height canvas.width in
        rw p (omega (arith, canvas, shown_starts))
