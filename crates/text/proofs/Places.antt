-- Where the lines of a text stand, and that no sum on the way is too large. Assumes nothing.
use Prim.Native.Nat.{ℕ, ◌+◌, ◌*◌, ◌≤◌}
use native.Mathlib.Nat.{mul-le-mul}
use native.Mathlib.Omega.{arith}
use mathlib.Core.Path.{◌≡◌}
use mathlib.Core.List.{List}
use lib.ListN.{length}
use mir.Syntax.{w32}
use mir.Val.{Fits}
use Rattle.geometry.specs.declared.Point.{Point}
use Rattle.characters.specs.Utf8.{chars}
use Rattle.line.specs.declared.MonoFont.{MonoFont}
use Rattle.line.specs.Line.{character_height, measured_width}
use Rattle.line.specs.Limits.{FontLimits, PlaceLimits}
use Rattle.text.specs.declared.Alignment.{Alignment}
use Rattle.text.specs.declared.Alignment.TheVariants.{Left, Center, Right}
use Rattle.text.specs.declared.LineHeight.{LineHeight}
use Rattle.text.specs.declared.LineHeight.TheVariants.{Pixels, Percent}
use Rattle.text.specs.declared.TextStyle.{TextStyle}
use Rattle.text.specs.Text.{aligned_start, line_height}
use Rattle.text.specs.Lines.{line_corner}
use Rattle.text.specs.Limits.{height_value, LineLimits}

-- ---- the start of a line, and how much lower the next one stands

pub start_near : (a : Alignment) (x w : ℕ) → aligned_start a x w ≤ x + 1
unfolding aligned_start
start_near Left x w = omega arith
start_near Center x w = omega arith
start_near Right x w = omega arith

module _ (m : MonoFont) (limits : FontLimits m) where
  percent-small : (n : ℕ) → n ≤ 1_000 → character_height m * n ≤ 64_000
  percent-small n h = mul-le-mul limits.ch_small h

  pub percent_fits : (height : LineHeight) (n : ℕ) → height_value height ≤ 1_000 → height ≡ Percent n → Fits w32 (character_height m * n)
  percent_fits height n h e = omega (arith, percent-small n (rw e at h))

  pub height_small : (height : LineHeight) → height_value height ≤ 1_000 → line_height m height ≤ 1_000
  unfolding line_height
  height_small (Pixels n) h = h
  height_small (Percent n) h = omega (arith, percent-small n h)

-- the corner of a line is a place from which its k bytes without the return can be drawn
pub shown_place : (m : MonoFont) (t : TextStyle) (n k x y : ℕ) (line : List ℕ) (corner : Point) → LineLimits n x y → k ≤ n → corner ≡ line_corner m t line x y → PlaceLimits k corner.x corner.y
unfolding line_corner
shown_place m t n k x y line corner limits short e = record {
  text_short = omega arith;
  near_x = rw e (omega (arith, start_near t.alignment x (measured_width m (length (chars line)))));
  near_top = rw e (omega arith);
}
