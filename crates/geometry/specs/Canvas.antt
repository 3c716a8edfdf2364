-- The frame as a draw target, the rectangles on it, and what the painters require of both. Assumes nothing.
-- Serves contracts: nothing here has to be believed.
use Rattle.std.specs.Prelude.{ℕ, ◌+◌, ◌-◌, ◌*◌, ◌^◌, ◌≤◌, ◌<◌, ◌≡◌, List}
use Rattle.geometry.specs.declared.Rectangle.{Rectangle}
use Rattle.geometry.specs.declared.DrawTarget.{DrawTarget}
use Rattle.geometry.specs.declared.FrameArea.{FrameArea}
use Rattle.geometry.specs.Rectangle.{rectangle}
use Rattle.geometry.specs.Layer.{origin, Layer, paint_in}

-- the rectangle at a column and a row counted from the frame's corner
abbrev pub on_frame : FrameArea → Rectangle
on_frame a = rectangle (origin + a.left) (origin + a.top) a.width a.height

-- a rectangle with its column and row counted from there
abbrev pub from_corner : Rectangle → FrameArea
from_corner a = record { left = a.left - origin; top = a.top - origin; width = a.width; height = a.height }

-- a layer painted on a draw target: in its area only
abbrev pub paint_on : DrawTarget → Layer → List ℕ → List ℕ
paint_on t f frame = paint_in t.width t.clip_area f frame

-- a rectangle whose right edge and foot fit 32 bits
pub record EndsFit (a : Rectangle) : Type 0 where
  pub right : a.left + a.width < 2 ^ 32
  pub foot : a.top + a.height < 2 ^ 32

-- a draw target of n greys: sides of at most 512, and an area that lies in it
pub record Canvas (t : DrawTarget) (n : ℕ) : Type 0 where
  pub size : t.height * t.width ≡ n
  pub width : t.width ≤ 512
  pub height : t.height ≤ 512
  pub left : origin ≤ t.clip_area.left
  pub right : t.clip_area.left + t.clip_area.width ≤ origin + t.width
  pub top : origin ≤ t.clip_area.top
  pub foot : t.clip_area.top + t.clip_area.height ≤ origin + t.height

-- a rectangle that starts neither left of the frame nor above it
pub record StartsOnFrame (a : Rectangle) : Type 0 where
  pub left : origin ≤ a.left
  pub top : origin ≤ a.top

-- a rectangle that lies in a frame fw wide, of n greys
pub record InFrame (fw n : ℕ) (a : FrameArea) : Type 0 where
  pub right : a.left + a.width ≤ fw
  pub foot : (a.top + a.height) * fw ≤ n
  pub low : a.top + a.height ≤ 512
  pub narrow : fw ≤ 512
  pub small : n ≤ 262_144
