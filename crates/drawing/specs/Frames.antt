-- What the functions that paint a sheet's page require. Assumes nothing.
-- Serves contracts: nothing here has to be believed.
use Rattle.std.specs.Prelude.{◌≡◌, ℕ, List, length}
use Rattle.geometry.specs.declared.Rectangle.{Rectangle}
use Rattle.geometry.specs.declared.DrawTarget.{DrawTarget}
use Rattle.sheet.specs.Fields.{frame_width, frame_height}
use Rattle.sheet.specs.Accepted.{Accepted}
use Rattle.drawing.specs.Drawing.{pixel_count}

-- the sheet's frame as a draw target, of which only what lies in a clip may change
abbrev pub target_of : List ℕ → Rectangle → DrawTarget
target_of b clip = record { width = frame_width b; height = frame_height b; clip_area = clip }

-- an accepted sheet and a frame of its size
pub record Framed (b frame : List ℕ) : Type 0 where
  pub accepted : Accepted b
  pub sized : length frame ≡ pixel_count b
