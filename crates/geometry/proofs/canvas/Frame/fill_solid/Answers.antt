-- `Frame::fill_solid` meets its contract: an empty area is not filled, and else what the target shows of it is, which lies in the frame unless it is empty. Assumes nothing.
use mathlib.Core.Path.{refl}
use Rattle.geometry.proofs.Clips.{shown_starts, part_in_frame}
use Rattle.geometry.proofs.Fills.{fill_empty, fill_unshown, fill_shown}
use Rattle.geometry.proofs.Paintings.{painted_none}
use Rattle.geometry.proofs.canvas.Frame.fill_solid.Goals as goal

pub returns-then-is_empty : goal.returns-then-is_empty
returns-then-is_empty c = painted_none _ _ (search fill_empty)

pub returns-then-is_empty-2 : goal.returns-then-is_empty-2
returns-then-is_empty-2 c = painted_none _ _ (search fill_unshown)

pub on_frame-part-requires : goal.on_frame-part-requires
on_frame-part-requires c = search shown_starts

pub fill_area-requires : goal.fill_area-requires
fill_area-requires c = search part_in_frame

pub returns : goal.returns
returns c = record { greys = search fill_shown; same_greys = refl; same_target = refl }
