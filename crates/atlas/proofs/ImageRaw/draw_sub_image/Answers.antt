-- `ImageRaw::draw_sub_image` meets its contract: at row k the first k rows of what the target shows are drawn, and past the last one stands the cell's foot
-- or the target's. Assumes nothing.
use mathlib.Core.Path.{refl}
use Rattle.geometry.proofs.Clips.{shown_starts, shown_past_left, shown_past_top}
use Rattle.geometry.proofs.Frames.{row_fits, row_start_fits, row_end_fits, row_end_in}
use Rattle.atlas.proofs.Images.{image-start, image-step}
use Rattle.atlas.proofs.Shown.{shown_column_fits, shown_row_fits, shown_sub_image, shown_in_frame, row_shown, row_shown_fits, image_shown}
use Rattle.atlas.proofs.ImageRaw.draw_sub_image.Goals as goal

pub overflow_sub-column : goal.overflow_sub-column
overflow_sub-column c = search shown_past_left

pub overflow_add-column : goal.overflow_add-column
overflow_add-column c = search shown_column_fits

pub overflow_sub-row : goal.overflow_sub-row
overflow_sub-row c = search shown_past_top

pub overflow_add-row : goal.overflow_add-row
overflow_add-row c = search shown_row_fits

pub on_frame-area-requires : goal.on_frame-area-requires
on_frame-area-requires c = search shown_starts

pub loop-k-init : goal.loop-k-init
loop-k-init c = rw c.row_bytes-stride.ensures (search (image-start, shown_in_frame, shown_sub_image))

pub overflow_mul-a : goal.overflow_mul-a
overflow_mul-a c = search row_fits

pub overflow_add-a-in-loop-k : goal.overflow_add-a-in-loop-k
overflow_add-a-in-loop-k c = search row_start_fits

pub overflow_add-b : goal.overflow_add-b
overflow_add-b c = search row_end_fits

pub slice_bounds-draw_row-end : goal.slice_bounds-draw_row-end
slice_bounds-draw_row-end c = search row_end_in

pub loop-k-preserved : goal.loop-k-preserved
loop-k-preserved c = search image-step

pub overflow_add-result : goal.overflow_add-result
overflow_add-result c = search row_shown_fits

pub returns-clause-painted : goal.returns-clause-painted
returns-clause-painted c = let drawn = rw c.row_bytes-stride.ensures at c.loop-k.invariant in record { greys = search image_shown; same_greys = refl; same_target = refl }

pub returns-clause-value : goal.returns-clause-value
returns-clause-value c = search row_shown
