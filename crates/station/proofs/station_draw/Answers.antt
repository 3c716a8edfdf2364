-- Refused with the frame's code; else the frame has the sheet's size and is drawn.
use Rattle.calls.specs.Calls.{draw_frame}
use Rattle.station.proofs.Calls.{kept, page_drawn}
use Rattle.station.proofs.station_draw.Goals as goal

pub returns-in-Err-clause-frame_after : goal.returns-in-Err-clause-frame_after
unfolding draw_frame
returns-in-Err-clause-frame_after c = kept _ _ c.in-Err.ensures.value _ _

pub returns-in-Ok-clause-frame_after : goal.returns-in-Ok-clause-frame_after
returns-in-Ok-clause-frame_after c = page_drawn _ _ _ _ c.in-Ok.ensures.same_bytes c.in-Ok.ensures.value c.draw.ensures
