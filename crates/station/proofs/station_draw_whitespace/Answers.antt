-- Refused with the call's code; else the item is listed, the frame has the sheet's size and the width is within its limit.
use Rattle.calls.specs.Calls.{whitespace_reply, whitespace_frame}
use Rattle.station.proofs.Calls.{kept, position_refused, whitespace_replied, whitespace_drawn}
use Rattle.station.proofs.Bounds.{checked_whitespace_fits}
use Rattle.station.proofs.station_draw_whitespace.Goals as goal

pub position_reply-requires : goal.position_reply-requires
position_reply-requires c = search (checked_whitespace_fits, c.in-Ok.ensures.same_bytes, c.in-Ok.record.listed, c.in-Ok.ensures.width_bound)

pub returns-in-Err-clause-value : goal.returns-in-Err-clause-value
unfolding whitespace_reply whitespace_frame
returns-in-Err-clause-value c = position_refused _ _ c.in-Err.ensures.value _ _ c.from.ensures

pub returns-in-Err-clause-frame_after : goal.returns-in-Err-clause-frame_after
unfolding whitespace_reply whitespace_frame
returns-in-Err-clause-frame_after c = kept _ _ c.in-Err.ensures.value _ _

pub returns-in-Ok-clause-value : goal.returns-in-Ok-clause-value
returns-in-Ok-clause-value c = whitespace_replied _ _ _ _ c.in-Ok.ensures.same_bytes c.in-Ok.ensures.same_number _ _ c.in-Ok.ensures.value _ _ c.position_reply.ensures c.draw_whitespace.ensures.value

pub returns-in-Ok-clause-frame_after : goal.returns-in-Ok-clause-frame_after
returns-in-Ok-clause-frame_after c = whitespace_drawn _ _ _ _ c.in-Ok.ensures.same_bytes c.in-Ok.ensures.same_number _ _ c.in-Ok.ensures.value _ c.draw_whitespace.ensures.frame_after
