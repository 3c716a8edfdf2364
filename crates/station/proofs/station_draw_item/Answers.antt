-- Refused with the call's code; else the item is listed and the frame has the sheet's size.
use Rattle.calls.specs.Calls.{draw_item_reply, draw_item_frame}
use Rattle.station.proofs.Calls.{kept, drawn_refused, item_replied, item_drawn}
use Rattle.station.proofs.Bounds.{checked_next_fits}
use Rattle.station.proofs.station_draw_item.Goals as goal

pub drawn_reply-requires : goal.drawn_reply-requires
drawn_reply-requires c = search (checked_next_fits, c.in-Ok.ensures.same_bytes, c.in-Ok.record.listed)

pub returns-in-Err-clause-value : goal.returns-in-Err-clause-value
unfolding draw_item_reply draw_item_frame
returns-in-Err-clause-value c = drawn_refused _ _ c.in-Err.ensures.value _ _ _ c.from.ensures

pub returns-in-Err-clause-frame_after : goal.returns-in-Err-clause-frame_after
unfolding draw_item_reply draw_item_frame
returns-in-Err-clause-frame_after c = kept _ _ c.in-Err.ensures.value _ _

pub returns-in-Ok-clause-value : goal.returns-in-Ok-clause-value
returns-in-Ok-clause-value c = item_replied _ _ _ _ c.in-Ok.ensures.same_bytes c.in-Ok.ensures.same_number _ c.in-Ok.ensures.value _ _ _ c.drawn_reply.ensures c.draw_item-drawn.ensures.next_value c.draw_item-drawn.ensures.replaced_value

pub returns-in-Ok-clause-frame_after : goal.returns-in-Ok-clause-frame_after
returns-in-Ok-clause-frame_after c = item_drawn _ _ _ _ c.in-Ok.ensures.same_bytes c.in-Ok.ensures.same_number _ c.in-Ok.ensures.value _ c.draw_item-drawn.ensures.frame_after
