-- Refused with the item's code; else the item is listed, and its box has a corner that fits.
use Rattle.calls.specs.Calls.{bounding_box_reply}
use Rattle.station.proofs.Calls.{box_refused, box_replied}
use Rattle.station.proofs.Bounds.{checked_box_fits}
use Rattle.station.proofs.station_bounding_box.Goals as goal

pub box_reply-requires : goal.box_reply-requires
box_reply-requires c = search (checked_box_fits, c.in-Ok.ensures.same_bytes, c.in-Ok.record.listed)

pub returns-in-Err : goal.returns-in-Err
unfolding bounding_box_reply
returns-in-Err c = box_refused _ _ c.in-Err.ensures.value _ _ c.from.ensures

pub returns-in-Ok : goal.returns-in-Ok
returns-in-Ok c = box_replied _ _ _ _ c.in-Ok.ensures.same_bytes c.in-Ok.ensures.same_number _ _ c.in-Ok.ensures.value c.box_reply.ensures c.bounding_box.ensures
