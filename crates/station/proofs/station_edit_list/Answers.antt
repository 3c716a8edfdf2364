-- Refused before any edit; else the list is made, and replied.
use Rattle.calls.specs.Calls.{edit_list_sheet, edit_list_frame}
use Rattle.station.proofs.Calls.{kept, done}
use Rattle.station.proofs.EditCalls.{list_refused, list_checked, list_replied}
use Rattle.station.proofs.station_edit_list.Goals as goal

pub returns-in-Err-clause-value : goal.returns-in-Err-clause-value
returns-in-Err-clause-value c = list_refused _ _ _ _ c.in-Err.ensures.value _ c.from.ensures

pub returns-in-Err-clause-sheet_after : goal.returns-in-Err-clause-sheet_after
unfolding edit_list_sheet edit_list_frame
returns-in-Err-clause-sheet_after c = kept _ _ c.in-Err.ensures.value _ _

pub returns-in-Err-clause-frame_after : goal.returns-in-Err-clause-frame_after
unfolding edit_list_sheet edit_list_frame
returns-in-Err-clause-frame_after c = kept _ _ c.in-Err.ensures.value _ _

pub make_list-made-requires : goal.make_list-made-requires
make_list-made-requires c = list_checked _ _ _ c.in-Ok.ensures.value

pub returns-in-Ok-clause-value : goal.returns-in-Ok-clause-value
returns-in-Ok-clause-value c = list_replied _ _ _ c.in-Ok.ensures.value _ _ (rw c.code_of.ensures at c.batch_reply.ensures) c.make_list-made.ensures.result_value

pub returns-in-Ok-clause-sheet_after : goal.returns-in-Ok-clause-sheet_after
unfolding edit_list_sheet edit_list_frame
returns-in-Ok-clause-sheet_after c = done _ c.in-Ok.ensures.value _ _ _ c.make_list-made.ensures.sheet_after

pub returns-in-Ok-clause-frame_after : goal.returns-in-Ok-clause-frame_after
unfolding edit_list_sheet edit_list_frame
returns-in-Ok-clause-frame_after c = done _ c.in-Ok.ensures.value _ _ _ c.make_list-made.ensures.frame_after
