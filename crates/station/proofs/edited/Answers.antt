-- Refused before the edit is asked, or by the edit; else it is stored, and its rectangle repainted. Assumes nothing.
use Rattle.station.proofs.EditCalls.{edit_refused, edit_sheet_kept, edit_frame_kept, edit_sheet_left, edit_told, edit_frame_told, edit_replied, edit_frame_left, edit_corner, edit_accepted, edit_canvas}
use Rattle.station.proofs.edited.Goals as goal

pub returns-in_err-frame_code-clause-value : goal.returns-in_err-frame_code-clause-value
returns-in_err-frame_code-clause-value c = edit_refused _ _ _ _ c.in_err-frame_code.ensures.value _ c.from_residual.ensures.1

pub returns-in_err-frame_code-clause-sheet_after : goal.returns-in_err-frame_code-clause-sheet_after
returns-in_err-frame_code-clause-sheet_after c = edit_sheet_kept _ _ _ _ c.in_err-frame_code.ensures.value

pub returns-in_err-frame_code-clause-frame_after : goal.returns-in_err-frame_code-clause-frame_after
returns-in_err-frame_code-clause-frame_after c = edit_frame_kept _ _ _ _ c.in_err-frame_code.ensures.value

pub invariant_of-repaint : goal.invariant_of-repaint
invariant_of-repaint c = record { accepted = edit_accepted _ _ _ c.in_ok-frame_code.ensures.value _ c.in_ok-area.ensures.value _ c.change.ensures.sheet_after }

pub repaint-requires : goal.repaint-requires
repaint-requires c = edit_canvas _ _ _ c.in_ok-frame_code.ensures.value _ c.in_ok-area.ensures.value _ c.change.ensures.sheet_after

pub returns-in_err-area-clause-value : goal.returns-in_err-area-clause-value
returns-in_err-area-clause-value c = edit_told _ _ _ c.in_ok-frame_code.ensures.value _ c.in_err-area.ensures.value _ c.from_residual-in_err-area.ensures.1

pub returns-in_err-area-clause-sheet_after : goal.returns-in_err-area-clause-sheet_after
returns-in_err-area-clause-sheet_after c = edit_sheet_left _ _ _ c.in_ok-frame_code.ensures.value _ c.change.ensures.sheet_after

pub returns-in_err-area-clause-frame_after : goal.returns-in_err-area-clause-frame_after
returns-in_err-area-clause-frame_after c = edit_frame_told _ _ _ c.in_ok-frame_code.ensures.value _ c.in_err-area.ensures.value

pub returns-clause-value : goal.returns-clause-value
returns-clause-value c = edit_replied _ _ _ c.in_ok-frame_code.ensures.value _ c.in_ok-area.ensures.value

pub returns-clause-corner_fits : goal.returns-clause-corner_fits
returns-clause-corner_fits c = edit_corner _ _ _ c.in_ok-frame_code.ensures.value _ c.in_ok-area.ensures.value

pub returns-clause-sheet_after : goal.returns-clause-sheet_after
returns-clause-sheet_after c = edit_sheet_left _ _ _ c.in_ok-frame_code.ensures.value _ c.change.ensures.sheet_after

pub returns-clause-frame_after : goal.returns-clause-frame_after
returns-clause-frame_after c = edit_frame_left _ _ _ c.in_ok-frame_code.ensures.value _ c.in_ok-area.ensures.value _ c.change.ensures.sheet_after _ c.repaint.ensures
