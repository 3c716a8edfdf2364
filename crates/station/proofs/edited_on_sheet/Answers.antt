-- Refused before the edit is asked, or by the edit; else it is made. Assumes nothing.
use Rattle.sheet.specs.OfItem.{of_item}
use Rattle.station.proofs.EditCalls.{on_sheet_refused, on_sheet_kept, on_sheet_accepted, on_sheet_corner, on_sheet_replied, on_sheet_left}
use Rattle.station.proofs.edited_on_sheet.Goals as goal

pub returns-in_err-check-clause-value : goal.returns-in_err-check-clause-value
returns-in_err-check-clause-value c = on_sheet_refused _ _ _ c.in_err-check.ensures _ c.from_residual.ensures.1

pub returns-in_err-check-clause-sheet_after : goal.returns-in_err-check-clause-sheet_after
returns-in_err-check-clause-sheet_after c = on_sheet_kept _ _ _ c.in_err-check.ensures

pub change-requires : goal.change-requires
change-requires c = on_sheet_accepted _ (of_item c.args.asked.item c.args.asked.edit) c.in_ok-check.ensures

pub returns-clause-value : goal.returns-clause-value
returns-clause-value c = on_sheet_replied _ _ c.in_ok-check.ensures _ c.change.ensures.value

pub returns-clause-corner_fits : goal.returns-clause-corner_fits
returns-clause-corner_fits c = on_sheet_corner _ _ c.in_ok-check.ensures _ c.change.ensures.value

pub returns-clause-sheet_after : goal.returns-clause-sheet_after
returns-clause-sheet_after c = on_sheet_left _ _ c.in_ok-check.ensures _ c.change.ensures.sheet_after
