-- Refused by the edit itself; else its rectangle is found on the sheet as it was, and it is stored. Assumes nothing.
use Rattle.changes.proofs.Making.{outcome_refused, sheet_kept, outcome_made, sheet_made}
use Rattle.changes.proofs.change.Goals as goal

pub returns-in_err-refusal-clause-value : goal.returns-in_err-refusal-clause-value
returns-in_err-refusal-clause-value c = search (outcome_refused, c.in_err-refusal.ensures, c.from_residual.ensures)

pub returns-in_err-refusal-clause-sheet_after : goal.returns-in_err-refusal-clause-sheet_after
returns-in_err-refusal-clause-sheet_after c = search (sheet_kept, c.in_err-refusal.ensures)

pub returns-clause-value : goal.returns-clause-value
returns-clause-value c = outcome_made _ _ _ c.in_ok-refusal.ensures _ c.damage-area.ensures

pub returns-clause-sheet_after : goal.returns-clause-sheet_after
returns-clause-sheet_after c = sheet_made _ _ _ c.in_ok-refusal.ensures _ c.put.ensures
