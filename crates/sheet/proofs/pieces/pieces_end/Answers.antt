-- Where the fonts' pieces end, the slots begin. Assumes nothing.
use Rattle.sheet.proofs.Outcomes.{fonts_misplaced, slots_from}
use Rattle.sheet.proofs.pieces.pieces_end.Goals as goal

pub returns-in_err-slots : goal.returns-in_err-slots
returns-in_err-slots c = rw c.from_residual.ensures (fonts_misplaced _ _ c.in_err-slots.ensures)

pub returns : goal.returns
returns c = slots_from _ _ _ _ c.in_ok-slots.ensures c.slots_end.ensures
