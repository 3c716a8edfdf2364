-- The loop keeps where the slots that are left end, from p on. Assumes nothing.
use Rattle.sheet.proofs.Chains.{pieces-start, pieces_more, pieces_misplaced, pieces_done}
use Rattle.sheet.proofs.Loops.{slot_misplaced, slot_to}
use Rattle.sheet.proofs.pieces.slots_end.Goals as goal

pub loop-k-init : goal.loop-k-init
loop-k-init c = search pieces-start

pub returns-then-slot-p : goal.returns-then-slot-p
returns-then-slot-p c = search (pieces_misplaced, slot_misplaced)

pub loop-k-preserved : goal.loop-k-preserved
loop-k-preserved c = search (pieces_more, slot_to)

pub returns : goal.returns
returns c = search pieces_done
