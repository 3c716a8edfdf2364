-- The loop keeps where the pieces of the fonts that are left end, from p on. Assumes nothing.
use Rattle.sheet.proofs.Chains.{pieces-start, pieces_more, pieces_misplaced, pieces_done}
use Rattle.sheet.proofs.Loops.{atlas_misplaced, mapping_misplaced, font_to}
use Rattle.sheet.proofs.pieces.fonts_end.Goals.{then-atlas-p-via-then-atlas-p, then-atlas-p-via-else-atlas-p+then-mapping-p}
use Rattle.sheet.proofs.pieces.fonts_end.Goals as goal

pub loop-k-init : goal.loop-k-init
loop-k-init c = search pieces-start

pub returns-then-atlas-p : goal.returns-then-atlas-p
returns-then-atlas-p c = elim c.then-atlas-p.branch [
  | then-atlas-p-via-then-atlas-p w ↦ search (pieces_misplaced, atlas_misplaced)
  | then-atlas-p-via-else-atlas-p+then-mapping-p w ↦ search (pieces_misplaced, mapping_misplaced)
]

pub loop-k-preserved : goal.loop-k-preserved
loop-k-preserved c = search (pieces_more, font_to)

pub returns : goal.returns
returns c = search pieces_done
