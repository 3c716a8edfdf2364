-- Each way out is one of the three tests of the layout; records that pass the end leave no room for the pieces. Assumes nothing.
use Rattle.sheet.proofs.Outcomes.{fonts_elsewhere, items_elsewhere, records_out, laid_out_is}
use Rattle.sheet.proofs.pieces.is_laid_out.Goals.{then-fonts_offset-ne24-via-then-fonts_offset-ne24, then-fonts_offset-ne24-via-else-fonts_offset-ne24+then-items_offset-first, then-fonts_offset-ne24-via-else-fonts_offset-ne24+else-items_offset-first+then-bytes-from}
use Rattle.sheet.proofs.pieces.is_laid_out.Goals as goal

pub returns-then-fonts_offset-ne24 : goal.returns-then-fonts_offset-ne24
returns-then-fonts_offset-ne24 c = elim c.then-fonts_offset-ne24.branch [
  | then-fonts_offset-ne24-via-then-fonts_offset-ne24 w ↦ search fonts_elsewhere
  | then-fonts_offset-ne24-via-else-fonts_offset-ne24+then-items_offset-first w ↦ search items_elsewhere
  | then-fonts_offset-ne24-via-else-fonts_offset-ne24+else-items_offset-first+then-bytes-from w ↦ search records_out
]

pub returns : goal.returns
returns c = search laid_out_is
