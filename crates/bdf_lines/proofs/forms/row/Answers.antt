-- `row` meets its contract: as many digits as the pixels take, and a feed. Assumes nothing.
use Rattle.std.proofs.Common.{rules}
use Rattle.bdf_lines.proofs.BitmapLines.{row_found}
use Rattle.bdf_lines.proofs.forms.row.Goals as goal

pub returns : goal.returns
returns c = row_found _ _ _ _ _ _ _ c.in_ok-digits.ensures.cases c.in_ok-rest.ensures (search (rules, c.in_ok-bits.was))
