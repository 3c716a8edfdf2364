-- `four_of` meets its contract: the definition goes by the same cases. Assumes nothing.
use Rattle.bdf_lines.proofs.NumberLines.{four_other, four-after}
use Rattle.bdf_lines.proofs.values.four_of.Goals as goal

pub returns-in_err-after_word : goal.returns-in_err-after_word
returns-in_err-after_word c = rw c.from_residual.ensures (search (four_other, c.in_err-after_word.ensures))

pub returns : goal.returns
returns c = search (four-after, c.in_ok-after_word.ensures)
