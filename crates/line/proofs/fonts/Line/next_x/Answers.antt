-- `Line::next_x` meets its contract: the sum is small. Assumes nothing.
use Rattle.line.proofs.Advances.{next_fits}
use Rattle.line.proofs.fonts.Line.next_x.Goals as goal

pub overflow_add-result : goal.overflow_add-result
overflow_add-result c = search next_fits
