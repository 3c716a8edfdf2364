-- `Metrics::ink_box` meets its contract: the definition has the same width and the same rows. Assumes nothing.
use Rattle.line.specs.Line.{ink_box}
use Rattle.line.proofs.Ink.{first_fits}
use Rattle.line.proofs.fonts.Metrics.ink_box.Goals as goal

pub overflow_add-first : goal.overflow_add-first
overflow_add-first c = search first_fits

pub returns : goal.returns
unfolding ink_box
returns c = rw (c.advance-width.ensures, c.ink_rows-rows.ensures)
