-- `first_line` meets its contract: its usual form, or the line up to its end. Assumes nothing.
use Rattle.bdf.proofs.Walks.{line_is}
use Rattle.bdf.proofs.file.first_line.Goals as goal

pub returns-in_default-clause-answer : goal.returns-in_default-clause-answer
returns-in_default-clause-answer c = search line_is
