-- `number_of` meets its contract: digits after a sign, or digits alone. Assumes nothing.
use Rattle.bdf_lines.proofs.Numbers.{number_none, number_signed}
use Rattle.bdf_lines.proofs.values.number_of.Goals as goal

pub returns-then-is_empty : goal.returns-then-is_empty
returns-then-is_empty c = search number_none

pub returns : goal.returns
returns c = search number_signed
