-- `has_numbers` meets its contract. The invariant: the words to come are the numbers left if and only if the line has n. Assumes nothing.
use Rattle.bdf_lines.proofs.NumberLines.{numbers_other, numbers-start, numbers_wrong, numbers_again, numbers_end}
use Rattle.bdf_lines.proofs.values.has_numbers.Goals as goal

pub returns-in_default : goal.returns-in_default
returns-in_default c = search (numbers_other, c.in_default.ensures)

pub loop-init : goal.loop-init
loop-init c = search (numbers-start, c.in-Some.ensures)

pub returns-in_default-first_number : goal.returns-in_default-first_number
returns-in_default-first_number c = search (numbers_wrong, c.in_default-first_number.ensures)

pub loop-preserved : goal.loop-preserved
loop-preserved c = search (numbers_again, c.in-Some-first_number.ensures)

pub returns : goal.returns
returns c = search numbers_end
