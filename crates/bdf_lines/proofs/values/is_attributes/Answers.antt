-- `is_attributes` meets its contract: a law for each way out. Assumes nothing.
use Rattle.bdf_lines.proofs.NumberLines.{attributes_other, attributes_end, attributes-length, attributes_if}
use Rattle.bdf_lines.proofs.values.is_attributes.Goals as goal

pub returns-in_default : goal.returns-in_default
returns-in_default c = search (attributes_other, c.in_default.ensures)

pub returns-in_default-first_word : goal.returns-in_default-first_word
returns-in_default-first_word c = search (attributes_end, c.in-Some.ensures, c.in_default-first_word.ensures)

pub returns-then-word-ne4 : goal.returns-then-word-ne4
returns-then-word-ne4 c = search (attributes-length, c.in-Some.ensures, c.in-Some-first_word.ensures)

pub returns : goal.returns
returns c = search (attributes_if, c.in-Some.ensures, c.in-Some-first_word.ensures)
