-- `after_word` meets its contract: the first word is the given one, or another, or there is none. Assumes nothing.
use Rattle.bdf_lines.proofs.Rest.{after_none, after_found, after_other}
use Rattle.bdf_lines.proofs.words.after_word.Goals as goal

pub returns-in_err-word-clause-word : goal.returns-in_err-word-clause-word
returns-in_err-word-clause-word c = rw c.from_residual.ensures (after_none _ c.in_err-word.ensures.word _)

pub returns-then-eq-clause-place : goal.returns-then-eq-clause-place
returns-then-eq-clause-place c = c.in_ok-word.ensures.place.1

pub returns-then-eq-clause-word : goal.returns-then-eq-clause-word
returns-then-eq-clause-word c = search (after_found, c.in_ok-word.ensures)

pub returns-clause-word : goal.returns-clause-word
returns-clause-word c = search (after_other, c.in_ok-word.ensures)
