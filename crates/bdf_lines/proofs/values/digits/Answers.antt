-- `digits` meets its contract. The invariant: the digits to come, after the number so far, say what the word says. Assumes nothing.
use borrow.Author.Rules.{rules}
use Rattle.bdf_lines.specs.Words.{is_digit}
use Rattle.bdf_lines.proofs.Numbers.{passed, failed, digits_none, digits-start, digits_wrong, digits_again, digits_end}
use Rattle.bdf_lines.proofs.values.digits.Goals as goal

pub returns-then-is_empty : goal.returns-then-is_empty
returns-then-is_empty c = search digits_none

pub loop-b-init : goal.loop-b-init
loop-b-init c = (search rules, search digits-start)

pub returns-then-not-is_ascii_digit : goal.returns-then-not-is_ascii_digit
unfolding is_digit
returns-then-not-is_ascii_digit c = search (digits_wrong, failed)

pub appended-v-requires-clause-digit_value : goal.appended-v-requires-clause-digit_value
unfolding is_digit
appended-v-requires-clause-digit_value c = search passed

pub loop-b-preserved : goal.loop-b-preserved
unfolding is_digit
loop-b-preserved c = (search rules, search (digits_again, passed))

pub returns : goal.returns
returns c = search digits_end
