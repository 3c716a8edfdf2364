-- `appended` meets its contract: ten times a number below the greatest, and a digit, is at most the greatest. Assumes nothing.
use Rattle.bdf_lines.proofs.Numbers.{digit_low, appended_fits}
use Rattle.bdf_lines.proofs.values.appended.Goals as goal

pub overflow_sub-digit : goal.overflow_sub-digit
overflow_sub-digit c = search digit_low

pub returns : goal.returns
returns c = search appended_fits
