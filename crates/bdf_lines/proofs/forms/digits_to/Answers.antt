-- `digits_to` meets its contract: the digits to come go on with the number so far. Assumes nothing.
use Rattle.std.proofs.Common.{rules, refl}
use Rattle.bdf_lines.specs.Words.{is_digit}
use Rattle.bdf_lines.proofs.Numbers.{passed}
use Rattle.bdf_lines.proofs.Stands.{running_start, running_again, digits_found}
use Rattle.bdf_lines.proofs.forms.digits_to.Goals as goal

pub loop-i-init : goal.loop-i-init
loop-i-init c = (search rules, search running_start)

pub returns-then-not-is_ascii_digit : goal.returns-then-not-is_ascii_digit
returns-then-not-is_ascii_digit c = digits_found _ _ _ _ _ c.loop-i.invariant.1 c.loop-i.invariant.0 c.loop-i-test.true c.if-b-stop.false _ refl

pub appended-v-requires-clause-digit_value : goal.appended-v-requires-clause-digit_value
unfolding is_digit
appended-v-requires-clause-digit_value c = search passed

pub loop-i-preserved : goal.loop-i-preserved
unfolding is_digit
loop-i-preserved c = (search rules, search (running_again, passed))
