-- `two_numbers` meets its contract: given bytes, then numbers up to a blank and up to a feed. Assumes nothing.
use Rattle.bdf_lines.proofs.UsualForms.{stripped, two_after}
use Rattle.bdf_lines.proofs.forms.two_numbers.Goals as goal

pub returns : goal.returns
returns c = two_after _ _ _ _ _ _ _ (stripped _ _ c.in_ok-rest.rest c.in_ok-rest.ensures.cases) c.in_ok-rest-2.ensures c.in_ok-rest-3.ensures
