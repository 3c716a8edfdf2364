-- `scalable_width` meets its contract: the keyword and a blank, then two numbers. Assumes nothing.
use Rattle.bdf_lines.proofs.UsualForms.{on_value, scalable_found}
use Rattle.bdf_lines.proofs.forms.scalable_width.Goals as goal

pub returns : goal.returns
returns c = on_value c.two_numbers.result _ _ c.two_numbers.ensures (λ r t. scalable_found _ _ t)
