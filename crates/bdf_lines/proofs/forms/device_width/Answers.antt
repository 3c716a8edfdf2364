-- `device_width` meets its contract: the keyword and a blank, then two numbers. Assumes nothing.
use Rattle.bdf_lines.proofs.UsualForms.{on_value, device_found}
use Rattle.bdf_lines.proofs.forms.device_width.Goals as goal

pub returns : goal.returns
returns c = on_value c.two_numbers.result _ _ c.two_numbers.ensures (λ r t. device_found _ _ t)
