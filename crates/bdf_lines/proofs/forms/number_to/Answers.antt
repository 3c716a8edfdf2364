-- `number_to` meets its contract: digits after a sign, or digits alone. Assumes nothing.
use Rattle.bdf_lines.proofs.UsualForms.{on_value}
use Rattle.bdf_lines.proofs.Stands.{first_byte, number_minus, number_plain}
use Rattle.bdf_lines.proofs.forms.number_to.Goals as goal

pub returns-in-45 : goal.returns-in-45
returns-in-45 c = on_value c.digits_to.result _ _ c.digits_to.ensures (λ p d. number_minus _ _ _ _ _ (search first_byte) d)

pub returns-in_default : goal.returns-in_default
returns-in_default c = on_value c.digits_to-in_default.result _ _ c.digits_to-in_default.ensures (λ p d. number_plain _ _ _ _ d)
