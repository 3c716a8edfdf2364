-- `end_char` meets its contract: the keyword and a feed. Assumes nothing.
use Rattle.std.proofs.Common.{[], ◌∷◌, ◌++◌}
use Rattle.bdf_lines.specs.Keywords.{end_char}
use Rattle.bdf_lines.proofs.UsualForms.{on_value, stripped, end_found}
use Rattle.bdf_lines.proofs.forms.end_char.Goals as goal

pub returns : goal.returns
returns c = on_value c.strip_prefix.result _ _ c.strip_prefix.ensures.cases (λ r e. end_found _ _ (stripped _ (end_char ++ (0x0A ∷ [])) r e))
