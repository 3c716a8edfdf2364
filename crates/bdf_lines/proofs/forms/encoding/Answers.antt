-- `encoding` meets its contract: the keyword and a blank, then a number up to a feed. Assumes nothing.
use Rattle.std.proofs.Common.{[], ◌∷◌, ◌++◌}
use Rattle.bdf_lines.specs.Keywords.{encoding}
use Rattle.bdf_lines.proofs.UsualForms.{on_value, stripped, encoding_found}
use Rattle.bdf_lines.proofs.forms.encoding.Goals as goal

pub returns : goal.returns
returns c = on_value c.number_to.result _ _ c.number_to.ensures (λ p n. encoding_found _ _ _ _ (stripped _ (encoding ++ (0x20 ∷ [])) c.in_ok-strip_prefix.field-0 c.in_ok-strip_prefix.ensures.cases) n)
