-- `bbx` meets its contract: the keyword and a blank, then three numbers up to a blank, and one up to a feed. Assumes nothing.
use Rattle.std.proofs.Common.{[], ◌∷◌, ◌++◌}
use Rattle.bdf_lines.specs.Keywords.{bbx}
use Rattle.bdf_lines.proofs.UsualForms.{stripped, bbx_found}
use Rattle.bdf_lines.proofs.forms.bbx.Goals as goal

pub returns : goal.returns
returns c = bbx_found _ _ _ _ _ _ _ _ _ _ (stripped _ (bbx ++ (0x20 ∷ [])) c.in_ok-rest.rest c.in_ok-rest.ensures.cases) c.in_ok-width.ensures c.in_ok-height.ensures c.in_ok-x.ensures c.in_ok-y.ensures
