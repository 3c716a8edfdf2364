-- `bitmap_alone` meets its contract: the keyword and a feed. Assumes nothing.
use Rattle.std.proofs.Common.{[], ◌∷◌, ◌++◌}
use Rattle.bdf_lines.specs.Keywords.{bitmap}
use Rattle.bdf_lines.proofs.UsualForms.{on_value, stripped, bitmap_found}
use Rattle.bdf_lines.proofs.forms.bitmap_alone.Goals as goal

pub returns : goal.returns
returns c = on_value c.strip_prefix.result _ _ c.strip_prefix.ensures.cases (λ r e. bitmap_found _ _ (stripped _ (bitmap ++ (0x0A ∷ [])) r e))
