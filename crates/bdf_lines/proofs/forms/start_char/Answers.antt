-- `start_char` meets its contract: the keyword, and a name that begins after one blank, up to a feed. Assumes nothing.
use Rattle.std.proofs.Common.{[], ◌∷◌, ◌++◌, arith}
use Rattle.bdf_lines.specs.Keywords.{start_char}
use Rattle.bdf_lines.proofs.UsualForms.{on_value, stripped, named_found}
use Rattle.bdf_lines.proofs.forms.start_char.Goals as goal

pub returns : goal.returns
returns c = on_value c.split_line.result.1 _ _ c.split_line.ensures.rest (λ r d. named_found _ _ _ (stripped _ (start_char ++ (0x20 ∷ [])) c.in_ok-name.name c.in_ok-name.ensures.cases) c.in_ok-first.ensures.item.3.0 (omega (arith, c.in_ok-first.ensures.item.3.1 0)) d)
