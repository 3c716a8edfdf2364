-- A file that has no header is too short. Assumes nothing.
use Rattle.sheet.proofs.Outcomes.{short_header}
use Rattle.sheet.proofs.check_header.Goals as goal

pub returns-in_err-header-clause-value : goal.returns-in_err-header-clause-value
returns-in_err-header-clause-value c = short_header _ _ _ _ c.of.ensures.whole.1 c.in_err-header.ensures.value c.from_residual.ensures.1
