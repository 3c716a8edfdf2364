-- `split_line` meets its contract: the line up to its end, and the rest after the feed that stands there. Assumes nothing.
use Rattle.bdf_lines.proofs.UsualForms.{line_first, line_within, line_before}
use Rattle.bdf_lines.proofs.forms.split_line.Goals as goal

pub split_at-requires : goal.split_at-requires
split_at-requires c = search line_within

pub returns-in-empty-clause-line : goal.returns-in-empty-clause-line
returns-in-empty-clause-line c = search line_first

pub returns-in-len1-up-clause-line : goal.returns-in-len1-up-clause-line
returns-in-len1-up-clause-line c = search line_first

pub returns-in-len1-up-clause-rest : goal.returns-in-len1-up-clause-rest
returns-in-len1-up-clause-rest c = search line_before
