-- `Metrics::draw_whitespace` meets its contract: background and decorations painted in turn are one layer. Assumes nothing.
use Rattle.line.proofs.Strings.{whitespace_painted}
use Rattle.line.proofs.fonts.Metrics.draw_whitespace.Goals as goal

pub returns-clause-painted : goal.returns-clause-painted
returns-clause-painted c = whitespace_painted _ _ _ _ _ _ _ _ c.fill.ensures c.draw_decorations.ensures
