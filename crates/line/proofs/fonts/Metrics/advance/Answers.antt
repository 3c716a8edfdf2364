-- `Metrics::advance` meets its contract: with a grey set the spacing after the last character is taken off. Assumes nothing.
use Rattle.line.proofs.Advances.{advance_painted, advance_unpainted}
use Rattle.line.proofs.fonts.Metrics.advance.Goals as goal

pub returns-then-is_painted : goal.returns-then-is_painted
returns-then-is_painted c = search advance_painted

pub returns : goal.returns
returns c = search advance_unpainted
