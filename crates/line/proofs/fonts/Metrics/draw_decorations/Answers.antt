-- `Metrics::draw_decorations` meets its contract: two decorations painted in turn are one layer. Assumes nothing.
use Rattle.line.proofs.Strings.{decorations_painted}
use Rattle.line.proofs.fonts.Metrics.draw_decorations.Goals as goal

pub returns : goal.returns
returns c = decorations_painted _ _ _ _ _ _ _ _ _ _ c.to_color-first.ensures c.to_color-second.ensures c.draw.ensures c.draw-2.ensures
