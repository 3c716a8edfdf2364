-- What is read is the item's place, style and font, and the top edge is the baseline offset above its y.
use Rattle.drawing.proofs.Readings.{whitespace_painted, whitespace-next}
use Rattle.drawing.proofs.draw_whitespace_in.Goals as goal

pub returns-clause-painted : goal.returns-clause-painted
returns-clause-painted c = whitespace_painted _ _ c.layout-layout.result c.layout-layout.ensures.font_value c.layout-layout.ensures.value _ _ _ _ _ c.draw_whitespace-x.ensures.painted c.saturating_sub.ensures c.baseline_offset-offset.ensures

pub returns-clause-value : goal.returns-clause-value
returns-clause-value c = whitespace-next _ _ c.layout-layout.result c.layout-layout.ensures.font_value c.layout-layout.ensures.value _ _ c.draw_whitespace-x.ensures.value
