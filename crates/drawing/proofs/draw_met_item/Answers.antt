-- The text that is painted is the item, in its font.
use Rattle.drawing.proofs.Readings.{item_painted}
use Rattle.drawing.proofs.draw_met_item.Goals as goal

pub returns : goal.returns
returns c = item_painted _ _ c.to_text.result c.to_text.ensures.font_value c.to_text.ensures.value _ _ c.paint.ensures
