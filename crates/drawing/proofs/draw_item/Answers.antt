-- In the clip of the whole frame the item's layer is the layer itself.
use native.Mathlib.Omega.{arith}
use Rattle.drawing.proofs.Painting.{whole_drawn}
use Rattle.drawing.proofs.Readings.{item_painted}
use Rattle.drawing.proofs.draw_item.Goals as goal

pub returns-clause-frame_after : goal.returns-clause-frame_after
returns-clause-frame_after c =
    let q = item_painted _ _ c.to_text.result c.to_text.ensures.font_value c.to_text.ensures.value _ _ c.draw.ensures.painted in
    let p = whole_drawn _ _ _ _ _ c.requires c.whole_frame-frame.ensures.target_value c.whole_frame-frame.ensures.greys_value q in
    grind arith
