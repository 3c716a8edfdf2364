-- Numbers that pass keep the text in its slot, so text and tail lie in the file. Assumes nothing.
use Rattle.sheet.proofs.Outcomes.{text_fits, tail_in, text_in}
use Rattle.sheet.proofs.check_item.Goals as goal

pub overflow_sub-size : goal.overflow_sub-size
overflow_sub-size c = text_fits _ _ _ _ c.item_fields.ensures (cc) c.in_ok-item_limits.ensures _ _ c.u16_at-size.ensures.0 c.u16_at-len.ensures.0

pub part-requires : goal.part-requires
part-requires c = tail_in _ _ _ _ c.item_fields.ensures (cc) c.in_ok-item_limits.ensures _ _ c.u16_at-size.ensures.0 c.u16_at-len.ensures.0 _ c.u32_at-slot.ensures.0 c.requires

pub part-requires-2 : goal.part-requires-2
part-requires-2 c = text_in _ _ _ _ c.item_fields.ensures (cc) c.in_ok-item_limits.ensures _ _ c.u16_at-size.ensures.0 c.u16_at-len.ensures.0 _ c.u32_at-slot.ensures.0 c.requires
