-- The boxes before and after are those of the item in the two sheets. Assumes nothing.
use Rattle.drawing.proofs.Readings.{item_ink_lem}
use Rattle.drawing.proofs.Changes.{edit_listed, damage_is}
use Rattle.drawing.proofs.damage.damage.Goals as goal

pub invariant_of-item : goal.invariant_of-item
invariant_of-item c = record { listed = edit_listed _ _ _ c.requires }

pub returns : goal.returns
returns c =
    let before = item_ink_lem _ _ c.layout.result c.layout.ensures.font_value c.layout.ensures.value _ c.ink_box-before.ensures.value in
    damage_is _ _ _ _ _ _ before c.ink_after-after.ensures.value c.damage_of.ensures
