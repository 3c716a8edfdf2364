-- An edit that is not refused fits its item. Assumes nothing.
use borrow.Author.Rules.{rules}
use Rattle.edits.proofs.Stored.{text_fits, style_fits, place-fits, x_in_range, y_in_range}
use Rattle.edits.proofs.put.Goals as goal

pub put_text-requires : goal.put_text-requires
put_text-requires c = text_fits _ _ _ c.item_offset-o.ensures _ (rw c.in-Text.is at c.requires)

pub biased-requires : goal.biased-requires
biased-requires c = x_in_range _ _ _ _ (rw c.in-Place.is at c.requires) (search rules)

pub biased-requires-in-Place : goal.biased-requires-in-Place
biased-requires-in-Place c = y_in_range _ _ _ _ (rw c.in-Place.is at c.requires) (search rules)

pub put_place-requires : goal.put_place-requires
put_place-requires c = place-fits _ _ _ c.item_offset-o.ensures _ _ (rw c.in-Place.is at c.requires)

pub put_style-requires : goal.put_style-requires
put_style-requires c = style_fits _ _ _ c.item_offset-o.ensures _ (rw c.in-Style.is at c.requires)
