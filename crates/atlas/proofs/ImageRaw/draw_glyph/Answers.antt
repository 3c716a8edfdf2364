-- `ImageRaw::draw_glyph` meets its contract: a glyph that is shown and drawn is the part of the atlas in its cell. Assumes nothing.
use Rattle.geometry.proofs.Paintings.{painted_none, painted_by}
use Rattle.atlas.proofs.Shown.{glyph_unshown, glyph_missing, some_shown, glyph_sub_image, glyph_drawn}
use Rattle.atlas.proofs.ImageRaw.draw_glyph.Goals as goal

pub returns-then-is_empty-clause-painted : goal.returns-then-is_empty-clause-painted
returns-then-is_empty-clause-painted c = painted_none _ _ (search glyph_unshown)

pub returns-in_default-clause-painted : goal.returns-in_default-clause-painted
returns-in_default-clause-painted c = painted_none _ _ (search glyph_missing)

pub draw_sub_image-requires-clause-cell_value : goal.draw_sub_image-requires-clause-cell_value
draw_sub_image-requires-clause-cell_value c = search some_shown

pub draw_sub_image-requires-clause-sub_image : goal.draw_sub_image-requires-clause-sub_image
draw_sub_image-requires-clause-sub_image c = search glyph_sub_image

pub returns-clause-painted : goal.returns-clause-painted
returns-clause-painted c = painted_by _ _ _ _ c.draw_sub_image.ensures.painted (search glyph_drawn)
