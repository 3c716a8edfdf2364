-- `cells_of` meets its contract: both numbers are the definition's quotients. Assumes nothing.
use Rattle.atlas.proofs.Corners.{quotient, per_row_fits}
use Rattle.atlas.proofs.cells_of.Goals as goal

pub overflow_cast-result : goal.overflow_cast-result
overflow_cast-result c = per_row_fits _ _ _ (quotient _ _ _ _ c.checked_div.ensures c.unwrap_or-glyphs_per_row.ensures) (search)
