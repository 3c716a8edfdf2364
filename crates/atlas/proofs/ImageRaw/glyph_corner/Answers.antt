-- `ImageRaw::glyph_corner` meets its contract: the definition makes the same four tests. Assumes nothing.
use Rattle.std.proofs.Common.{arith}
use Rattle.atlas.proofs.Corners.{per_row_pos, column_fits, column_widens, line_fits, row_fits, drawn_tests, corner_nowhere, corner_past_foot, corner_in}
use Rattle.atlas.proofs.ImageRaw.glyph_corner.Goals as goal
use Rattle.atlas.proofs.ImageRaw.glyph_corner.Goals.{then-width-eq0-via-then-width-eq0, then-width-eq0-via-else-width-eq0+then-height-eq0, then-width-eq0-via-else-width-eq0+else-height-eq0+then-self-width}

pub returns-then-width-eq0 : goal.returns-then-width-eq0
returns-then-width-eq0 c = corner_nowhere _ _ _ (λ d. elim c.then-width-eq0.branch [
  | then-width-eq0-via-then-width-eq0 w ↦ omega (arith, drawn_tests _ _ _ d, w.if-width-eq0.true)
  | then-width-eq0-via-else-width-eq0+then-height-eq0 w ↦ omega (arith, drawn_tests _ _ _ d, w.if-height-eq0.true)
  | then-width-eq0-via-else-width-eq0+else-height-eq0+then-self-width w ↦ omega (arith, drawn_tests _ _ _ d, w.if-self-width.true)
])

pub nonzero_rem-column : goal.nonzero_rem-column
nonzero_rem-column c = per_row_pos _ _ _ c.args.self.now.cells_of.per_row (omega arith) (omega arith)

pub overflow_mul-column : goal.overflow_mul-column
overflow_mul-column c = column_fits _ _ _ _ c.args.self.now.cells_of.per_row (omega arith) (omega arith) (search)

pub nonzero_div-row : goal.nonzero_div-row
nonzero_div-row c = per_row_pos _ _ _ c.args.self.now.cells_of.per_row (omega arith) (omega arith)

pub overflow_cast-row : goal.overflow_cast-row
overflow_cast-row c = search line_fits

pub overflow_mul-row : goal.overflow_mul-row
overflow_mul-row c = search row_fits

pub returns-then-self-row : goal.returns-then-self-row
returns-then-self-row c = corner_past_foot _ _ _ _ c.args.self.now.cells_of (omega arith) (omega arith) (omega arith) c.if-self-row.true

pub overflow_cast-result : goal.overflow_cast-result
overflow_cast-result c = column_widens _ _ _ _ c.args.self.now.cells_of.per_row (omega arith) (omega arith) (search)

pub returns : goal.returns
returns c = corner_in _ _ _ _ c.args.self.now.cells_of (omega arith) (omega arith) (omega arith) c.if-self-row.false
