-- `MeasuredFile::atlas_size` meets its contract: the product is that of the definition, and small. Assumes nothing.
use Rattle.bdf.proofs.Fonts.{last_within, stride_fits, rows_fit, rows_wide, size_fits, size_is}
use Rattle.bdf.proofs.MeasuredFile.atlas_size.Goals as goal

pub overflow_mul-stride : goal.overflow_mul-stride
overflow_mul-stride c = search (stride_fits, last_within)

pub overflow_mul-rows : goal.overflow_mul-rows
overflow_mul-rows c = rw c.div_ceil.ensures (search (rows_fit, last_within))

pub overflow_cast-result : goal.overflow_cast-result
overflow_cast-result c = rw c.div_ceil.ensures (search (rows_wide, last_within))

pub overflow_mul-result : goal.overflow_mul-result
overflow_mul-result c = rw c.div_ceil.ensures (search (size_fits, last_within))

pub returns : goal.returns
returns c = rw c.div_ceil.ensures (search (size_is, last_within))
