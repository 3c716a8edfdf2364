-- `strip_of` meets its contract: each field is that of the definition, and small. Assumes nothing.
use Rattle.bdf.proofs.Strips.{down_fits, across_fits, top_fits, left_fits, right-fits, top_wide, left_wide, right_wide, strip_is}
use Rattle.bdf.proofs.file.strip_of.Goals as goal

pub overflow_mul-top : goal.overflow_mul-top
overflow_mul-top c = search down_fits

pub overflow_add-top : goal.overflow_add-top
overflow_add-top c = search top_fits

pub overflow_mul-left : goal.overflow_mul-left
overflow_mul-left c = search across_fits

pub overflow_add-left : goal.overflow_add-left
overflow_add-left c = search left_fits

pub overflow_add-right : goal.overflow_add-right
overflow_add-right c = search right-fits

pub overflow_cast-result : goal.overflow_cast-result
overflow_cast-result c = search top_wide

pub overflow_cast-result-2 : goal.overflow_cast-result-2
overflow_cast-result-2 c = search left_wide

pub overflow_cast-result-3 : goal.overflow_cast-result-3
overflow_cast-result-3 c = search right_wide

pub returns : goal.returns
returns c = search strip_is
