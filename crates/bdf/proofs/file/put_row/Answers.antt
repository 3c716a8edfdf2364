-- `put_row` meets its contract: the row of the atlas is the part that is lent. Assumes nothing.
use Rattle.bdf.proofs.Strips.{strip_not, strip_at_fits, strip_to_fits, strip_room, strip_bits, strip_put}
use Rattle.bdf.proofs.file.put_row.Goals as goal

pub returns-then-not-writing : goal.returns-then-not-writing
returns-then-not-writing c = search strip_not

pub overflow_mul-at : goal.overflow_mul-at
overflow_mul-at c = search strip_at_fits

pub overflow_add-to : goal.overflow_add-to
overflow_add-to c = search strip_to_fits

pub slice_bounds-put_bits-end : goal.slice_bounds-put_bits-end
slice_bounds-put_bits-end c = search strip_room

pub put_bits-requires : goal.put_bits-requires
put_bits-requires c = search strip_bits

pub returns : goal.returns
returns c = search strip_put
