-- `put` meets its contract: each answer is a case of the definition. Assumes nothing.
use Rattle.bdf.proofs.Strips.{from_fits, to_fits, encoded_fits, drawn_fits, drawn_glyph, put_passed, put_boxed, put_encoded, put_drawn}
use Rattle.bdf.proofs.file.put.Goals as goal

pub overflow_add-from : goal.overflow_add-from
overflow_add-from c = search from_fits

pub overflow_add-to : goal.overflow_add-to
overflow_add-to c = search to_fits

pub put_spelling-requires : goal.put_spelling-requires
put_spelling-requires c = search encoded_fits

pub returns-in-Encoded : goal.returns-in-Encoded
returns-in-Encoded c = search put_encoded

pub strip_of-strip-requires : goal.strip_of-strip-requires
strip_of-strip-requires c = search drawn_glyph

pub put_row-requires : goal.put_row-requires
put_row-requires c = search drawn_fits

pub returns-in-Drawn : goal.returns-in-Drawn
returns-in-Drawn c = search put_drawn

pub returns-in-Passed : goal.returns-in-Passed
returns-in-Passed c = search put_passed

pub returns-in-Boxed : goal.returns-in-Boxed
returns-in-Boxed c = search put_boxed
