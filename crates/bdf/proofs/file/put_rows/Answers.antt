-- `put_rows` meets its contract. The invariant: what the bitmap lines so far come to and put is what the rest leaves. Assumes nothing.
use Rattle.bdf.proofs.Strips.{bitmap-glyph, rows_same, rows_start, rows_next, row_strip_fits, rows_step}
use Rattle.bdf.proofs.Steps.{width_small}
use Rattle.bdf.proofs.file.put_rows.Goals as goal

pub strip_of-strip-requires : goal.strip_of-strip-requires
strip_of-strip-requires c = search bitmap-glyph

pub loop-read-init : goal.loop-read-init
loop-read-init c = (search rows_same, search rows_start)

pub row-requires : goal.row-requires
row-requires c = search width_small

pub put_row-requires : goal.put_row-requires
put_row-requires c = search (row_strip_fits, c.in-Some.ensures)

pub loop-read-preserved : goal.loop-read-preserved
loop-read-preserved c = (search (rows_next, c.in-Some.ensures), search (rows_step, c.in-Some.ensures))
