-- `bitmap_line` meets its contract: a bitmap line is next, or ENDCHAR. Assumes nothing.
use Rattle.bdf.proofs.Steps.{bitmap_row, bitmap_done, width_small, read_small}
use Rattle.bdf.proofs.reader.SoundReader.bitmap_line.Goals as goal

pub row_of-requires : goal.row_of-requires
row_of-requires c = search width_small

pub row_line-requires : goal.row_line-requires
row_line-requires c = search read_small

pub returns-then-state : goal.returns-then-state
returns-then-state c = search bitmap_row

pub returns : goal.returns
returns c = search bitmap_done
