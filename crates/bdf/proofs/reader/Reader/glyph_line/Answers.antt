-- `glyph_line` meets its contract: it goes by how many are left. Assumes nothing.
use Rattle.bdf.proofs.Steps.{glyph_none, glyph_more}
use Rattle.bdf.proofs.reader.Reader.glyph_line.Goals as goal

pub returns-then-left-eq0 : goal.returns-then-left-eq0
returns-then-left-eq0 c = search glyph_none

pub returns : goal.returns
returns c = search glyph_more
