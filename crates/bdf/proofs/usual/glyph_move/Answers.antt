-- `glyph_move` meets its contract: an empty line does not count, and STARTCHAR leads on. Assumes nothing.
use Rattle.bdf_lines.proofs.Stands.{first_byte}
use Rattle.bdf.proofs.Moves.{empty_on, start_on}
use Rattle.bdf.proofs.usual.glyph_move.Goals as goal

pub returns-in-10 : goal.returns-in-10
returns-in-10 c = search (empty_on, first_byte)

pub returns : goal.returns
returns c = search (start_on, c.in_ok-rest.ensures)
