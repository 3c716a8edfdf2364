-- `MeasuredFile::write_pieces` meets its contract: the lines put the font's atlas and mapping over a cleared atlas. Assumes nothing.
use Rattle.bdf.proofs.Fonts.{pieces_room, pieces_good, pieces-written}
use Rattle.bdf.proofs.MeasuredFile.write_pieces.Goals as goal

pub pass-requires-clause-room : goal.pass-requires-clause-room
pass-requires-clause-room c = search (pieces_room, c.fill.ensures.after (λ y e. e))

pub pass-requires-clause-file_value : goal.pass-requires-clause-file_value
pass-requires-clause-file_value c = search pieces_good

pub returns : goal.returns
returns c = search (pieces-written, c.fill.ensures.after (λ y e. e))
