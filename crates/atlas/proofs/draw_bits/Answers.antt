-- `draw_bits` meets its contract: a part of four to six pixels is the whole row of that many. Assumes nothing.
use Rattle.atlas.proofs.Bits.{whole_part}
use Rattle.atlas.proofs.draw_bits.Goals as goal

pub returns-in-4 : goal.returns-in-4
returns-in-4 c = search whole_part

pub returns-in-5 : goal.returns-in-5
returns-in-5 c = search whole_part

pub returns-in-6 : goal.returns-in-6
returns-in-6 c = search whole_part
