-- `put_bits` meets its contract: at byte j the bytes before it have their bits, and the others are as they were. Assumes nothing.
use Rattle.bdf.proofs.Bits.{bits_start, bits_step, bits_end, bits_last}
use Rattle.bdf.proofs.glyphs.put_bits.Goals as goal

pub loop-j-init : goal.loop-j-init
loop-j-init c = search bits_start

pub loop-j-preserved : goal.loop-j-preserved
loop-j-preserved c = search bits_step

pub returns-then-end-eq0 : goal.returns-then-end-eq0
returns-then-end-eq0 c = search bits_end

pub returns : goal.returns
returns c = search bits_last
