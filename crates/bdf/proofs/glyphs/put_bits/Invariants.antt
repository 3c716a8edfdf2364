-- `put_bits` meets its contract: at byte j the bytes before it have their bits, and the others are as they were. Assumes nothing.
use Rattle.bdf.proofs.Bits.{BitsPut}
use Rattle.bdf.proofs.glyphs.put_bits.Given as goal

abbrev pub invariant-loop-j : goal.invariant-loop-j
invariant-loop-j l = BitsPut l.left l.end l.bits l.j l.initial.row l.row
