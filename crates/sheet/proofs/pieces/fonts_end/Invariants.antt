-- The loop keeps where the pieces of the fonts that are left end, from p on. Assumes nothing.
use Prim.Native.Nat.{◌-◌}
use mathlib.Core.Path.{◌≡◌}
use Rattle.sheet.specs.Fields.{font_count}
use Rattle.sheet.specs.Pieces.{font_pieces, pieces_of}
use Rattle.sheet.specs.Check.{reach}
use Rattle.sheet.proofs.pieces.fonts_end.Given as goal

abbrev pub invariant-loop-k : goal.invariant-loop-k
invariant-loop-k l = reach (pieces_of (font_pieces l.records.header.bytes.now) (l.fonts - l.k) l.k) l.p ≡ reach (pieces_of (font_pieces l.records.header.bytes.now) (font_count l.records.header.bytes.now) 0) l.from
