-- The loop keeps the first refusal of the fonts that are left. Assumes nothing.
use Prim.Native.Nat.{◌-◌}
use mathlib.Core.Path.{◌≡◌}
use Rattle.sheet.specs.Check.{first_refusal, font_refusal, check_fonts}
use Rattle.sheet.proofs.check_fonts.Given as goal

abbrev pub invariant-loop-k : goal.invariant-loop-k
invariant-loop-k l = first_refusal (font_refusal l.header.bytes.now) (l.fonts - l.k) l.k ≡ check_fonts l.header.bytes.now
