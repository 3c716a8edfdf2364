-- The loop keeps the first refusal of the items that are left. Assumes nothing.
use Prim.Native.Nat.{◌-◌}
use mathlib.Core.Path.{◌≡◌}
use Rattle.sheet.specs.Check.{first_refusal, item_refusal, check_items}
use Rattle.sheet.proofs.check_items.Given as goal

abbrev pub invariant-loop-k : goal.invariant-loop-k
invariant-loop-k l = first_refusal (item_refusal l.header.bytes.now) (l.items - l.k) l.k ≡ check_items l.header.bytes.now
