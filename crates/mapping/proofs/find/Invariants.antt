-- The invariant: the position in the rest, counted on from what was passed, is the position in all bytes. Assumes nothing.
use mathlib.Core.Path.{◌≡◌}
use mathlib.Core.Bool.{true}
use Prim.Native.Nat.{◌≤◌}
use lib.ListN.{length}
use Rattle.characters.specs.Utf8.{well_formed}
use Rattle.mapping.specs.Entries.{at_most}
use Rattle.mapping.specs.Mapping.{list_of, place_from}
use Rattle.mapping.proofs.find.Given as goal

abbrev pub invariant-loop-start : goal.invariant-loop-start
invariant-loop-start l = (l.k ≤ 65_536)
    × (well_formed l.rest ≡ true)
    × (at_most 65_536 (place_from l.k l.ch (list_of l.rest)) ≡ at_most 65_536 (place_from l.initial.k l.ch (list_of l.initial.rest)))

abbrev pub decreases-loop-start : goal.decreases-loop-start
decreases-loop-start l = length l.rest
