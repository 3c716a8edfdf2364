-- `next` of the iterator gives the first character left, if there is one. Assumes nothing.
use native.Mathlib.Omega.{arith}
use lib.ListN.{length}
use mathlib.Core.Path.{ap}
use Rattle.characters.proofs.Folds.{chars-character, chars_stopped}
use Rattle.characters.proofs.CharactersIterator.next.Goals as goal

pub returns-in_default : goal.returns-in_default
returns-in_default c =
    let z = chars_stopped _ _ c.next.ensures c.in_default.not-Character in
    record { steps = (z, z); goes = record { on = λ f. tt; keeps = tt; rests = λ f. tt } }

pub returns-clause-steps : goal.returns-clause-steps
returns-clause-steps c = chars-character _ _ c.next.ensures c.in-Character.is

pub returns-clause-goes : goal.returns-clause-goes
returns-clause-goes c =
    let l = ap length (chars-character _ _ c.next.ensures c.in-Character.is) in
    record { on = λ f. (tt, tt, omega arith); keeps = tt; rests = λ f. tt }
