-- Every byte is 0 just where the iterator says so. Assumes nothing.
use Rattle.std.proofs.lemmas.Iterator.{cases_from_all, YieldsList-from_slice}
use Rattle.std.proofs.Common.{rules, ◌≡◌}
use borrow.Author.Tests.{tests}
use Rattle.sheet.proofs.Acceptance.{zeros_told}
use Rattle.sheet.proofs.all_zero.Goals as goal

pub returns : goal.returns
returns c =
    zeros_told _ _ (cases_from_all _ _ _ (λ x. x ≡ 0) (λ x. x ≡ 0 → ⊥) c.all.ensures.ran (YieldsList-from_slice c.args.bytes.now cc) (λ x q k. search (rules, tests)) (λ x q k. search (rules, tests)))
