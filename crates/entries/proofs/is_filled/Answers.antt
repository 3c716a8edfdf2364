-- The invariant: what is left is filled exactly if the whole list is. Assumes nothing.
use mathlib.Core.Path.{sym, ◌∙◌, ap}
use lib.Dec.{eqb}
use lib.ListN.{length}
use Rattle.entries.specs.Entries.{is_filled}
use Rattle.entries.proofs.Walks.{filled-behind, filled_end}
use Rattle.entries.proofs.is_filled.Goals as goal

pub loop-preserved : goal.loop-preserved
loop-preserved c = ap is_filled c.in-Some.ensures.steps.step.1 ∙ filled-behind _ (sym c.in-Some.ensures.steps.whole) ∙ c.loop.invariant

pub returns : goal.returns
returns c = filled_end _ _ _ c.loop.invariant c.in_default.ensures.steps.whole (c.is_empty.ensures ∙ ap (λ l. eqb (length l) 0) c.in_default.ensures.steps.step)
