-- The invariant: what is left of the list, made from where the loop stands, gives what the whole list gives. Assumes nothing.
use native.Mathlib.Omega.{arith}
use mathlib.Core.Path.{refl}
use Rattle.entries.proofs.Walks.{behind_shorter}
use Rattle.batch.proofs.Steps.{near_ends, checked_accepted, stored_accepted, stored_canvas}
use Rattle.batch.proofs.Lists.{start_near, start-batch, end_batch, end_sheet, end_frame, stopped_batch, stopped_sheet, stopped_frame, area_near, stands_next}
use Rattle.batch.proofs.make_list.Goals as goal

pub loop-entry-init : goal.loop-entry-init
loop-entry-init c = rw (c.into_iter-entry-iterator.ensures.into_iter_gives, c.of-entry-items.ensures) (record { checked = c.requires; counted = omega arith; near = start_near _ refl; batch-as = start-batch _ _ refl; state-as = refl })

pub loop-entry-preserved : goal.loop-entry-preserved
loop-entry-preserved c = stands_next _ _ _ _ _ _ _ _ c.loop-entry.invariant _ _ c.in-Ok.ensures.value _ _ _ _ c.change.ensures.sheet_after c.repaint.ensures c.join-area.ensures c.in-Some.ensures.steps.step.0 c.in-Some.ensures.steps.whole c.in-Some.ensures.steps.step.1

pub change-requires : goal.change-requires
change-requires c = checked_accepted _ _ c.loop-entry.invariant.checked

pub invariant_of-repaint : goal.invariant_of-repaint
invariant_of-repaint c = record { accepted = stored_accepted _ c.loop-entry.frame _ _ c.in-Ok.ensures.value c.loop-entry.invariant.checked refl _ c.change.ensures.sheet_after }

pub repaint-requires : goal.repaint-requires
repaint-requires c = stored_canvas _ c.loop-entry.frame _ _ c.in-Ok.ensures.value c.loop-entry.invariant.checked refl _ c.change.ensures.sheet_after

pub join-area-requires-clause-ends_fit_2 : goal.join-area-requires-clause-ends_fit_2
join-area-requires-clause-ends_fit_2 c = near_ends _ (area_near _ _ _ c.loop-entry.invariant.checked c.in-Some.ensures.steps.whole _ c.in-Some.ensures.steps.step.0 _ c.in-Ok.ensures.value)

pub overflow_add-made : goal.overflow_add-made
overflow_add-made c = let h = behind_shorter _ _ c.in-Some.ensures.steps.whole c.in-Some.ensures.steps.step.1 in omega (arith, c.loop-entry.invariant.counted)

pub returns-in-Err-clause-result_value : goal.returns-in-Err-clause-result_value
returns-in-Err-clause-result_value c = stopped_batch _ _ _ c.loop-entry.invariant.checked c.in-Some.ensures.steps.whole _ c.in-Some.ensures.steps.step.0 _ c.in-Err.ensures.value _ _ _ c.loop-entry.invariant.batch-as

pub returns-in-Err-clause-sheet_after : goal.returns-in-Err-clause-sheet_after
returns-in-Err-clause-sheet_after c = stopped_sheet _ _ _ c.loop-entry.invariant.checked c.in-Some.ensures.steps.whole _ c.in-Some.ensures.steps.step.0 _ c.in-Err.ensures.value _ c.loop-entry.invariant.state-as _ c.change.ensures.sheet_after

pub returns-in-Err-clause-frame_after : goal.returns-in-Err-clause-frame_after
returns-in-Err-clause-frame_after c = stopped_frame _ _ _ c.loop-entry.invariant.checked c.in-Some.ensures.steps.whole _ c.in-Some.ensures.steps.step.0 _ c.in-Err.ensures.value _ c.loop-entry.invariant.state-as

pub returns-clause-result_value : goal.returns-clause-result_value
returns-clause-result_value c = end_batch _ _ _ c.in-None.ensures.steps.whole _ _ _ c.loop-entry.invariant.batch-as

pub returns-clause-sheet_after : goal.returns-clause-sheet_after
returns-clause-sheet_after c = end_sheet _ _ _ c.in-None.ensures.steps.whole _ c.loop-entry.invariant.state-as

pub returns-clause-frame_after : goal.returns-clause-frame_after
returns-clause-frame_after c = end_frame _ _ _ c.in-None.ensures.steps.whole _ c.loop-entry.invariant.state-as
