-- The loop keeps the first refusal of the items that are left. Assumes nothing.
use mathlib.Core.Path.{◌∙◌}
use Rattle.characters.proofs.Refusals.{handed_on}
use Rattle.sheet.proofs.Outcomes.{item_in_at}
use Rattle.sheet.proofs.Loops.{refusal-start, refusal_more, refusal_found, refusal_done, item_refusal_is}
use Rattle.sheet.specs.Check.{check_items}
use Rattle.sheet.proofs.check_items.Goals as goal

pub loop-k-init : goal.loop-k-init
unfolding check_items
loop-k-init c = search refusal-start

pub check_item-requires : goal.check_item-requires
check_item-requires c = search item_in_at

pub returns-in_err-check_item : goal.returns-in_err-check_item
returns-in_err-check_item c = handed_on _ _ c.from_residual.ensures.1 ∙ search (refusal_found, item_refusal_is, c.in_err-check_item.ensures)

pub loop-k-preserved : goal.loop-k-preserved
loop-k-preserved c = search (refusal_more, item_refusal_is, c.in_ok-check_item.ensures)

pub returns : goal.returns
returns c = search refusal_done
