-- The loop keeps the first refusal of the fonts that are left. Assumes nothing.
use mathlib.Core.Path.{◌∙◌}
use Rattle.characters.proofs.Refusals.{handed_on}
use Rattle.sheet.proofs.Outcomes.{font_in_at}
use Rattle.sheet.proofs.Loops.{refusal-start, refusal_more, refusal_found, refusal_done, font_refusal_is}
use Rattle.sheet.specs.Check.{check_fonts}
use Rattle.sheet.proofs.check_fonts.Goals as goal

pub loop-k-init : goal.loop-k-init
unfolding check_fonts
loop-k-init c = search refusal-start

pub check_font-requires : goal.check_font-requires
check_font-requires c = search font_in_at

pub returns-in_err-check_font : goal.returns-in_err-check_font
returns-in_err-check_font c = handed_on _ _ c.from_residual.ensures.1 ∙ search (refusal_found, font_refusal_is, c.in_err-check_font.ensures)

pub loop-k-preserved : goal.loop-k-preserved
loop-k-preserved c = search (refusal_more, font_refusal_is, c.in_ok-check_font.ensures)

pub returns : goal.returns
returns c = search refusal_done
