-- Each group of tests runs once those before it pass, which is what it requires. Assumes nothing.
use borrow.Author.Rules.{rules}
use Rattle.sheet.proofs.Outcomes.{header_passed, layout_passed, all_passed}
use Rattle.sheet.proofs.accepted.Goals as goal

pub is_laid_out-requires : goal.is_laid_out-requires
is_laid_out-requires c = header_passed _ _ c.in_ok-header.ensures.same_bytes c.in_ok-header.ensures.value

pub check_fonts-requires : goal.check_fonts-requires
check_fonts-requires c = layout_passed _ _ c.in_ok-header.ensures.same_bytes c.in_ok-header.ensures.value _ c.is_laid_out.ensures c.if-not-is_laid_out.false

pub check_items-requires : goal.check_items-requires
check_items-requires c = layout_passed _ _ c.in_ok-header.ensures.same_bytes c.in_ok-header.ensures.value _ c.is_laid_out.ensures c.if-not-is_laid_out.false

pub invariant_of-result : goal.invariant_of-result
invariant_of-result c = record { accepted = all_passed _ _ c.in_ok-header.ensures.same_bytes c.in_ok-header.ensures.value _ c.is_laid_out.ensures c.if-not-is_laid_out.false (search rules) (search rules) }
