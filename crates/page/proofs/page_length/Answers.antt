-- `page_length` meets its contract: the header has nine bytes beside its digits, of which there are six at most. Assumes nothing.
use native.Mathlib.Omega.{arith}
use Rattle.page.proofs.Pages.{length_digits_le, length-page}
use Rattle.page.proofs.page_length.Goals as goal

pub overflow_add-result : goal.overflow_add-result
overflow_add-result c = omega (arith, length_digits_le c.args.w, length_digits_le c.args.h)

pub overflow_add-result-2 : goal.overflow_add-result-2
overflow_add-result-2 c = omega (arith, length_digits_le c.args.w, length_digits_le c.args.h)

pub overflow_add-result-3 : goal.overflow_add-result-3
overflow_add-result-3 c = omega (arith, length_digits_le c.args.w, length_digits_le c.args.h)

pub returns : goal.returns
returns c = omega (arith, length-page c.args.w c.args.h c.args.frame.now)
