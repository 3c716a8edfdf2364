-- `digit_count` meets its contract: each return is the length of the list that its tests leave of `digits`. Assumes nothing.
use Rattle.page.proofs.Pages.{length_digits_one, length_digits_two, length_digits_three}
use Rattle.page.proofs.digit_count.Goals as goal

pub returns-then-n-lt10 : goal.returns-then-n-lt10
returns-then-n-lt10 c = search length_digits_one

pub returns-then-n-lt100 : goal.returns-then-n-lt100
returns-then-n-lt100 c = search length_digits_two

pub returns : goal.returns
returns c = search length_digits_three
