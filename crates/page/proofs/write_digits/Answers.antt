-- `write_digits` meets its contract: each return stores the digits that its tests leave. Assumes nothing.
use borrow.Author.Rules.{rules}
use Rattle.page.proofs.Pages.{stored_one, stored-two, stored-three}
use Rattle.page.proofs.write_digits.Goals as goal

pub returns-then-n-lt10 : goal.returns-then-n-lt10
returns-then-n-lt10 c =
    let e = c.write_bytes.ensures in
    let s = stored_one _ _ c.args.n _ _ _ (search rules) (search rules) (e.output_after, e.value) in
    record { output_after = s.0; value = s.1 }

pub returns-then-n-lt100 : goal.returns-then-n-lt100
returns-then-n-lt100 c =
    let e = c.write_bytes-then-n-lt100.ensures in
    let s = stored-two _ _ c.args.n _ _ _ _ (search rules) (search rules) (search rules) (search rules) (e.output_after, e.value) in
    record { output_after = s.0; value = s.1 }

pub returns : goal.returns
returns c =
    let e = c.write_bytes-2.ensures in
    let s = stored-three _ _ c.args.n _ _ _ _ _ (search rules) (search rules) (search rules) (search rules) (e.output_after, e.value) in
    record { output_after = s.0; value = s.1 }
