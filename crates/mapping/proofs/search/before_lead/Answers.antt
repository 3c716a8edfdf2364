-- The position of the first lead byte, or the length. Assumes nothing.
use Rattle.std.proofs.Common.{rules, tests, ◌≡◌, ℕ, ◌≤◌, Option, Some, None, cond, ltb, arith, ◌∙◌}
use borrow.Author.Tests.{lt-ltb, le-ltb}
use native.Mathlib.Decide.{dec_lt}
use Rattle.std.specs.Option.{unwrap_or}
use Rattle.std.proofs.lemmas.List.Sums.{prefix_len-le-length}
use Rattle.std.proofs.lemmas.Iterator.{YieldsList-from_slice}
use Rattle.std.proofs.lemmas.Iterator.Search.{position_from_yields_List}
use Rattle.mapping.specs.Search.{is_lead}
use Rattle.mapping.proofs.search.before_lead.Goals as goal

or_length : (n l v : ℕ) (r : Option ℕ) → n ≤ l → r ≡ cond (ltb n l) (Some n) None → v ≡ unwrap_or r l → v ≡ n
or_length n l v r h e f = elim (dec_lt n l) [
  | yes k ↦ f ∙ rw (e, lt-ltb n l k)
  | no k ↦ f ∙ rw (e, le-ltb n l (omega arith)) (omega arith)
]

pub returns : goal.returns
returns c =
    let p = position_from_yields_List is_lead _ _ c.position.result c.position.ensures.ran (YieldsList-from_slice c.args.bytes.now cc) (λ x b q k. search (rules, tests)) in
    or_length _ _ _ _ (prefix_len-le-length _ _) p c.unwrap_or.ensures
