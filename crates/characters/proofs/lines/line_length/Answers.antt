-- The position of the first line feed, or the length. Assumes nothing.
use mathlib.Core.Path.{sym, ◌∙◌}
use lib.Dec.{eqb}
use Rattle.std.proofs.Common.{rules, tests}
use Rattle.std.proofs.lemmas.List.Sums.{prefix_len-le-length}
use Rattle.std.proofs.lemmas.Iterator.{YieldsList-from_slice}
use Rattle.std.proofs.lemmas.Iterator.Search.{position_from_yields_List}
use Rattle.characters.proofs.Feeds.{or_length, first_feed}
use Rattle.characters.proofs.lines.line_length.Goals as goal

pub returns : goal.returns
returns c =
    let p = position_from_yields_List (λ b. eqb b 0x0A) _ _ c.position.result c.position.ensures.ran (YieldsList-from_slice c.args.text.now cc) (λ x b q k. search (rules, tests)) in
    or_length _ _ _ _ (prefix_len-le-length _ _) p c.unwrap_or.ensures ∙ sym (first_feed _)
