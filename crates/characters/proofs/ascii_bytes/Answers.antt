-- The position of the first byte that is not below 80, or the length. Assumes nothing.
use mathlib.Core.Path.{sym, ◌∙◌}
use mathlib.Core.Bool.{not}
use lib.Dec.{ltb}
use Rattle.std.proofs.Common.{rules, tests}
use Rattle.std.proofs.lemmas.List.Sums.{prefix_len-le-length}
use Rattle.std.proofs.lemmas.Iterator.{YieldsList-from_slice}
use Rattle.std.proofs.lemmas.Iterator.Search.{position_from_yields_List}
use Rattle.characters.proofs.Feeds.{or_length}
use Rattle.characters.proofs.Ascii.{first_above, ascii_head}
use Rattle.characters.proofs.ascii_bytes.Goals as goal

pub returns-clause-value : goal.returns-clause-value
returns-clause-value c =
    let p = position_from_yields_List (λ b. not (ltb b 0x80)) _ _ c.position.result c.position.ensures.ran (YieldsList-from_slice c.args.s.now cc) (λ x b q k. search (rules, tests)) in
    or_length _ _ _ _ (prefix_len-le-length _ _) p c.unwrap_or.ensures ∙ sym (first_above _)

pub returns-clause-within : goal.returns-clause-within
returns-clause-within c = (ascii_head _ _ (returns-clause-value c)).within
