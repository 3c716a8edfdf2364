-- `feed_count` meets its contract: a byte that is a feed adds one. Assumes nothing.
use mathlib.Core.Path.{◌≡◌, ◌∙◌}
use lib.Dec.{eqb}
use mir.Val.{bool_byte}
use Rattle.std.proofs.Common.{rules}
use Rattle.std.specs.Prelude.{sum_by}
use Rattle.text.proofs.InkBounds.{feeds_summed}
use Rattle.text.proofs.boxes.feed_count.Goals as goal

pub returns : goal.returns
returns c =
    let summed : c.sum-feeds.result ≡ sum_by (λ b. bool_byte (eqb b 0x0A)) c.args.text.now = search rules in
    c.from.ensures ∙ summed ∙ feeds_summed _
