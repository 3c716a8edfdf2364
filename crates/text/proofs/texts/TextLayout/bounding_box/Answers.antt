-- `bounding_box` meets its contract: the measured boxes of all lines are joined. Assumes nothing.
use Rattle.std.proofs.Common.{rules}
use Rattle.text.specs.Text.{measured_box, bounding_box}
use Rattle.text.specs.Lent.{lent_text}
use Rattle.text.proofs.texts.TextLayout.bounding_box.Goals as goal

pub returns : goal.returns
unfolding bounding_box
returns c = c.joined.ensures.value (measured_box c.args.self.now.metrics.font (lent_text c.args.self.now)) (λ l r p. search rules)
