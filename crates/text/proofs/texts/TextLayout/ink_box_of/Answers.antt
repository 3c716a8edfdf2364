-- `ink_box_of` meets its contract: the ink boxes of all lines are joined. Assumes nothing.
use Rattle.std.proofs.Common.{rules}
use Rattle.text.specs.Text.{line_ink, ink_box}
use Rattle.text.specs.Lent.{lent_text}
use Rattle.text.proofs.texts.TextLayout.ink_box_of.Goals as goal

pub returns-clause-value : goal.returns-clause-value
unfolding ink_box line_ink
returns-clause-value c = c.joined.ensures.value (line_ink c.args.self.now.metrics.font (lent_text c.args.self.now)) (λ l r p. search rules)
