-- At each line the boxes of the lines before it are joined, and those of the lines left make up the rest. Assumes nothing.
use Rattle.std.specs.Prelude.{unwrap_or}
use Rattle.std.specs.Fn.{FnReturnsAt}
use Rattle.text.specs.Text.{laid_out, placed_lines}
use Rattle.text.proofs.LineBoxes.{BoxesJoined}
use Rattle.text.proofs.texts.TextLayout.joined.Given as goal

abbrev pub invariant-loop-line : goal.invariant-loop-line
invariant-loop-line g l = BoxesJoined l.self (FnReturnsAt g.F.Fn l.box_of) (placed_lines l.self.metrics.font (laid_out l.self (unwrap_or l.new l.self.text).now)) l.line-iterator l.area
