-- `lines_of` meets its contract: from the first byte on, all lines are left. Assumes nothing.
use native.Mathlib.Omega.{arith}
use mathlib.Core.Path.{refl}
use lib.ListN.{length}
use borrow.Author.Tests.{le-leb}
use Rattle.std.specs.Prelude.{unwrap_or}
use Rattle.text.specs.Text.{placed_lines}
use Rattle.text.specs.Remaining.{lines_left}
use Rattle.text.proofs.texts.TextLayout.lines_of.Goals as goal

pub returns-clause-left_value : goal.returns-clause-left_value
unfolding lines_left placed_lines
returns-clause-left_value c = rw (le-leb 0 (length (unwrap_or c.args.new c.args.self.now.text).now) (omega arith)) refl
