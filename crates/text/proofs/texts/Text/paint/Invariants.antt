-- At each line the lines before it are painted, and those left make up the rest. Assumes nothing.
use Rattle.text.proofs.Drawing.{LinesPainted}
use Rattle.text.proofs.texts.Text.paint.Given as goal

abbrev pub invariant-loop-line : goal.invariant-loop-line
invariant-loop-line l = LinesPainted l.self l.initial.frame l.line-iterator l.frame
