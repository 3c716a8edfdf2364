-- At each line the lines before it are painted and counted, and those left make up the rest. Assumes nothing.
use Rattle.text.proofs.Drawing.{LinesPainted, LinesCounted}
use Rattle.text.proofs.texts.Text.draw.Given as goal

abbrev pub invariant-loop-line : goal.invariant-loop-line
invariant-loop-line l = record { painted : LinesPainted l.self l.initial.frame l.line-iterator l.frame; counted : LinesCounted l.self l.line-iterator l.next l.replaced }
