use borrow.Author.Rules.{rules}
use Rattle.characters.proofs.Walks.{step-within, step_less, count_again, count_below, count_stopped}
use Rattle.walked_lines.proofs.walk_line.Goals as goal

pub returns-in_default : goal.returns-in_default
returns-in_default g c = search (count_stopped, c.in_default.not-Character)

pub loop-after-smaller : goal.loop-after-smaller
loop-after-smaller g c = rw c.moved-w.ensures (search step_less)

pub loop-after-preserved : goal.loop-after-preserved
loop-after-preserved g c = rw c.moved-w.ensures (search rules, search count_below, search step-within, search count_again)
