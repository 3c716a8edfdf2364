use Rattle.characters.proofs.Walks.{step-within, step_less}
use Rattle.marked_lines.proofs.show_text.Goals as goal

pub loop-ch-smaller : goal.loop-ch-smaller
loop-ch-smaller g c = search step_less

pub loop-ch-preserved : goal.loop-ch-preserved
loop-ch-preserved g c = search step-within
