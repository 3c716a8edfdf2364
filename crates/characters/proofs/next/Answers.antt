-- Each return is the definition at the lead byte found. Assumes nothing.
use Rattle.characters.proofs.Sequences.{step_past, step_alone, step_cut, step-two, step-three, step-four, step_no_length}
use Rattle.characters.proofs.next.Goals as goal

pub returns-then-size-at : goal.returns-then-size-at
returns-then-size-at c = search step_past

pub returns-then-n-eq0 : goal.returns-then-n-eq0
returns-then-n-eq0 c = search step_alone

pub returns-then-left-n : goal.returns-then-left-n
returns-then-left-n c = search step_cut

pub returns-then-n-eq2 : goal.returns-then-n-eq2
returns-then-n-eq2 c = search step-two

pub returns-then-n-eq3 : goal.returns-then-n-eq3
returns-then-n-eq3 c = search step-three

pub returns-then-n-eq4 : goal.returns-then-n-eq4
returns-then-n-eq4 c = search step-four

pub returns : goal.returns
returns c = search step_no_length
