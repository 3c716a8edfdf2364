-- Each return is a case of the definition. Assumes nothing.
use Rattle.mapping.proofs.Entries.{refusal_ill_formed, refusal_none, refusal_limit}
use Rattle.mapping.proofs.stop_refusal.Goals as goal

pub returns-in_default : goal.returns-in_default
returns-in_default c = search (refusal_ill_formed, c.in_default.not-End)

pub returns-then-count-gt65536 : goal.returns-then-count-gt65536
returns-then-count-gt65536 c = search refusal_limit

pub returns : goal.returns
returns c = search refusal_none
