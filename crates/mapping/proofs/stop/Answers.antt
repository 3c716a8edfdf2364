-- Both returns are cases of the definition. Assumes nothing.
use Rattle.mapping.proofs.Entries.{stop_end, stop_ill_formed}
use Rattle.mapping.proofs.stop.Goals as goal

pub returns-in-IllFormed : goal.returns-in-IllFormed
returns-in-IllFormed c = search stop_ill_formed

pub returns-in_default : goal.returns-in_default
returns-in_default c = search (stop_end, c.in_default.not-IllFormed)
