-- Each return is the definition at the steps taken. Assumes nothing.
use Rattle.mapping.proofs.Entries.{first_stopped, single, second_stopped, third_stopped, range_entry}
use Rattle.mapping.proofs.entry_at.Goals as goal

pub returns-in_default : goal.returns-in_default
returns-in_default c = search (first_stopped, c.in_default.not-Character)

pub returns-then-ch-ne0 : goal.returns-then-ch-ne0
returns-then-ch-ne0 c = search single

pub returns-in_default-second : goal.returns-in_default-second
returns-in_default-second c = search second_stopped

pub returns-in_default-third : goal.returns-in_default-third
returns-in_default-third c = search third_stopped

pub returns : goal.returns
returns c = search range_entry
