-- A mapping that is not refused is within the limit, so it may be asked for each number.
use Rattle.mapping.proofs.Listed.{checked_within}
use Rattle.marked_lines.proofs.show_mapping.Goals as goal

pub invariant_of-listed : goal.invariant_of-listed
invariant_of-listed g c = record { within_limit = search checked_within }
