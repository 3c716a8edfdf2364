-- A mapping that is not refused is within the limit, so a glyph may be looked up.
use Rattle.mapping.proofs.Listed.{checked_within}
use Rattle.marked_lines.proofs.glyph_in.Goals as goal

pub invariant_of-glyph_of : goal.invariant_of-glyph_of
invariant_of-glyph_of c = record { within_limit = search checked_within }
