-- A character of the first range stands as far on as the range has characters up to it, any other as far on as after the range; in a
-- mapping within the limit no position is cut. Assumes nothing.
use Rattle.mapping.proofs.Places.{entry_within, start_below, glyph_stopped, first_pos, first_fits, glyph_first, rest_well, after_first, glyph_placed}
use Rattle.mapping.proofs.Skipped.{resumed}
use Rattle.mapping.proofs.Mapping.glyph_with.Goals as goal

pub returns-in_default : goal.returns-in_default
returns-in_default c = search (glyph_stopped, c.in_default.not-Range)

pub overflow_sub-index : goal.overflow_sub-index
overflow_sub-index c = search first_pos

pub overflow_cast-index : goal.overflow_cast-index
overflow_cast-index c = search first_fits

pub returns-then-in_range : goal.returns-then-in_range
returns-then-in_range c = search glyph_first

pub slice_bounds-resume-count : goal.slice_bounds-resume-count
slice_bounds-resume-count c = search entry_within

pub slice_bounds-resume-start : goal.slice_bounds-resume-start
slice_bounds-resume-start c = search entry_within

pub resume-count-requires-clause-well : goal.resume-count-requires-clause-well
resume-count-requires-clause-well c = search rest_well

pub resume-count-requires-clause-skips_below : goal.resume-count-requires-clause-skips_below
resume-count-requires-clause-skips_below c = start_below c.args.self.now.bytes.now c.args.start.first c.in-Range.is c.args.start.below c.requires.below

pub returns : goal.returns
returns c = search (glyph_placed, after_first, resumed)
