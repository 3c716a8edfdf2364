-- The first entry, and what is passed over of the bytes after it. Assumes nothing.
use Rattle.mapping.proofs.Places.{entry_within, start_after}
use Rattle.mapping.proofs.Mapping.start_of.Goals as goal

pub slice_bounds-passed_below-count : goal.slice_bounds-passed_below-count
slice_bounds-passed_below-count c = search entry_within

pub slice_bounds-passed_below-start : goal.slice_bounds-passed_below-start
slice_bounds-passed_below-start c = search entry_within

pub returns : goal.returns
returns c = search start_after
