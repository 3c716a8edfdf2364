-- The invariant: the position in the rest, counted on from what was passed, is the position in all bytes. Assumes nothing.
use Rattle.mapping.proofs.Places.{entry_within, count_fits, found_fits, found_pos, found_at, find_again, rest_well}
use Rattle.mapping.proofs.Skipped.{skip_well, skip_again, skip_stopped, skip_less, capped}
use borrow.Author.Rules.{rules}
use Rattle.mapping.proofs.find.Goals as goal

pub returns-in_default : goal.returns-in_default
returns-in_default c = search (skip_stopped, c.in_default.not-Range)

pub overflow_add-k-then-in_range : goal.overflow_add-k-then-in_range
overflow_add-k-then-in_range c = search (found_fits, capped)

pub overflow_sub-k : goal.overflow_sub-k
overflow_sub-k c = search found_pos

pub returns-then-in_range : goal.returns-then-in_range
returns-then-in_range c = search (found_at, skip_again)

pub overflow_add-k-in-loop-start : goal.overflow_add-k-in-loop-start
overflow_add-k-in-loop-start c = search (count_fits, capped)

pub slice_bounds-rest-count : goal.slice_bounds-rest-count
slice_bounds-rest-count c = search entry_within

pub slice_bounds-rest-start : goal.slice_bounds-rest-start
slice_bounds-rest-start c = search entry_within

pub loop-start-smaller : goal.loop-start-smaller
loop-start-smaller c = search skip_less

pub loop-start-preserved : goal.loop-start-preserved
loop-start-preserved c = (search rules, search (rest_well, skip_well), search (find_again, skip_again))
