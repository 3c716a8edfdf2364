-- The invariant: what is counted and the rest make up the whole, up to one past the limit, and the rest is well-formed if and only if the
-- whole is. Assumes nothing.
use borrow.Author.Rules.{rules}
use Rattle.mapping.proofs.Places.{entry_within, entry_less, count_fits, walk_again, count_again, check_stopped}
use Rattle.mapping.proofs.check_mapping.Goals as goal

pub returns-in_default : goal.returns-in_default
returns-in_default c = search (check_stopped, c.in_default.not-Range)

pub overflow_add-count : goal.overflow_add-count
overflow_add-count c = search count_fits

pub loop-start-smaller : goal.loop-start-smaller
loop-start-smaller c = search entry_less

pub loop-start-preserved : goal.loop-start-preserved
loop-start-preserved c = (search entry_within, search rules, search walk_again, search count_again)
