-- The invariant: the rest is well-formed if and only if the text is. Each step goes forward. Assumes nothing.
use borrow.Author.Rules.{rules}
use Rattle.characters.proofs.Ascii.{ascii_head}
use Rattle.characters.proofs.Walks.{step-within, step_less, walk_again, walk_stopped, walk_past}
use Rattle.characters.proofs.walk.Goals as goal

pub loop-c-init : goal.loop-c-init
loop-c-init g c = let h = ascii_head _ _ c.ascii_length.ensures in search rules

pub returns-in_default : goal.returns-in_default
returns-in_default g c = search (walk_stopped, c.in_default.not-Character)

pub loop-c-smaller : goal.loop-c-smaller
loop-c-smaller g c = search step_less

pub loop-c-preserved : goal.loop-c-preserved
loop-c-preserved g c = (search step-within, search walk_again)

pub returns : goal.returns
returns g c = search walk_past
