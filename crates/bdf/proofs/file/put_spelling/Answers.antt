-- `put_spelling` meets its contract: the part that is lent is as long as the spelling. Assumes nothing.
use Rattle.bdf.proofs.Strips.{spelling_not, spelling_room, spelling-put}
use Rattle.bdf.proofs.file.put_spelling.Goals as goal

pub returns-then-not-writing : goal.returns-then-not-writing
returns-then-not-writing c = search spelling_not

pub slice_bounds-put_character-end : goal.slice_bounds-put_character-end
slice_bounds-put_character-end c = search spelling_room

pub returns : goal.returns
returns c = search spelling-put
