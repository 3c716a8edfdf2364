-- `is_character` meets its contract: each return follows from the tests passed and the one that failed. Assumes nothing.
use Rattle.bdf.proofs.Steps.{no_character, character_above, character_else}
use Rattle.bdf.proofs.reader.is_character.Goals as goal

pub returns-then-n : goal.returns-then-n
returns-then-n c = search no_character

pub returns-then-n-gt1114111 : goal.returns-then-n-gt1114111
returns-then-n-gt1114111 c = search character_above

pub returns : goal.returns
returns c = search character_else
