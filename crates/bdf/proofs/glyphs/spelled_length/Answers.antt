-- Each return is the length of the spelling in its range of characters. Assumes nothing.
use Rattle.bdf.proofs.Spellings.{spelling_null, spelling_one, spelling-two, spelling-three, spelling-four, length-spelling}
use Rattle.bdf.proofs.glyphs.spelled_length.Goals as goal

pub returns-then-v-eq0 : goal.returns-then-v-eq0
returns-then-v-eq0 c = search (length-spelling, spelling_null)

pub returns-then-v-lt128 : goal.returns-then-v-lt128
returns-then-v-lt128 c = search (length-spelling, spelling_one)

pub returns-then-v-lt2048 : goal.returns-then-v-lt2048
returns-then-v-lt2048 c = search (length-spelling, spelling-two)

pub returns-then-v-lt65536 : goal.returns-then-v-lt65536
returns-then-v-lt65536 c = search (length-spelling, spelling-three)

pub returns : goal.returns
returns c = search (length-spelling, spelling-four)
