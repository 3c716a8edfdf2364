-- The part is as long as the spelling, so each store is within it, and the stores of each range of characters fill it. Assumes nothing.
use lib.Dec.{lit<}
use borrow.Author.Rules.{Below-set}
use Rattle.bdf.proofs.Spellings.{room_null, room_one, room_two, room_three, room_four, put_null, put_one, put_two, put_three, put_four}
use Rattle.bdf.proofs.glyphs.put_character.Goals as goal

pub bounds-part-0 : goal.bounds-part-0
bounds-part-0 c = search (room_null, lit<)

pub bounds-part-1 : goal.bounds-part-1
bounds-part-1 c = search (room_null, Below-set, lit<)

pub bounds-part-2 : goal.bounds-part-2
bounds-part-2 c = search (room_null, Below-set, lit<)

pub returns-then-v-eq0 : goal.returns-then-v-eq0
returns-then-v-eq0 c = search put_null

pub bounds-part-0-then-v-lt128 : goal.bounds-part-0-then-v-lt128
bounds-part-0-then-v-lt128 c = search (room_one, lit<)

pub returns-then-v-lt128 : goal.returns-then-v-lt128
returns-then-v-lt128 c = search put_one

pub bounds-part-0-then-v-lt2048 : goal.bounds-part-0-then-v-lt2048
bounds-part-0-then-v-lt2048 c = search (room_two, lit<)

pub bounds-part-1-then-v-lt2048 : goal.bounds-part-1-then-v-lt2048
bounds-part-1-then-v-lt2048 c = search (room_two, Below-set, lit<)

pub returns-then-v-lt2048 : goal.returns-then-v-lt2048
returns-then-v-lt2048 c = search put_two

pub bounds-part-0-then-v-lt65536 : goal.bounds-part-0-then-v-lt65536
bounds-part-0-then-v-lt65536 c = search (room_three, lit<)

pub bounds-part-1-then-v-lt65536 : goal.bounds-part-1-then-v-lt65536
bounds-part-1-then-v-lt65536 c = search (room_three, Below-set, lit<)

pub bounds-part-2-then-v-lt65536 : goal.bounds-part-2-then-v-lt65536
bounds-part-2-then-v-lt65536 c = search (room_three, Below-set, lit<)

pub returns-then-v-lt65536 : goal.returns-then-v-lt65536
returns-then-v-lt65536 c = search put_three

pub bounds-part-0-2 : goal.bounds-part-0-2
bounds-part-0-2 c = search (room_four, lit<)

pub bounds-part-1-2 : goal.bounds-part-1-2
bounds-part-1-2 c = search (room_four, Below-set, lit<)

pub bounds-part-2-2 : goal.bounds-part-2-2
bounds-part-2-2 c = search (room_four, Below-set, lit<)

pub bounds-part-3 : goal.bounds-part-3
bounds-part-3 c = search (room_four, Below-set, lit<)

pub returns : goal.returns
returns c = search put_four
