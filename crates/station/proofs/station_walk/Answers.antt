-- Each case of the walker's step has its reply.
use Rattle.station.proofs.Calls.{walk_character, walk_ill_formed, walk_end}
use Rattle.station.proofs.station_walk.Goals as goal

pub returns-in-Character : goal.returns-in-Character
returns-in-Character c = search walk_character

pub returns-in-IllFormed : goal.returns-in-IllFormed
returns-in-IllFormed c = search walk_ill_formed

pub returns-in-End : goal.returns-in-End
returns-in-End c = search walk_end
