-- The result is the definition, unfolded, with the call's answer in it. Assumes nothing.
use Rattle.characters.proofs.Tests.{calls}
use Rattle.mapping.specs.Search.{is_lead}
use Rattle.mapping.proofs.search.is_lead.Goals as goal

pub returns : goal.returns
unfolding is_lead
returns c = search calls
