-- Each return is the outcome of the tests. Assumes nothing.
use Rattle.characters.proofs.Tests.{tests}
use Rattle.mapping.specs.Search.{needle_of}
use Rattle.mapping.proofs.search.needle_of.Goals as goal

pub returns-then-ch-lt128 : goal.returns-then-ch-lt128
unfolding needle_of
returns-then-ch-lt128 c = search tests

pub returns-then-ch-lt2048 : goal.returns-then-ch-lt2048
unfolding needle_of
returns-then-ch-lt2048 c = search tests

pub returns-then-ch-lt65536 : goal.returns-then-ch-lt65536
unfolding needle_of
returns-then-ch-lt65536 c = search tests

pub returns : goal.returns
unfolding needle_of
returns c = search tests
