-- Each return is the outcome of the tests. Assumes nothing.
use Rattle.characters.proofs.Tests.{tests}
use Rattle.mapping.specs.Entries.{scalars_below}
use Rattle.mapping.proofs.scalars_below.Goals as goal

pub returns-then-v-lt55296 : goal.returns-then-v-lt55296
unfolding scalars_below
returns-then-v-lt55296 c = search tests

pub returns-then-v-lt57344 : goal.returns-then-v-lt57344
unfolding scalars_below
returns-then-v-lt57344 c = search tests

pub returns : goal.returns
unfolding scalars_below
returns c = search tests
