-- The blocks are below `lead`, and what continues a sequence is too; it ends at a lead byte. Assumes nothing.
use Rattle.mapping.proofs.Blocks.{lead_fits, skips_on, on_lead}
use Rattle.mapping.proofs.search.pass_below.Goals as goal

pub overflow_add-result : goal.overflow_add-result
overflow_add-result c = search lead_fits

pub returns-clause-skips : goal.returns-clause-skips
returns-clause-skips c = search skips_on

pub returns-clause-on_lead : goal.returns-clause-on_lead
returns-clause-on_lead c = search on_lead
