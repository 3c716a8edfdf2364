-- The law is computed at each byte. Assumes nothing.
use Rattle.characters.proofs.LeadingOnes.{leading_zeros_complement}
use Rattle.characters.proofs.leading_ones.Goals as goal

pub returns : goal.returns
returns c = leading_zeros_complement c.args.lead c.ranges.lead.fits
