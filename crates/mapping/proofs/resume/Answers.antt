-- A character is placed as before after what was passed over, counted on from as many as that has. Assumes nothing.
use Rattle.mapping.proofs.Skipped.{resumes}
use Rattle.mapping.proofs.resume.Goals as goal

pub returns-in-Some : goal.returns-in-Some
returns-in-Some c = let g = rw c.in-Some.is at c.requires.skips_below in search resumes
