-- `step` meets its contract: outside a bitmap a comment is passed over. Assumes nothing.
use Rattle.bdf.proofs.Steps.{step-bitmap, step-comment, step_line}
use Rattle.bdf.proofs.reader.SoundReader.step.Goals as goal

pub returns-then-in_bitmap : goal.returns-then-in_bitmap
returns-then-in_bitmap c = search step-bitmap

pub returns-then-is_comment : goal.returns-then-is_comment
returns-then-is_comment c = search step-comment

pub returns : goal.returns
returns c = search step_line
