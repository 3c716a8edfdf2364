-- `is_comment` meets its contract: no word stands in the line, or the first is the keyword. Assumes nothing.
use Rattle.std.proofs.Common.{rules}
use Rattle.bdf_lines.proofs.Rest.{comment_if}
use Rattle.bdf_lines.proofs.words.is_comment.Goals as goal

pub returns : goal.returns
returns c = comment_if _ _ c.first_word.result _ _ c.first_word.ensures.word c.is_none_or.ensures (λ y p. search rules)
