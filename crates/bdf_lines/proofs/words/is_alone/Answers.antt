-- `is_alone` meets its contract: no word is left after the keyword. Assumes nothing.
use Rattle.std.proofs.Common.{rules}
use Rattle.bdf_lines.proofs.Rest.{passes, alone}
use Rattle.bdf_lines.proofs.words.is_alone.Goals as goal

pub returns : goal.returns
returns c = passes (alone c.args.name.now) _ c.after_word.result c.after_word.ensures.word c.is_some_and.ensures (λ y p. search rules)
