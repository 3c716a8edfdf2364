-- `is_named` meets its contract: a word is left after the keyword. Assumes nothing.
use Rattle.std.proofs.Common.{rules}
use Rattle.bdf_lines.proofs.Rest.{passes, named}
use Rattle.bdf_lines.proofs.words.is_named.Goals as goal

pub returns : goal.returns
returns c = passes (named c.args.name.now) _ c.after_word.result c.after_word.ensures.word c.is_some_and.ensures (λ y p. search rules)
