-- `is_pair` meets its contract: after the keyword the given word is left alone. Assumes nothing.
use Rattle.std.proofs.Common.{rules}
use Rattle.bdf_lines.proofs.Rest.{passes, pair}
use Rattle.bdf_lines.proofs.words.is_pair.Goals as goal

pub returns : goal.returns
returns c = passes (pair c.args.name.now c.args.given.now) _ c.after_word.result c.after_word.ensures.word c.is_some_and.ensures (λ y p. search rules)
