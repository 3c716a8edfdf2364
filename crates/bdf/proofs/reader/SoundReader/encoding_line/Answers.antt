-- `encoding_line` meets its contract: the tests of the number come first, and then its spelling. Assumes nothing.
use Rattle.std.proofs.Common.{refl}
use Rattle.bdf.specs.Reader.{encoding_line}
use Rattle.bdf.proofs.Steps.{refused, there, encoding_bad, encoding_falls, encoding_passed, character_small, character-fits}
use Rattle.bdf.proofs.reader.SoundReader.encoding_line.Goals as goal

pub returns-in_err-n : goal.returns-in_err-n
unfolding encoding_line
returns-in_err-n c = refused _ _ c.ok_or.ensures.value (λ z. encoding_line z c.args.self.state) refl _ c.in_err-n.was _ c.from_residual.ensures.1

pub returns-then-not-is_character : goal.returns-then-not-is_character
returns-then-not-is_character c = search (encoding_bad, there _ _ c.ok_or.ensures.value _ c.in_ok-n.was)

pub returns-then-n-self : goal.returns-then-n-self
returns-then-n-self c = search (encoding_falls, there _ _ c.ok_or.ensures.value _ c.in_ok-n.was)

pub overflow_cast-n : goal.overflow_cast-n
overflow_cast-n c = search character-fits

pub spelling_line-requires : goal.spelling_line-requires
spelling_line-requires c = search character_small

pub returns : goal.returns
returns c = search (encoding_passed, there _ _ c.ok_or.ensures.value _ c.in_ok-n.was)
