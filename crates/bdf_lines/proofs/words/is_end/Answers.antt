-- `is_end` meets its contract: past the line there is no word, and else the bytes from there on say it. Assumes nothing.
use Rattle.bdf_lines.proofs.Rest.{none_past, end_if}
use Rattle.bdf_lines.proofs.words.is_end.Goals as goal

pub returns-in_default : goal.returns-in_default
returns-in_default c = search (none_past, c.in_default.ensures)

pub returns : goal.returns
returns c = end_if c.args.line.now c.args.at _ c.in-Some.ensures.lookup.0.2 c.first_word.result _ _ c.first_word.ensures.word _ c.is_none.ensures
