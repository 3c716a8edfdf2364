-- `line_of` meets its contract: a line is the first of what stands from its start on in the text that the source names. Assumes nothing.
use Rattle.text.proofs.Sources.{length-first, named_line, named_lies}
use Rattle.text.proofs.boxes.line_of.Goals as goal

pub slice_bounds-result-end : goal.slice_bounds-result-end
slice_bounds-result-end c = search length-first

pub returns-clause-result_value : goal.returns-clause-result_value
returns-clause-result_value c = named_line c.args.stored _ c.args.new c.unwrap_or-text.ensures _ _ c.line_length.ensures

pub returns-clause-lies_at : goal.returns-clause-lies_at
returns-clause-lies_at c = search named_lies
