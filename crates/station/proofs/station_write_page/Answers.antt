-- Refused with the page's code; else the page fits the output and is written at its head.
use Rattle.calls.specs.Calls.{page_reply, page_output}
use Rattle.station.proofs.Calls.{kept, number_refused, page_room, page_short, page_replied, page_written}
use Rattle.station.proofs.station_write_page.Goals as goal

pub write_page-length-requires : goal.write_page-length-requires
write_page-length-requires c = page_room _ _ _ _ c.in-Ok.ensures.same_bytes _ _ (cc) (cc) c.in-Ok.ensures.framed c.in-Ok.ensures.page_in

pub overflow_cast-result : goal.overflow_cast-result
overflow_cast-result c = page_short _ _ _ c.args.output.now c.in-Ok.ensures.same_bytes _ _ (cc) (cc) _ c.write_page-length.ensures.value c.in-Ok.ensures.framed

pub returns-in-Err-clause-value : goal.returns-in-Err-clause-value
unfolding page_reply page_output
returns-in-Err-clause-value c = number_refused _ _ c.in-Err.ensures.value _ _ c.from.ensures

pub returns-in-Err-clause-output_after : goal.returns-in-Err-clause-output_after
unfolding page_reply page_output
returns-in-Err-clause-output_after c = kept _ _ c.in-Err.ensures.value _ _

pub returns-in-Ok-clause-value : goal.returns-in-Ok-clause-value
returns-in-Ok-clause-value c = page_replied _ _ _ _ c.in-Ok.ensures.same_bytes _ _ (cc) (cc) _ c.write_page-length.ensures.value c.in-Ok.ensures.value

pub returns-in-Ok-clause-output_after : goal.returns-in-Ok-clause-output_after
returns-in-Ok-clause-output_after c = page_written _ _ _ _ c.in-Ok.ensures.same_bytes _ _ (cc) (cc) _ c.in-Ok.ensures.value c.write_page-length.ensures.output_after
