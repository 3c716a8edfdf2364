-- `write_page` meets its contract: the greys are stored after the header, and the rest of the output is as it was. Assumes nothing.
use Rattle.page.proofs.Pages.{header_fits, greys_fit, page-written}
use Rattle.page.proofs.write_page.Goals as goal

pub write_header-greys-requires : goal.write_header-greys-requires
write_header-greys-requires c = search header_fits

pub write_bytes-requires : goal.write_bytes-requires
write_bytes-requires c = search greys_fit

pub returns : goal.returns
returns c =
    let header = c.write_header-greys.ensures in
    let greys = c.write_bytes.ensures in
    let s = page-written _ _ _ _ _ _ _ _ c.requires (header.output_after, header.value) (greys.output_after, greys.value) in
    record { output_after = s.0; value = s.1 }
