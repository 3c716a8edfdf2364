-- `write_header` meets its contract: it stores the runs of which `page_header` is made one after another. Assumes nothing.
use Rattle.page.proofs.Pages.{header_written}
use Rattle.page.proofs.write_header.Goals as goal

pub returns : goal.returns
returns c =
    let e₁ = c.write_bytes-width.ensures in
    let e₂ = c.write_digits-blank.ensures in
    let e₃ = c.write_bytes-height.ensures in
    let e₄ = c.write_digits-end.ensures in
    let e₅ = c.write_bytes.ensures in
    let s =
    header_written c.args.w c.args.h _ _ _ _ _ _ _ _ _ _ _ (e₁.output_after, e₁.value) (e₂.output_after, e₂.value) (e₃.output_after, e₃.value)
    (e₄.output_after, e₄.value)
    (e₅.output_after, e₅.value) in
    record { output_after = s.0; value = s.1 }
