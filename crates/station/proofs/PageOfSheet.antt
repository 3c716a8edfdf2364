-- "our page may depend on the sheet's bytes only": a drawing's page and the page file are functions of the sheet, whatever the frame and the
-- output held before, and so is the frame after any list of edits. About the definitions that the contracts of the exported calls cite.
-- Assumes nothing.
use Prim.Native.Nat.{ℕ, ◌≤◌}
use mathlib.Core.Path.{◌≡◌, refl, sym, ◌∙◌}
use mathlib.Core.List.{List}
use lib.ListN.{length, take, drop}
use lib.Seq.{take-append_seam}
use borrow.Author.Tests.{le-leb, eq-eqb}
use Rattle.sheet.specs.Check.{check}
use Rattle.drawing.specs.Drawing.{pixel_count, page}
use Rattle.drawing.proofs.Repainting.{length-page}
use Rattle.calls.specs.Calls.{number_reply, draw_code, draw_frame, netpbm, page_code, page_reply, page_output}
use Rattle.station.specs.Machine.{plain_machine, EditStep, patched_steps, singly_steps, patched_run, plain_run}
use Rattle.station.proofs.Runs.{draw_zero, draw_page}
use Rattle.station.proofs.Demand3.{demand_3}

-- the page file of a sheet
abbrev pub page_file : List ℕ → List ℕ
page_file b = netpbm b (page b)

-- ---- one sheet, drawn on a frame of its size and written to an output that holds the file

-- what each call gives, by the sheet alone
pub record PageOfBytes (b frame output : List ℕ) : Type 0 where
  pub code : draw_code b frame ≡ 0
  pub drawing : draw_frame b frame ≡ page b
  pub reply : page_reply b (draw_frame b frame) output ≡ record { code = 0; value = length (page_file b) }
  pub file : take (length (page_file b)) (page_output b (draw_frame b frame) output) ≡ page_file b

pub page_of_bytes : (b frame output : List ℕ) → check b ≡ 0 → length frame ≡ pixel_count b → length (page_file b) ≤ length output → PageOfBytes b frame output
unfolding number_reply page_reply page_output
page_of_bytes b frame output c n l = record {
  code = draw_zero b frame c n;
  drawing = drawn;
  reply = rw (drawn, good);
  file = rw (drawn, good) (take-append_seam (page_file b) (drop (length (page_file b)) output));
}
  where
    drawn : draw_frame b frame ≡ page b
    drawn = draw_page b frame c n

    good : page_code b (page b) output ≡ 0
    good = unfold page_code in rw (c, eq-eqb (length (page b)) (pixel_count b) (length-page b), le-leb (length (page_file b)) (length output) l)

-- so any two frames of its size get one page, and any two outputs that hold it one page file
pub record PageOfBytesOnly (b frame frame' output output' : List ℕ) : Type 0 where
  pub same_code : draw_code b frame ≡ draw_code b frame'
  pub same-page : draw_frame b frame ≡ draw_frame b frame'
  pub same_reply : page_reply b (draw_frame b frame) output ≡ page_reply b (draw_frame b frame') output'
  pub same_file : take (page_reply b (draw_frame b frame) output).value (page_output b (draw_frame b frame) output) ≡ take (page_reply b (draw_frame b frame') output').value (page_output b (draw_frame b frame') output')

pub page_of_bytes_only : (b frame frame' output output' : List ℕ) → check b ≡ 0 → length frame ≡ pixel_count b → length frame' ≡ pixel_count b
    → length (page_file b) ≤ length output → length (page_file b) ≤ length output' → PageOfBytesOnly b frame frame' output output'
page_of_bytes_only b frame frame' output output' c n n' l l' =
    let p = page_of_bytes b frame output c n l in
    let q = page_of_bytes b frame' output' c n' l' in
    record {
      same_code = p.code ∙ sym q.code;
      same-page = p.drawing ∙ sym q.drawing;
      same_reply = p.reply ∙ sym q.reply;
      same_file = rw (p.reply, q.reply, p.file, q.file);
    }

-- ---- after a list of steps, each edit repainting its rectangle only, the frame holds the page of the bytes that the sheet then has

pub page_after_steps : (b frame : List ℕ) (is : List EditStep) → check b ≡ 0 → length frame ≡ pixel_count b → (patched_run patched_steps b frame is).frame ≡ page (patched_run patched_steps b frame is).sheet
page_after_steps b frame is c n = rw (demand_3 b frame frame is c n n).patched_as_plain as_plain
  where
    as_plain : (plain_run (singly_steps plain_machine) b is).frame ≡ page (plain_run (singly_steps plain_machine) b is).sheet
    as_plain = unfold plain_run in refl
