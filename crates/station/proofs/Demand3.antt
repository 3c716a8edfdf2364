-- Demand 3 (docs/DEMANDS.md), whole: over every list of steps, single edits or lists of them, the patched run and the fresh run end alike, as the plain
-- machine has it; and one accepted edit paints its rectangle only. Both are about the definitions that the contracts of the exported calls cite (`Calls`).
-- Assumes nothing.
use Prim.Native.Nat.{ℕ, ◌<◌}
use native.Mathlib.Omega.{arith}
use mathlib.Core.Path.{◌≡◌, refl, sym, ap, ◌∙◌}
use mathlib.Core.Bool.{true, false}
use lib.Dec.{eqb}
use mathlib.Core.List.{List, [], ◌∷◌, map}
use lib.ListN.{length, get_or}
use borrow.Author.Tests.{eqb-true}
use Rattle.geometry.specs.Rectangle.{covers}
use Rattle.geometry.proofs.Layers.{length-paint}
use Rattle.sheet.specs.Fields.{frame_width}
use Rattle.sheet.specs.Check.{check}
use Rattle.sheet.specs.Edits.{Edit, refusal, edited}
use Rattle.characters.proofs.Refusals.{need_zero, or_else_zero}
use Rattle.sheet.proofs.Acceptance.{accepted}
use Rattle.sheet.proofs.Unchanged.{same-frame_width}
use Rattle.drawing.specs.Drawing.{pixel_count, column_of, row_of, page, repainted}
use Rattle.drawing.proofs.Repainting.{length-page, same-pixel_count, repainted_inside, repainted_outside}
use Rattle.calls.specs.Calls.{box_reply, fits, edit_damage, edit_code, edit_reply, edit_sheet, edit_frame, draw_code, draw_frame, Logger, patched_machine}
use Rattle.calls.specs.declared.Box.{Box}
use Rattle.calls.specs.Machine.{Machine, Run, run}
use Rattle.station.specs.Machine.{fresh_machine, plain_machine, plain_step, plain_reply, EditStep, single, list, StepReply, to_single, to_list, patched_steps, singly_steps, Outcome, patched_run, fresh_run, plain_run}
use Rattle.station.proofs.Runs.{draw_zero, draw_page, step_accepted, step-size, on_sheet_sheet_lem, on_sheet_reply_lem, sheet_as, reply_as, edit_page, Simulates, Alike, runs_alike, steps_alike, list_next, list_reply, singles}

-- ---- the runs, step by step

-- a run's state is what `image` makes of the plain machine's, which is an accepted sheet with n pixels
pub record Follows {S : Type 0} (image : List ℕ → S) (n : ℕ) (s : S) (b : List ℕ) : Type 0 where
  pub same : s ≡ image b
  pub accepted : check b ≡ 0
  pub size : pixel_count b ≡ n

-- so it stays over an edit, if that is a step of the plain machine
pub edits_follow : {S : Type 0} (m : Machine S Edit Box) (image : List ℕ → S) (n : ℕ)
    → ((b : List ℕ) (e : Edit) → check b ≡ 0 → m.next (image b) e ≡ image (plain_step b e))
    → ((b : List ℕ) (e : Edit) → check b ≡ 0 → m.reply (image b) e ≡ plain_reply b e)
    → Simulates (Follows image n) m plain_machine
edits_follow m image n next reply = record {
  next = λ s b e f. record { same = rw f.same (next b e f.accepted); accepted = step_accepted b e f.accepted; size = step-size b e f.accepted ∙ f.size };
  reply = λ s b e f. rw f.same (reply b e f.accepted);
}

-- the patched run's frame holds the page of its sheet
abbrev pub drawn : List ℕ → Logger
drawn b = record { sheet = b; frame = page b }

pub edit_drawn : (b : List ℕ) (e : Edit) → check b ≡ 0 → patched_machine.next (drawn b) e ≡ drawn (plain_step b e)
edit_drawn b e c = rw (sheet_as b e c (page b) (length-page b), edit_page b e c)

-- and a list of edits is what the single calls make of it
patched_follow : (n : ℕ) → Simulates (Follows drawn n) patched_steps (singly_steps plain_machine)
patched_follow n = record { next = next; reply = reply }
  where
    singly : Simulates (Follows drawn n) (singly_steps patched_machine) (singly_steps plain_machine)
    singly = steps_alike _ patched_machine plain_machine (edits_follow patched_machine drawn n edit_drawn (λ b e c. reply_as b e c (page b) (length-page b)))

    next : (s : Logger) (b : List ℕ) (i : EditStep) → Follows drawn n s b → Follows drawn n (patched_steps.next s i) ((singly_steps plain_machine).next b i)
    next s b (single e) f = singly.next s b (single e) f
    next s b (list l) f = rw (f.same, list_next b (page b) f.accepted (length-page b) l) (singly.next (drawn b) b (list l) (record { same = refl; accepted = f.accepted; size = f.size }))

    reply : (s : Logger) (b : List ℕ) (i : EditStep) → Follows drawn n s b → patched_steps.reply s i ≡ (singly_steps plain_machine).reply b i
    reply s b (single e) f = singly.reply s b (single e) f
    reply s b (list l) f = rw (f.same, list_reply b (page b) f.accepted (length-page b) l) (singly.reply (drawn b) b (list l) (record { same = refl; accepted = f.accepted; size = f.size }))

fresh_follow : (n : ℕ) → Simulates (Follows (λ b. b) n) (singly_steps fresh_machine) (singly_steps plain_machine)
fresh_follow n = steps_alike _ fresh_machine plain_machine (edits_follow fresh_machine (λ b. b) n on_sheet_sheet_lem on_sheet_reply_lem)

-- ---- the theorems

-- "Two runs start from one accepted sheet, each on its own copy and its own frame of the sheet's size, holding any greys. The patched
-- run draws, then makes a list of the three edits ... The fresh run makes that list on the sheet alone and draws at the end. ... For
-- every list of these edits, refused ones included, after it the two share the same sheet bytes, the same grey in every pixel and the
-- same reply to each edit, all as document 01's plain machine has them."
--   one accepted sheet: b with check b ≡ 0; its own frame of the sheet's size, holding any greys: frame and frame'
--   every list, refused ones included: is, with no condition
--   the same sheet bytes, grey in every pixel and replies: equal Outcomes, sheet, frame and replies (and both drawings reply 0)
--   as the plain machine has them: both equal plain_run, which sees the edits only
pub record Demand3 {Input Reply : Type 0} (patched : Machine Logger Input Reply) (fresh plain : Machine (List ℕ) Input Reply) (b frame frame' : List ℕ) (is : List Input) : Type 0 where
  pub patched_as_plain : patched_run patched b frame is ≡ plain_run plain b is
  pub fresh_as_plain : fresh_run fresh b frame' is ≡ plain_run plain b is
  pub patched_as_fresh : patched_run patched b frame is ≡ fresh_run fresh b frame' is

-- "Demand 3's first run may use either": each step is a single edit or a list of them, whose entries the fresh run and the plain machine make singly
pub demand_3 : (b frame frame' : List ℕ) (is : List EditStep) → check b ≡ 0 → length frame ≡ pixel_count b → length frame' ≡ pixel_count b
    → Demand3 patched_steps (singly_steps fresh_machine) (singly_steps plain_machine) b frame frame' is
unfolding patched_run fresh_run plain_run
demand_3 b frame frame' is c n n' = record { patched_as_plain = patched; fresh_as_plain = fresh; patched_as_fresh = patched ∙ sym fresh }
  where
    patched-run : Alike (Follows drawn (pixel_count b)) (run patched_steps (drawn b) is) (run (singly_steps plain_machine) b is)
    patched-run = runs_alike _ patched_steps (singly_steps plain_machine) (patched_follow (pixel_count b)) is (drawn b) b (record { same = refl; accepted = c; size = refl })

    patched : patched_run patched_steps b frame is ≡ plain_run (singly_steps plain_machine) b is
    patched = rw (draw_page b frame c n, draw_zero b frame c n, patched-run.state.same, patched-run.replies)

    fresh-run : Alike (Follows (λ b. b) (pixel_count b)) (run (singly_steps fresh_machine) b is) (run (singly_steps plain_machine) b is)
    fresh-run = runs_alike _ (singly_steps fresh_machine) (singly_steps plain_machine) (fresh_follow (pixel_count b)) is b b (record { same = refl; accepted = c; size = refl })

    last : List ℕ
    last = (run (singly_steps plain_machine) b is).state

    sized : length frame' ≡ pixel_count last
    sized = n' ∙ sym fresh-run.state.size

    fresh : fresh_run (singly_steps fresh_machine) b frame' is ≡ plain_run (singly_steps plain_machine) b is
    fresh = rw (fresh-run.state.same, draw_page last frame' fresh-run.state.accepted sized, draw_zero last frame' fresh-run.state.accepted sized, fresh-run.replies)

-- ---- the same over single edits alone

-- the replies to single edits
boxes : List StepReply → List Box
boxes [] = []
boxes (to_single r ∷ rs) = r ∷ boxes rs
boxes (to_list r ∷ rs) = boxes rs

boxes_singles : (rs : List Box) → boxes (map to_single rs) ≡ rs
unfolding boxes
boxes_singles [] = refl
boxes_singles (r ∷ rs) = rw (boxes_singles rs)

abbrev single_outcome : Outcome StepReply → Outcome Box
single_outcome o = record { sheet = o.sheet; frame = o.frame; drawn = o.drawn; replies = boxes o.replies }

module _ (b frame : List ℕ) (es : List Edit) where
  patched-singles : single_outcome (patched_run patched_steps b frame (map single es)) ≡ patched_run patched_machine b frame es
  unfolding patched_run
  patched-singles =
      let start : Logger = record { sheet = b; frame = draw_frame b frame } in
      ap (λ (r : Run Logger StepReply). record { sheet = r.state.sheet; frame = r.state.frame; drawn = draw_code b frame; replies = boxes r.replies }) (singles patched_machine patched_steps (λ s e. refl) (λ s e. refl) es start)
      ∙ rw (boxes_singles (run patched_machine start es).replies)

  fresh-singles : single_outcome (fresh_run (singly_steps fresh_machine) b frame (map single es)) ≡ fresh_run fresh_machine b frame es
  unfolding fresh_run
  fresh-singles = rw (singles fresh_machine (singly_steps fresh_machine) (λ s e. refl) (λ s e. refl) es b, boxes_singles)

  plain-singles : single_outcome (plain_run (singly_steps plain_machine) b (map single es)) ≡ plain_run plain_machine b es
  unfolding plain_run
  plain-singles = rw (singles plain_machine (singly_steps plain_machine) (λ s e. refl) (λ s e. refl) es b, boxes_singles)

pub demand_3_edits : (b frame frame' : List ℕ) (es : List Edit) → check b ≡ 0 → length frame ≡ pixel_count b → length frame' ≡ pixel_count b → Demand3 patched_machine fresh_machine plain_machine b frame frame' es
demand_3_edits b frame frame' es c n n' =
    let d = demand_3 b frame frame' (map single es) c n n' in
    record {
      patched_as_plain = sym (patched-singles b frame es) ∙ ap single_outcome d.patched_as_plain ∙ plain-singles b frame es;
      fresh_as_plain = sym (fresh-singles b frame' es) ∙ ap single_outcome d.fresh_as_plain ∙ plain-singles b frame es;
      patched_as_fresh = sym (patched-singles b frame es) ∙ ap single_outcome d.patched_as_fresh ∙ fresh-singles b frame' es;
    }

-- "And for every single accepted edit, over a frame of the sheet's size holding any greys: inside document 01's rectangle stands the
-- fresh drawing of the edited sheet, outside it each pixel keeps its grey."
--   a single accepted edit: e with edit_code b frame e ≡ 0, where nothing else is asked of b; a frame holding any greys: frame
--   the rectangle of docs/SHEET.md: edit_damage b e, the one that the reply gives
--   the fresh drawing of the edited sheet: page (edited b e), and the edited sheet is what the call leaves
pub record OneEdit (b frame : List ℕ) (e : Edit) : Type 0 where
  pub replied : edit_reply b frame e ≡ box_reply 0 (edit_damage b e)
  pub sheet : edit_sheet b frame e ≡ edited b e
  pub same_size : length (edit_frame b frame e) ≡ length frame
  pub inside : (k : ℕ) → k < length frame → covers (edit_damage b e) (column_of b k) (row_of b k) ≡ true → get_or (edit_frame b frame e) k 0 ≡ get_or (page (edited b e)) k 0
  pub outside : (k : ℕ) → k < length frame → covers (edit_damage b e) (column_of b k) (row_of b k) ≡ false → get_or (edit_frame b frame e) k 0 ≡ get_or frame k 0

pub one_edit : (b frame : List ℕ) (e : Edit) → edit_code b frame e ≡ 0 → OneEdit b frame e
unfolding edit_reply edit_sheet edit_frame edit_code repainted
one_edit b frame e z = record {
  replied = rw z;
  sheet = rw z;
  same_size = rw z (length-paint (frame_width (edited b e)) _ frame);
  inside = λ k l q. rw z (repainted_inside (edited b e) k (edit_damage b e) frame sized (placed k l) (rw wide q));
  outside = λ k l q. rw z (repainted_outside (edited b e) k (edit_damage b e) frame sized (placed k l) (rw wide q));
}
  where
    checked : (check b ≡ 0) × (fits b frame (refusal b e) ≡ 0)
    checked = or_else_zero (check b) _ z

    allowed : (eqb (length frame) (pixel_count b) ≡ true) × (refusal b e ≡ 0)
    allowed = need_zero (eqb (length frame) (pixel_count b)) 10 (refusal b e) checked.1

    wide : frame_width (edited b e) ≡ frame_width b
    wide = same-frame_width b e (accepted b checked.0) allowed.1

    sized : length frame ≡ pixel_count (edited b e)
    sized = eqb-true (length frame) (pixel_count b) allowed.0 ∙ sym (same-pixel_count b e (accepted b checked.0) allowed.1)

    placed : (k : ℕ) → k < length frame → k < pixel_count (edited b e)
    placed k l = omega (arith, sized)
