-- What one call of demand 3's runs (docs/DEMANDS.md) makes of an accepted sheet: the plain machine's step. And what each step of two machines keeps, their
-- runs over a list keep. Assumes nothing.
use Prim.Native.Nat.{ℕ, zero, suc}
use mathlib.Core.Path.{◌≡◌, refl, sym, ap, ◌∙◌}
use mathlib.Core.Bool.{Bool, true, false, cond}
use mathlib.Core.List.{List, [], ◌∷◌, map}
use lib.ListN.{length}
use borrow.Author.Tests.{eq-eqb}
use Rattle.characters.specs.Refusal.{need, unless_refused}
use Rattle.sheet.specs.Check.{check}
use Rattle.sheet.specs.Edits.{Edit, refusal, edited}
use Rattle.sheet.proofs.Acceptance.{accepted}
use Rattle.sheet.proofs.Stays.{stays}
use Rattle.entries.specs.Entries.{is_filled, edits_of}
use Rattle.drawing.specs.Drawing.{pixel_count, page, repainted}
use Rattle.drawing.proofs.Repainting.{fresh_page, length-page, same-pixel_count, repaint_page}
use Rattle.calls.specs.Calls.{edit_damage, draw_code, draw_frame, edit_code, edit_reply, edit_sheet, edit_frame, Logger, patched_machine, zeros, batch, batch_of, edit_list_code, edit_list_reply, edit_list_sheet, edit_list_frame, on_sheet_code, on_sheet_reply, on_sheet_sheet}
use Rattle.calls.specs.declared.Box.{Box}
use Rattle.calls.specs.Machine.{Machine, Run, run, run_until_refused}
use Rattle.calls.proofs.Machines.{until_end, until_made, until_refused}
use Rattle.calls.proofs.Refusals.{edit_list_code_is}
use Rattle.batch.proofs.Steps.{edit_code_lem}
use Rattle.station.specs.Machine.{plain_step, plain_reply, EditStep, single, list, StepReply, to_single, to_list, patched_steps, counted, singly_steps}

-- ---- a drawing of an accepted sheet on a frame of its size

module _ (b frame : List ℕ) (c : check b ≡ 0) (n : length frame ≡ pixel_count b) where
  pub draw_zero : draw_code b frame ≡ 0
  unfolding draw_code
  draw_zero = rw (c, eq-eqb (length frame) (pixel_count b) n)

  pub draw_page : draw_frame b frame ≡ page b
  unfolding draw_frame
  draw_page = rw draw_zero (fresh_page b frame n)

-- ---- one step of the plain machine

module _ (b : List ℕ) (e : Edit) (c : check b ≡ 0) where
  -- it leaves an accepted sheet of the same size
  pub step_accepted : check (plain_step b e) ≡ 0
  unfolding plain_step
  step_accepted = go (refusal b e) refl
    where
      go : (n : ℕ) → refusal b e ≡ n → check (unless_refused n (edited b e) b) ≡ 0
      go zero a = stays b e c a
      go (suc n) a = c

  pub step-size : pixel_count (plain_step b e) ≡ pixel_count b
  unfolding plain_step
  step-size = go (refusal b e) refl
    where
      go : (n : ℕ) → refusal b e ≡ n → pixel_count (unless_refused n (edited b e) b) ≡ pixel_count b
      go zero a = same-pixel_count b e (accepted b c) a
      go (suc n) a = refl

  -- an edit on the sheet alone is that step
  pub on_sheet_code_lem : on_sheet_code b e ≡ refusal b e
  unfolding on_sheet_code
  on_sheet_code_lem = rw c

  pub on_sheet_sheet_lem : on_sheet_sheet b e ≡ plain_step b e
  unfolding on_sheet_sheet plain_step
  on_sheet_sheet_lem = rw on_sheet_code_lem

  pub on_sheet_reply_lem : on_sheet_reply b e ≡ plain_reply b e
  unfolding on_sheet_reply plain_reply
  on_sheet_reply_lem = rw on_sheet_code_lem

  -- so is an edit with a frame of the sheet's size
  module _ (frame : List ℕ) (n : length frame ≡ pixel_count b) where
    code-as : edit_code b frame e ≡ refusal b e
    code-as = edit_code_lem b frame e (record { accepted = c; sized = n })

    pub sheet_as : edit_sheet b frame e ≡ plain_step b e
    unfolding edit_sheet plain_step
    sheet_as = rw code-as

    pub reply_as : edit_reply b frame e ≡ plain_reply b e
    unfolding edit_reply plain_reply
    reply_as = rw code-as

  -- and it turns the page into the page of the sheet that it leaves
  pub edit_page : edit_frame b (page b) e ≡ page (plain_step b e)
  unfolding edit_frame plain_step
  edit_page = rw (code-as (page b) (length-page b)) (go (refusal b e) refl)
    where
      go : (n : ℕ) → refusal b e ≡ n → unless_refused n (repainted (edited b e) (edit_damage b e) (page b)) (page b) ≡ page (unless_refused n (edited b e) b)
      go zero a = repaint_page b e (accepted b c) a
      go (suc n) a = refl

-- ---- two machines side by side

-- from states that stand in a relation, like inputs lead to such states again, with the same reply
pub record Simulates {S S' Input Reply : Type 0} (related : S → S' → Type 0) (m : Machine S Input Reply) (m' : Machine S' Input Reply) : Type 0 where
  pub next : (s : S) (s' : S') (i : Input) → related s s' → related (m.next s i) (m'.next s' i)
  pub reply : (s : S) (s' : S') (i : Input) → related s s' → m.reply s i ≡ m'.reply s' i

-- two runs that end in such states, after the same replies
pub record Alike {S S' Reply : Type 0} (related : S → S' → Type 0) (r : Run S Reply) (r' : Run S' Reply) : Type 0 where
  pub state : related r.state r'.state
  pub replies : r.replies ≡ r'.replies

pub runs_alike : {S S' Input Reply : Type 0} (related : S → S' → Type 0) (m : Machine S Input Reply) (m' : Machine S' Input Reply) → Simulates related m m'
    → (is : List Input) (s : S) (s' : S') → related s s' → Alike related (run m s is) (run m' s' is)
unfolding run
runs_alike related m m' sim [] s s' h = record { state = h; replies = refl }
runs_alike related m m' sim (i ∷ is) s s' h =
    let a = runs_alike related m m' sim is (m.next s i) (m'.next s' i) (sim.next s s' i h) in
    record { state = a.state; replies = rw (sim.reply s s' i h, a.replies) }

-- ---- a list of edits as one step

module _ {S S' : Type 0} (related : S → S' → Type 0) (m : Machine S Edit Box) (m' : Machine S' Edit Box) (sim : Simulates related m m') where
  pub until_alike : (es : List Edit) (s : S) (s' : S') → related s s' → Alike related (run_until_refused m s es) (run_until_refused m' s' es)
  until_alike [] s s' h = rw (until_end m s, until_end m' s') (record { state = h; replies = refl })
  until_alike (e ∷ es) s s' h = go (m.reply s e).code refl (until_alike es (m.next s e) (m'.next s' e) (sim.next s s' e h))
    where
      same : m.reply s e ≡ m'.reply s' e
      same = sim.reply s s' e h

      go : (n : ℕ) → (m.reply s e).code ≡ n → Alike related (run_until_refused m (m.next s e) es) (run_until_refused m' (m'.next s' e) es)
          → Alike related (run_until_refused m s (e ∷ es)) (run_until_refused m' s' (e ∷ es))
      go zero z a = rw (until_made m s e es z, until_made m' s' e es (ap (λ (r : Box). r.code) (sym same) ∙ z)) (record { state = a.state; replies = rw (same, a.replies) })
      go (suc n) z a = rw (until_refused m s e es n z, until_refused m' s' e es n (ap (λ (r : Box). r.code) (sym same) ∙ z)) (record { state = sim.next s s' e h; replies = rw same })

  counted-alike : (l : List ℕ) (s : S) (s' : S') → related s s' → Alike related (counted m s l) (counted m' s' l)
  counted-alike l s s' h = go (is_filled l)
    where
      go : (t : Bool) → Alike related (cond t (run_until_refused m s (edits_of l)) (record { state = s; replies = [] })) (cond t (run_until_refused m' s' (edits_of l)) (record { state = s'; replies = [] }))
      go true = until_alike (edits_of l) s s' h
      go false = record { state = h; replies = refl }

  -- machines alike over edits are alike over steps
  pub steps_alike : Simulates related (singly_steps m) (singly_steps m')
  steps_alike = record { next = next; reply = reply }
    where
      next : (s : S) (s' : S') (i : EditStep) → related s s' → related ((singly_steps m).next s i) ((singly_steps m').next s' i)
      next s s' (single e) h = sim.next s s' e h
      next s s' (list l) h = (counted-alike l s s' h).state

      reply : (s : S) (s' : S') (i : EditStep) → related s s' → (singly_steps m).reply s i ≡ (singly_steps m').reply s' i
      reply s s' (single e) h = ap to_single (sim.reply s s' e h)
      reply s s' (list l) h = ap (λ (rs : List Box). to_list (cond (is_filled l) (batch_of rs) (batch 22 0 zeros))) (counted-alike l s s' h).replies

-- with a frame, the call is these single calls
module _ (b frame : List ℕ) (c : check b ≡ 0) (n : length frame ≡ pixel_count b) where
  abbrev here : Logger
  here = record { sheet = b; frame = frame }

  list_code : (l : List ℕ) → edit_list_code b frame l ≡ cond (is_filled l) 0 22
  list_code l = edit_list_code_is b frame l ∙ rw (draw_zero b frame c n) (go (is_filled l))
    where
      go : (t : Bool) → need t 22 0 ≡ cond t 0 22
      go true = refl
      go false = refl

  pub list_next : (l : List ℕ) → patched_steps.next here (list l) ≡ (singly_steps patched_machine).next here (list l)
  unfolding edit_list_sheet edit_list_frame
  list_next l = rw (list_code l) (go (is_filled l))
    where
      r : Run Logger Box
      r = run_until_refused patched_machine here (edits_of l)

      go : (t : Bool) → ◌≡◌ {A = Logger} (record { sheet = unless_refused (cond t 0 22) r.state.sheet b; frame = unless_refused (cond t 0 22) r.state.frame frame }) (cond t r (record { state = here; replies = [] })).state
      go true = refl
      go false = refl

  pub list_reply : (l : List ℕ) → patched_steps.reply here (list l) ≡ (singly_steps patched_machine).reply here (list l)
  unfolding edit_list_reply
  list_reply l = rw (list_code l) (go (is_filled l))
    where
      r : Run Logger Box
      r = run_until_refused patched_machine here (edits_of l)

      go : (t : Bool) → to_list (unless_refused (cond t 0 22) (batch_of r.replies) (batch (cond t 0 22) 0 zeros)) ≡ to_list (cond t (batch_of (cond t r (record { state = here; replies = [] })).replies) (batch 22 0 zeros))
      go true = refl
      go false = refl

-- ---- steps that are single edits

-- a run over them, its replies as replies to steps
pub singles : {S : Type 0} (m : Machine S Edit Box) (n : Machine S EditStep StepReply) → ((s : S) (e : Edit) → n.next s (single e) ≡ m.next s e) → ((s : S) (e : Edit) → n.reply s (single e) ≡ to_single (m.reply s e))
    → (es : List Edit) (s : S) → run n s (map single es) ≡ record { state = (run m s es).state; replies = map to_single (run m s es).replies }
unfolding run
singles m n next reply [] s = refl
singles m n next reply (e ∷ es) s = rw (next s e, reply s e, singles m n next reply es (m.next s e))
