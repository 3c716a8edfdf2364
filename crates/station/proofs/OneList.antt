-- One list of edits, over a frame of the sheet's size that holds any greys: inside the rectangles of its edits stands the fresh drawing of the sheet that it
-- leaves, outside them each pixel keeps its grey, also inside the joined one; and that is the smallest that holds them. Assumes nothing.
use Prim.Native.Nat.{ℕ, zero, suc, ◌+◌, ◌-◌, ◌/◌, ◌%◌, ◌≤◌, ◌<◌}
use native.Mathlib.Omega.{arith}
use mathlib.Core.Path.{◌≡◌, refl, sym, ap, ◌∙◌}
use mathlib.Core.Bool.{Bool, true, false, ◌||◌, true≢false}
use mathlib.Mathlib.Data.Bool.Basic.{or-eq-false-eq-eq-false-and-eq-false}
use mathlib.Core.List.{List, [], ◌∷◌}
use lib.IntN.{pos}
use lib.ListN.{length, get_or}
use Rattle.geometry.specs.declared.Rectangle.{Rectangle}
use Rattle.geometry.specs.Rectangle.{rectangle, covers, join}
use Rattle.geometry.specs.Layer.{origin}
use Rattle.geometry.proofs.Rectangles.{In, covers_in, in_covers, out_covers, Within, join_left, join-right, join-within}
use Rattle.text.specs.Signed
use Rattle.text.specs.Signed.{SignedRectangle, signed_rectangle}
use Rattle.text.proofs.Signed.{signed-covers, signed-origin, signed-join}
use Rattle.sheet.specs.Fields.{frame_width}
use Rattle.sheet.specs.Check.{check}
use Rattle.sheet.specs.Edits.{Edit, item_number, refusal, edited}
use Rattle.sheet.proofs.Acceptance.{accepted}
use Rattle.sheet.proofs.Unchanged.{same-frame_width}
use Rattle.entries.specs.Entries.{edits_of}
use Rattle.drawing.specs.Drawing.{pixel_count, column_of, row_of, page}
use Rattle.drawing.proofs.Repainting.{length-page}
use Rattle.drawing.proofs.Painting.{damage_canvas}
use Rattle.calls.specs.declared.Box.{Box}
use Rattle.calls.specs.declared.Batch.{Batch}
use Rattle.calls.specs.Machine.{Run, run_until_refused}
use Rattle.calls.proofs.Machines.{until_end, until_made, until_refused}
use Rattle.calls.specs.Calls.{box_reply, edit_damage, edit_reply, edit_sheet, edit_frame, Logger, patched_machine, singly, zeros, box_area, batch_from, batch_of, edit_list_code, edit_list_reply, edit_list_sheet, edit_list_frame}
use Rattle.changes.specs.Change.{Checked}
use Rattle.batch.proofs.Steps.{edit_code_lem, edit_reply_lem, reply_code, reply_area, checked_call}
use Rattle.batch.proofs.Lists.{batch_made, batch_refused}
use Rattle.station.specs.Machine.{plain_machine, plain_step, plain_reply}
use Rattle.station.proofs.Runs.{sheet_as, reply_as, Simulates, Alike, until_alike}
use Rattle.station.proofs.Demand3.{Follows, edits_follow, drawn, edit_drawn, OneEdit, one_edit}
use Rattle.station.proofs.EditCalls.{list_checked}

-- whether a rectangle of these replies covers a column and a row of the frame
unfoldable pub covered_by : List Box → ℕ → ℕ → Bool
covered_by [] c r = false
covered_by (x ∷ xs) c r = Signed.covers (box_area x) (pos c) (pos r) || covered_by xs c r

-- ---- an edit, then the others

-- the run over edits from a sheet and a frame
abbrev from : List ℕ → List ℕ → List Edit → Run Logger Box
from b frame es = run_until_refused patched_machine (record { sheet = b; frame = frame }) es

module _ (b frame : List ℕ) (e : Edit) (g : Checked b frame) where
  module _ (z : refusal b e ≡ 0) where
    one : OneEdit b frame e
    one = one_edit b frame e (edit_code_lem b frame e g ∙ z)

    same_width : frame_width (edit_sheet b frame e) ≡ frame_width b
    same_width = ap frame_width one.sheet ∙ same-frame_width b e (accepted b g.accepted) z

    -- a pixel by its column and row
    covered-as : (k : ℕ) → Signed.covers (box_area (edit_reply b frame e)) (pos (k % frame_width b)) (pos (k / frame_width b)) ≡ covers (edit_damage b e) (column_of b k) (row_of b k)
    covered-as k = rw (reply_area b frame e g z, ← signed-origin (k % frame_width b), ← signed-origin (k / frame_width b)) (signed-covers (edit_damage b e) (column_of b k) (row_of b k))

  -- one that is refused leaves the frame
  refused-frame : (n : ℕ) → refusal b e ≡ suc n → edit_frame b frame e ≡ frame
  unfolding edit_frame
  refused-frame n z = rw (edit_code_lem b frame e g ∙ z)

-- by the first, or by the others
neither : (s t : Bool) → (s || t) ≡ false → (s ≡ false) × (t ≡ false)
neither s t h = (or-eq-false-eq-eq-false-and-eq-false s t).0 h

or_right : (s t : Bool) → t ≡ true → (s || t) ≡ true
or_right true t h = refl
or_right false t h = h

or_false_right : (s : Bool) → (s || false) ≡ s
or_false_right true = refl
or_false_right false = refl

-- ---- outside

outside : (es : List Edit) (b frame : List ℕ) → Checked b frame → (k : ℕ) → k < length frame
    → covered_by (from b frame es).replies (k % frame_width b) (k / frame_width b) ≡ false → get_or (from b frame es).state.frame k 0 ≡ get_or frame k 0
unfolding covered_by
outside [] b frame g k l q = ap (λ (r : Run Logger Box). get_or r.state.frame k 0) (until_end patched_machine _)
outside (e ∷ es) b frame g k l q = go (refusal b e) refl (outside es (edit_sheet b frame e) (edit_frame b frame e) (checked_call b frame e g) k)
  where
    c : ℕ
    c = k % frame_width b

    r : ℕ
    r = k / frame_width b

    go : (n : ℕ) → refusal b e ≡ n
        → (k < length (edit_frame b frame e) → covered_by (from (edit_sheet b frame e) (edit_frame b frame e) es).replies (k % frame_width (edit_sheet b frame e)) (k / frame_width (edit_sheet b frame e)) ≡ false
        → get_or (from (edit_sheet b frame e) (edit_frame b frame e) es).state.frame k 0 ≡ get_or (edit_frame b frame e) k 0)
        → get_or (from b frame (e ∷ es)).state.frame k 0 ≡ get_or frame k 0
    go zero z ih =
        let more = until_made patched_machine _ e es (reply_code b frame e g ∙ z) in
        let o = one b frame e g z in
        let apart = neither (Signed.covers (box_area (edit_reply b frame e)) (pos c) (pos r)) (covered_by (from (edit_sheet b frame e) (edit_frame b frame e) es).replies c r) (ap (λ (x : Run Logger Box). covered_by x.replies c r) (sym more) ∙ q) in
        ap (λ (x : Run Logger Box). get_or x.state.frame k 0) more
        ∙ ih (rw o.same_size l) (rw (same_width b frame e g z) apart.1)
        ∙ o.outside k l (sym (covered-as b frame e g z k) ∙ apart.0)
    go (suc n) z ih = ap (λ (x : Run Logger Box). get_or x.state.frame k 0) (until_refused patched_machine _ e es n (reply_code b frame e g ∙ z)) ∙ ap (λ (f : List ℕ). get_or f k 0) (refused-frame b frame e g n z)

-- ---- the sheet and the replies do not depend on the frame's greys

-- the sheet is the plain machine's, and the frame has its size
record OnSheet (s : Logger) (b : List ℕ) : Type 0 where
  same : s.sheet ≡ b
  accepted : check b ≡ 0
  sized : length s.frame ≡ pixel_count b

on_sheet : Simulates OnSheet patched_machine plain_machine
on_sheet = record { next = next; reply = reply }
  where
    checked : (s : Logger) (b : List ℕ) → OnSheet s b → Checked b s.frame
    checked s b f = record { accepted = f.accepted; sized = f.sized }

    next : (s : Logger) (b : List ℕ) (e : Edit) → OnSheet s b → OnSheet (patched_machine.next s e) (plain_step b e)
    next s b e f =
        let after = checked_call b s.frame e (checked s b f) in
        let same = sheet_as b e f.accepted s.frame f.sized in
        rw f.same (record { same = same; accepted = rw same at after.accepted; sized = rw same at after.sized })

    reply : (s : Logger) (b : List ℕ) (e : Edit) → OnSheet s b → patched_machine.reply s e ≡ plain_reply b e
    reply s b e f = rw f.same (reply_as b e f.accepted s.frame f.sized)

module _ (b frame : List ℕ) (g : Checked b frame) (es : List Edit) where
  as_plain : Alike OnSheet (from b frame es) (run_until_refused plain_machine b es)
  as_plain = until_alike OnSheet patched_machine plain_machine on_sheet es _ b (record { same = refl; accepted = g.accepted; sized = g.sized })

  -- from the page itself the run leads to the page
  as-page : Alike (Follows drawn (pixel_count b)) (from b (page b) es) (run_until_refused plain_machine b es)
  as-page = until_alike _ patched_machine plain_machine (edits_follow patched_machine drawn (pixel_count b) edit_drawn (λ b e c. reply_as b e c (page b) (length-page b))) es _ b (record { same = refl; accepted = g.accepted; size = refl })

  -- so a pixel that no rectangle covers is the same on both pages
  page_outside : (k : ℕ) → k < length frame → covered_by (from b frame es).replies (k % frame_width b) (k / frame_width b) ≡ false → get_or (page (from b frame es).state.sheet) k 0 ≡ get_or (page b) k 0
  page_outside k l q =
      ap (λ (s : List ℕ). get_or (page s) k 0) as_plain.state.same ∙ ap (λ (s : Logger). get_or s.frame k 0) (sym as-page.state.same)
      ∙ outside es b (page b) (record { accepted = g.accepted; sized = length-page b }) k (omega (arith, length-page b, g.sized)) (ap (λ (rs : List Box). covered_by rs (k % frame_width b) (k / frame_width b)) (as-page.replies ∙ sym as_plain.replies) ∙ q)

-- ---- inside

-- a refused edit's rectangle covers nothing
none_covered : (c r : ℕ) → Signed.covers zeros (pos c) (pos r) ≡ false
none_covered c r =
    rw (← signed-origin c, ← signed-origin r, ← signed-origin 0) (signed-covers (rectangle origin origin 0 0) (origin + c) (origin + r) ∙ out_covers (rectangle origin origin 0 0) (origin + c) (origin + r) (λ i. omega arith))

refused_area : (b frame : List ℕ) (e : Edit) → Checked b frame → (n : ℕ) → refusal b e ≡ suc n → box_area (edit_reply b frame e) ≡ zeros
unfolding box_reply
refused_area b frame e g n z = rw (edit_reply_lem b frame e g, z)

module _ (b frame : List ℕ) (e : Edit) (es : List Edit) (g : Checked b frame) (k : ℕ) (l : k < length frame) where
  abbrev column : ℕ
  column = k % frame_width b

  abbrev row : ℕ
  row = k / frame_width b

  abbrev rest : Run Logger Box
  rest = from (edit_sheet b frame e) (edit_frame b frame e) es

  abbrev Inside : Run Logger Box → Type 0
  Inside x = get_or x.state.frame k 0 ≡ get_or (page x.state.sheet) k 0

  inside-made : refusal b e ≡ 0 → (k < length (edit_frame b frame e) → covered_by rest.replies (k % frame_width (edit_sheet b frame e)) (k / frame_width (edit_sheet b frame e)) ≡ true → Inside rest)
      → (t : Bool) → covered_by rest.replies column row ≡ t → (Signed.covers (box_area (edit_reply b frame e)) (pos column) (pos row) || t) ≡ true → Inside rest
  inside-made z ih true p q = ih (rw (one b frame e g z).same_size l) (rw (same_width b frame e g z) p)
  inside-made z ih false p q =
      let o = one b frame e g z in
      let checked = checked_call b frame e g in
      let short : k < length (edit_frame b frame e) = rw o.same_size l in
      let apart : covered_by rest.replies (k % frame_width (edit_sheet b frame e)) (k / frame_width (edit_sheet b frame e)) ≡ false = rw (same_width b frame e g z) p in
      outside es (edit_sheet b frame e) (edit_frame b frame e) checked k short apart
      ∙ o.inside k l (sym (covered-as b frame e g z k) ∙ sym (or_false_right _) ∙ q)
      ∙ ap (λ (s : List ℕ). get_or (page s) k 0) (sym o.sheet)
      ∙ sym (page_outside (edit_sheet b frame e) (edit_frame b frame e) checked es k short apart)

inside : (es : List Edit) (b frame : List ℕ) → Checked b frame → (k : ℕ) → k < length frame
    → covered_by (from b frame es).replies (k % frame_width b) (k / frame_width b) ≡ true → get_or (from b frame es).state.frame k 0 ≡ get_or (page (from b frame es).state.sheet) k 0
unfolding covered_by
inside [] b frame g k l q = absurd (true≢false (sym q ∙ ap (λ (r : Run Logger Box). covered_by r.replies (k % frame_width b) (k / frame_width b)) (until_end patched_machine _)))
inside (e ∷ es) b frame g k l q = go (refusal b e) refl (inside es (edit_sheet b frame e) (edit_frame b frame e) (checked_call b frame e g) k)
  where
    covered : (x : Run Logger Box) → from b frame (e ∷ es) ≡ x → covered_by x.replies (k % frame_width b) (k / frame_width b) ≡ true
    covered x p = ap (λ (y : Run Logger Box). covered_by y.replies (k % frame_width b) (k / frame_width b)) (sym p) ∙ q

    go : (n : ℕ) → refusal b e ≡ n
        → (k < length (edit_frame b frame e) → covered_by (rest b frame e es g k l).replies (k % frame_width (edit_sheet b frame e)) (k / frame_width (edit_sheet b frame e)) ≡ true → Inside b frame e es g k l (rest b frame e es g k l))
        → Inside b frame e es g k l (from b frame (e ∷ es))
    go zero z ih = let more = until_made patched_machine _ e es (reply_code b frame e g ∙ z) in rw more (inside-made b frame e es g k l z ih _ refl (covered _ more))
    go (suc n) z ih =
        let stopped = until_refused patched_machine _ e es n (reply_code b frame e g ∙ z) in
        absurd (true≢false (sym (covered _ stopped) ∙ rw (refused_area b frame e g n z, none_covered (k % frame_width b) (k / frame_width b))))

-- ---- the joined rectangle

abbrev pub batch_area : Batch → SignedRectangle
batch_area r = Signed.rectangle r.left r.top r.width r.height

-- j joins a and the rectangles of replies: it holds them, and what holds them holds it
record Joined (a : Rectangle) (rs : List Box) (j : SignedRectangle) : Type 0 where
  counted : Rectangle
  same : j ≡ signed_rectangle counted
  first : Within a counted
  holds : (c r : ℕ) → covered_by rs c r ≡ true → In counted (origin + c) (origin + r)
  smallest : (z : Rectangle) → Within a z → ((c r : ℕ) → covered_by rs c r ≡ true → In z (origin + c) (origin + r)) → Within counted z

module _ (b frame : List ℕ) (e : Edit) (g : Checked b frame) (z : refusal b e ≡ 0) where
  -- a place of the frame, by its column and row
  area-covers : (c r : ℕ) → Signed.covers (box_area (edit_reply b frame e)) (pos c) (pos r) ≡ covers (edit_damage b e) (origin + c) (origin + r)
  area-covers c r = rw (reply_area b frame e g z, ← signed-origin c, ← signed-origin r) (signed-covers (edit_damage b e) (origin + c) (origin + r))

  area-on-frame : (c r : ℕ) → In (edit_damage b e) c r → (origin ≤ c) × (origin ≤ r)
  area-on-frame c r i = let f = damage_canvas b (edited b e) (item_number e) frame (accepted b g.accepted) g.sized in omega (arith, f.left, f.top)

  join_more : (a : Rectangle) (rs : List Box) (j : SignedRectangle) → Joined (join a (edit_damage b e)) rs j → Joined a (edit_reply b frame e ∷ rs) j
  unfolding covered_by
  join_more a rs j more = record {
    counted = more.counted;
    same = more.same;
    first = λ c r i. more.first c r (join_left c r a (edit_damage b e) i);
    holds = λ c r q. either c r (Signed.covers (box_area (edit_reply b frame e)) (pos c) (pos r)) refl q;
    smallest = λ y wa wc. more.smallest y (join-within y a (edit_damage b e) wa (within y wc)) (λ c r q. wc c r (or_right (Signed.covers (box_area (edit_reply b frame e)) (pos c) (pos r)) (covered_by rs c r) q));
  }
    where
      either : (c r : ℕ) (t : Bool) → Signed.covers (box_area (edit_reply b frame e)) (pos c) (pos r) ≡ t → (t || covered_by rs c r) ≡ true → In more.counted (origin + c) (origin + r)
      either c r true p q = more.first _ _ (join-right (origin + c) (origin + r) a (edit_damage b e) (covers_in _ _ _ (sym (area-covers c r) ∙ p)))
      either c r false p q = more.holds c r q

      within : (y : Rectangle) → ((c r : ℕ) → (Signed.covers (box_area (edit_reply b frame e)) (pos c) (pos r) || covered_by rs c r) ≡ true → In y (origin + c) (origin + r)) → Within (edit_damage b e) y
      within y wc c r i =
          let f = area-on-frame c r i in
          let ec : origin + (c - origin) ≡ c = omega arith in
          let er : origin + (r - origin) ≡ r = omega arith in
          let q : Signed.covers (box_area (edit_reply b frame e)) (pos (c - origin)) (pos (r - origin)) ≡ true = area-covers (c - origin) (r - origin) ∙ rw (ec, er) (in_covers (edit_damage b e) c r i) in
          rw (ec, er) at (wc (c - origin) (r - origin) (rw q))

-- replies that cover nothing
join_none : (a : Rectangle) (rs : List Box) → ((c r : ℕ) → covered_by rs c r ≡ false) → Joined a rs (signed_rectangle a)
join_none a rs none = record {
  counted = a;
  same = refl;
  first = λ c r i. i;
  holds = λ c r q. absurd (true≢false (sym q ∙ none c r));
  smallest = λ y wa wc. wa;
}

abbrev JoinedFrom : ℕ → Rectangle → Run Logger Box → Type 0
JoinedFrom n a x = Joined a x.replies (batch_area (batch_from n (signed_rectangle a) x.replies))

joined : (es : List Edit) (b frame : List ℕ) → Checked b frame → (n : ℕ) (a : Rectangle) → JoinedFrom n a (from b frame es)
unfolding covered_by batch_from
joined [] b frame g n a = rw (until_end patched_machine (record { sheet = b; frame = frame })) (join_none a [] (λ c r. refl))
joined (e ∷ es) b frame g n a = go (refusal b e) refl (joined es (edit_sheet b frame e) (edit_frame b frame e) (checked_call b frame e g) (suc n) (join a (edit_damage b e)))
  where
    go : (k : ℕ) → refusal b e ≡ k → JoinedFrom (suc n) (join a (edit_damage b e)) (from (edit_sheet b frame e) (edit_frame b frame e) es) → JoinedFrom n a (from b frame (e ∷ es))
    go zero z more =
        let code = reply_code b frame e g ∙ z in
        let rs = (from (edit_sheet b frame e) (edit_frame b frame e) es).replies in
        let same = batch_made n (signed_rectangle a) (edit_reply b frame e) rs code ∙ ap (λ (j : SignedRectangle). batch_from (suc n) j rs) (ap (Signed.join (signed_rectangle a)) (reply_area b frame e g z) ∙ signed-join a (edit_damage b e)) in
        rw (until_made patched_machine _ e es code, same) (join_more b frame e g z a rs _ more)
    go (suc k) z more =
        let code = reply_code b frame e g ∙ z in
        rw (until_refused patched_machine _ e es k code, batch_refused n (signed_rectangle a) (edit_reply b frame e) [] k code)
        (join_none a (edit_reply b frame e ∷ []) (λ c r. rw (refused_area b frame e g k z, none_covered c r)))

-- ---- the theorem

pub record OneList (b frame list : List ℕ) : Type 0 where
  pub same_size : length (edit_list_frame b frame list) ≡ length frame
  pub inside : (k : ℕ) → k < length frame → covered_by (singly b frame list).replies (k % frame_width b) (k / frame_width b) ≡ true → get_or (edit_list_frame b frame list) k 0 ≡ get_or (page (edit_list_sheet b frame list)) k 0
  pub outside : (k : ℕ) → k < length frame → covered_by (singly b frame list).replies (k % frame_width b) (k / frame_width b) ≡ false → get_or (edit_list_frame b frame list) k 0 ≡ get_or frame k 0
  -- the joined rectangle holds what the single ones cover, and each rectangle that holds that holds it
  pub holds : (c r : ℕ) → covered_by (singly b frame list).replies c r ≡ true → Signed.covers (batch_area (edit_list_reply b frame list)) (pos c) (pos r) ≡ true
  pub smallest : (z : Rectangle) → ((c r : ℕ) → covered_by (singly b frame list).replies c r ≡ true → covers z (origin + c) (origin + r) ≡ true)
      → (c r : ℕ) → Signed.covers (batch_area (edit_list_reply b frame list)) (pos c) (pos r) ≡ true → covers z (origin + c) (origin + r) ≡ true

pub one_list : (b frame list : List ℕ) → edit_list_code b frame list ≡ 0 → OneList b frame list
unfolding edit_list_reply edit_list_sheet edit_list_frame
one_list b frame list z = record {
  same_size = rw z ((as_plain b frame g (edits_of list)).state.sized ∙ same-pixels ∙ sym g.sized);
  inside = λ k l q. rw z (inside (edits_of list) b frame g k l q);
  outside = λ k l q. rw z (outside (edits_of list) b frame g k l q);
  holds = λ c r q. rw z (counted c r ∙ in_covers _ _ _ (j.holds c r q));
  smallest = λ y wc c r q. in_covers _ _ _ (j.smallest y (λ c r i. absurd (omega arith)) (λ c r p. covers_in _ _ _ (wc c r p)) _ _ (covers_in _ _ _ (sym (counted c r) ∙ rw z at q)));
}
  where
    g : Checked b frame
    g = list_checked b frame list (sym z)

    corner : signed_rectangle (rectangle origin origin 0 0) ≡ zeros
    corner = rw (signed-origin 0)

    j : Joined (rectangle origin origin 0 0) (singly b frame list).replies (batch_area (batch_of (singly b frame list).replies))
    j = rw corner at (joined (edits_of list) b frame g 0 (rectangle origin origin 0 0))

    counted : (c r : ℕ) → Signed.covers (batch_area (batch_of (singly b frame list).replies)) (pos c) (pos r) ≡ covers j.counted (origin + c) (origin + r)
    counted c r = rw (j.same, ← signed-origin c, ← signed-origin r) (signed-covers j.counted (origin + c) (origin + r))

    same-pixels : pixel_count (run_until_refused plain_machine b (edits_of list)).state ≡ pixel_count b
    same-pixels = (as-page b frame g (edits_of list)).state.size
