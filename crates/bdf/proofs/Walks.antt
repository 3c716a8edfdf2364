-- Laws of the walk over a file's lines: what a line does to the rest, and bitmap lines one after another. Assumes nothing.
use Prim.Native.Nat.{ℕ, zero, suc, ◌+◌, ◌≤◌, ◌<◌}
use native.Mathlib.Omega.{arith}
use native.Mathlib.Decide.{dec_lt}
use mathlib.Core.Path.{◌≡◌, refl, sym, ap, ◌∙◌}
use mathlib.Core.Bool.{Bool, true, false, true≢false, and-eq-true_iff}
use mathlib.Core.Logic.{◌⊎◌, inl, inr}
use mathlib.Core.List.{List, [], ◌∷◌, map}
use lib.ListN.{length, drop, length-drop}
use lib.Dec.{ltb, eqb}
use borrow.Author.Tests.{ne_eqb, eqb-true, ltb-true}
use Rattle.std.specs.Result.{is_ok}
use Rattle.std.specs.Prelude.{Some, Result, Ok, Err}
use Rattle.refusals.specs.declared.Refusal.{Refusal}
use Rattle.refusals.specs.declared.Refusal.TheVariants.{BdfLine}
use Rattle.refusals.specs.Numbers.{number, refusal_of}
use Rattle.bdf.specs.declared.reader.Answer.TheVariants.{Drawn}
use Rattle.bdf_lines.specs.Forms.{line_at, LineBefore}
use Rattle.bdf.specs.declared.reader.Expected.TheVariants.{Rows, Nothing}
use Rattle.bdf.specs.declared.reader.Answer.{Answer}
use Rattle.bdf.specs.declared.reader.Reader.{Reader}
use Rattle.bdf.specs.Reader.{file_lines, order, in_bitmap, with_row, row_line, step, after, first_refusal, last_reader}
use Rattle.bdf_lines.specs.Words.{words, row_of}
use Rattle.bdf.specs.Writing.{put_lines}
use Rattle.bdf.specs.Within.{Within}
use Rattle.bdf.specs.Walk.{measured_of, measured, numbered, Measured, put_if, put_lines_if, Room, Carries, LastLine}
use Rattle.characters.specs.Lines.{line_length, line_from, without_return}
use Rattle.characters.proofs.Feeds.{lines_more, lines_last}
use Rattle.characters.specs.Refusal.{or_else}
use Rattle.refusals.proofs.Numbers.{not_zero}
use Rattle.bdf.proofs.Steps.{order_tells, rows_expected, step-bitmap, expected_is, bitmap_row}
use Rattle.bdf.proofs.Invariant.{within_step}

-- ---- results

ok_of : {A : Type 0} → A → Result A Refusal → A
ok_of d (Ok x) = x
ok_of d (Err n) = d

err_of : {A : Type 0} → Refusal → Result A Refusal → Refusal
err_of d (Ok x) = d
err_of d (Err n) = n

module _ {A : Type 0} where
  pub not_ok : {n : Refusal} {x : A} → ◌≡◌ {A = Result A Refusal} (Err n) (Ok x) → ⊥
  not_ok e = true≢false (sym (ap is_ok e))

  pub ok_is : (x y : A) → ◌≡◌ {A = Result A Refusal} (Ok x) (Ok y) → x ≡ y
  unfolding ok_of
  ok_is x y e = ap (ok_of x) e

  pub err_is : (n k : Refusal) → ◌≡◌ {A = Result A Refusal} (Err n) (Err k) → n ≡ k
  unfolding err_of
  err_is n k e = ap (err_of n) e

-- ---- what lines come to, as one equation and in two parts

in_one : (x : Result Reader Refusal) (n : ℕ) (last : Reader) → refusal_of x ≡ n → ((s : Reader) → x ≡ Ok s → s ≡ last) → numbered x ≡ measured_of n last
unfolding numbered
in_one (Ok s) zero last e f = rw (f s refl)
in_one (Ok s) (suc n) last e f = absurd (omega arith)
in_one (Err k) zero last e f = absurd (not_zero k e)
in_one (Err k) (suc n) last e f = rw e

in_parts : (x : Result Reader Refusal) (n : ℕ) (last : Reader) → numbered x ≡ measured_of n last → (refusal_of x ≡ n) × ((s : Reader) → x ≡ Ok s → s ≡ last)
unfolding numbered
in_parts (Ok s) zero last e = (refl, λ t o. cc)
in_parts (Ok s) (suc n) last e = cc
in_parts (Err k) zero last e = cc
in_parts (Err k) (suc n) last e = (cc, λ t o. cc)

module _ (x : Result Reader Refusal) (r : Reader) (ls : List (List ℕ)) where
  pub measured_whole : Measured x r ls → numbered x ≡ measured r ls
  unfolding measured
  measured_whole m = in_one x (first_refusal r ls) (last_reader r ls) m.code m.last

  pub measured_parts : numbered x ≡ measured r ls → Measured x r ls
  unfolding measured
  measured_parts e = let p = in_parts x (first_refusal r ls) (last_reader r ls) e in record { code = p.0; last = p.1 }

-- ---- a line, and the rest

module _ (text : List ℕ) where
  pub lines_more_here : (rest : List ℕ) → LineBefore text rest → file_lines text ≡ line_at text 0 ∷ file_lines rest
  unfolding file_lines
  lines_more_here rest d = rw d.after (ap (map without_return) (lines_more text 0 (line_length text) (omega arith) (omega arith) d.feed))

  pub lines_last_here : length text ≤ line_length text → file_lines text ≡ line_at text 0 ∷ []
  unfolding file_lines
  lines_last_here h = ap (map without_return) (lines_last text 0 (line_length text) (omega arith) (omega arith) h)

  -- a text begins with a line before a rest, or with its last line
  pub first_or_last : ((rest : List ℕ) × LineBefore text rest) ⊎ (length text ≤ line_length text)
  first_or_last = go (dec_lt (line_length text) (length text))
    where
      go : Dec (line_length text < length text) → ((rest : List ℕ) × LineBefore text rest) ⊎ (length text ≤ line_length text)
      go (yes h) = inl (drop (line_length text + 1) text, record { feed = h; after = refl })
      go (no h) = inr (omega arith)

  pub rest_shorter : (rest : List ℕ) → LineBefore text rest → length rest < length text
  rest_shorter rest d = omega (arith, ap length d.after, length-drop (line_length text + 1) text, d.feed)

pub or_first : (n m : ℕ) → (n ≡ 0 → ⊥) → or_else n m ≡ n
or_first zero m h = absurd (h refl)
or_first (suc n) m h = refl

module _ (r : Reader) (l : List ℕ) (ls : List (List ℕ)) (a : Result Answer Refusal) (e : a ≡ step r l) where
  refusal-more : refusal_of a ≡ 0 → first_refusal r (l ∷ ls) ≡ first_refusal (after r a) ls
  unfolding first_refusal
  refusal-more z = rw (← e, z)

  refusal-here : (n : Refusal) → a ≡ Err n → first_refusal r (l ∷ ls) ≡ number n
  unfolding first_refusal
  refusal-here n q = rw (← e, q) (or_first (number n) _ (not_zero n))

  last_more : last_reader r (l ∷ ls) ≡ last_reader (after r a) ls
  unfolding last_reader
  last_more = rw (← e)

  put-more : (w : Bool) (size : ℕ) (out : List ℕ) → put_lines_if w size r (l ∷ ls) out ≡ put_lines_if w size (after r a) ls (put_if w size r a out)
  unfolding put_lines
  put-more true size out = rw (← e)
  put-more false size out = refl

put_lines_none : (size : ℕ) (t : Reader) (o : List ℕ) → o ≡ put_lines size t [] o
unfolding put_lines
put_lines_none size t o = refl

put_none : (size : ℕ) (w : Bool) (t : Reader) (o : List ℕ) → o ≡ put_lines_if w size t [] o
put_none size true t o = put_lines_none size t o
put_none size false t o = refl

-- ---- from a text to the rest of it

module _ (file : List ℕ) (w : Bool) (size : ℕ) (r : Reader) (out : List ℕ) where
  pub carries_none : Within r → Carries file w size r out r file out
  carries_none i = record { within = i; onward = omega arith; same_refusal = refl; same_last = refl; same-put = refl; same_length = refl }

  module _ (s : Reader) (text mid : List ℕ) (c : Carries file w size r out s text mid) where
    pub carries_on : (t : Reader) (rest exit : List ℕ) → Carries text w size s mid t rest exit → Carries file w size r out t rest exit
    carries_on t rest exit d = record {
      within = d.within;
      onward = omega (arith, c.onward, d.onward);
      same_refusal = d.same_refusal ∙ c.same_refusal;
      same_last = d.same_last ∙ c.same_last;
      same-put = d.same-put ∙ c.same-put;
      same_length = d.same_length ∙ c.same_length;
    }

    module _ (a : Result Answer Refusal) (e : a ≡ step s (line_at text 0)) where
      -- a line that ends in a feed
      module _ (rest : List ℕ) (d : LineBefore text rest) (z : refusal_of a ≡ 0) where
        more : file_lines text ≡ line_at text 0 ∷ file_lines rest
        more = lines_more_here text rest d

        pub carries_line : (t : Reader) (exit : List ℕ) → t ≡ after s a → exit ≡ put_if w size s a mid → length exit ≡ length mid → Carries file w size r out t rest exit
        carries_line t exit p q m = carries_on t rest exit (record {
          within = rw (p, e) (within_step s (line_at text 0) c.within);
          onward = omega (arith, rest_shorter text rest d);
          same_refusal = rw (p, more) (sym (refusal-more s (line_at text 0) _ a e z));
          same_last = rw (p, more) (sym (last_more s (line_at text 0) _ a e));
          same-put = rw (p, q, more) (sym (put-more s (line_at text 0) _ a e w size mid));
          same_length = m;
        })

      -- the last line
      module _ (h : length text ≤ line_length text) where
        last : file_lines text ≡ line_at text 0 ∷ []
        last = lines_last_here text h

        put_end : (exit : List ℕ) → exit ≡ put_if w size s a mid → exit ≡ put_lines_if w size r (file_lines file) out
        put_end exit q = q ∙ put_none size w (after s a) (put_if w size s a mid) ∙ sym (put-more s (line_at text 0) [] a e w size mid) ∙ ap (λ (ls : List (List ℕ)). put_lines_if w size s ls mid) (sym last) ∙ c.same-put

        pub last_line : refusal_of a ≡ 0 → (t : Reader) (exit : List ℕ) → t ≡ after s a → exit ≡ put_if w size s a mid → LastLine file w size r out t exit
        unfolding last_reader
        last_line z t exit p q = record {
          same_refusal = rw p (sym (refusal-more s (line_at text 0) [] a e z)) ∙ ap (first_refusal s) (sym last) ∙ c.same_refusal;
          same_last = p ∙ sym (last_more s (line_at text 0) [] a e) ∙ ap (last_reader s) (sym last) ∙ c.same_last;
          put_whole = put_end exit q;
        }

      -- a line that is refused
      module _ (n : Refusal) (q : a ≡ Err n) where
        refused-there : first_refusal s (file_lines text) ≡ number n
        refused-there = go (first_or_last text)
          where
            go : ((rest : List ℕ) × LineBefore text rest) ⊎ (length text ≤ line_length text) → first_refusal s (file_lines text) ≡ number n
            go (inl (rest, d)) = rw (lines_more_here text rest d) (refusal-here s (line_at text 0) _ a e n q)
            go (inr h) = rw (lines_last_here text h) (refusal-here s (line_at text 0) _ a e n q)

        pub line-refusal : number n ≡ first_refusal r (file_lines file)
        line-refusal = sym refused-there ∙ c.same_refusal

    -- a file that is written has no refused line
    pub put_kept : (w ≡ true → first_refusal r (file_lines file) ≡ 0) → (n : Refusal) → number n ≡ first_refusal r (file_lines file) → mid ≡ put_lines_if w size r (file_lines file) out
    put_kept good n q = go w refl c.same-put
      where
        go : (v : Bool) → w ≡ v → put_lines_if v size s (file_lines text) mid ≡ put_lines_if v size r (file_lines file) out → mid ≡ put_lines_if v size r (file_lines file) out
        go true o p = absurd (not_zero n (q ∙ good o))
        go false o p = p

  -- room for what the rest says
  pub room_kept : (s : Reader) (text mid : List ℕ) → Carries file w size r out s text mid → Room w (last_reader r (file_lines file)) size (length out)
      → Room w (last_reader s (file_lines text)) size (length mid)
  room_kept s text mid c m = rw (c.same_last, c.same_length) m

-- ---- the last reader, and the first line

module _ (r : Reader) where
  pub not_done : (r.expected ≡ Nothing → ⊥) → numbered (Err BdfLine) ≡ measured r []
  unfolding numbered measured first_refusal
  not_done h = rw (ne_eqb (order r.expected) 15 (λ o. h (order_tells r.expected Nothing 15 (sym o) refl)))

  pub done : r.expected ≡ Nothing → numbered (Ok r) ≡ measured r []
  unfolding numbered measured first_refusal last_reader
  done h = rw h

pub line_is : (text line x : List ℕ) (r : Reader) (a : Result Answer Refusal) → line ≡ line_from text 0 → x ≡ without_return line → a ≡ step r x → a ≡ step r (line_at text 0)
line_is text line x r a d q f = f ∙ ap (step r) (q ∙ ap without_return d)

-- ---- bitmap lines one after another

-- a bitmap line is drawn
pub row_step : (r : Reader) (l : List ℕ) (bits : ℕ) → in_bitmap r ≡ true → row_of r.bbx.width l ≡ Some bits → Ok (Drawn (with_row r) bits) ≡ step r l
unfolding in_bitmap row_line
row_step r l bits i e =
    let t = (and-eq-true_iff (eqb (order r.expected) 14) (ltb r.read r.bbx.height)).0 i in
    step-bitmap r l true (sym i) _
    (expected_is r l (words l) Rows (rows_expected r.expected (eqb-true _ _ t.0)) _
    (bitmap_row r l (words l) (ltb-true _ _ t.1) (Some bits) _ (sym e) refl))
    refl

pub told : (t u : Bool) → t ≡ u → t ≡ true → u ≡ true
told t u e o = sym e ∙ o
