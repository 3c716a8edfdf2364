-- Laws of the usual forms of a glyph's lines: what a line in such a form does, and what the rest of the file comes to after it. Assumes nothing.
use Prim.Native.Nat.{ℕ, ◌-◌, ◌≤◌, ◌<◌}
use native.Mathlib.Omega.{arith}
use mathlib.Core.Path.{◌≡◌, refl, sym, ap, ◌∙◌}
use mathlib.Core.Bool.{Bool, true, false}
use mathlib.Core.List.{List, [], ◌∷◌}
use lib.ListN.{length}
use lib.Dec.{eqb}
use borrow.Author.Tests.{ne_eqb, le-ltb}
use Rattle.characters.specs.Lines.{line_length, line_from, without_return}
use Rattle.std.specs.Prelude.{Some, Result, Ok}
use Rattle.refusals.specs.declared.Refusal.{Refusal}
use Rattle.bdf_lines.specs.declared.values.Four.{Four}
use Rattle.bdf.specs.declared.reader.Answer.TheVariants.{Passed}
use Rattle.bdf_lines.specs.declared.values.Number.{Number}
use Rattle.bdf_lines.specs.Forms.{line_at, LineBefore, UsualLine, UsualEncoding, UsualBbx}
use Rattle.bdf.specs.declared.reader.Expected.{Expected}
use Rattle.bdf.specs.declared.reader.Expected.TheVariants.{Glyph, Encoding, Swidth, Dwidth, Bbx, Attributes, Rows}
use Rattle.bdf.specs.declared.reader.Reader.{Reader}
use Rattle.bdf.specs.declared.reader.Answer.{Answer}
use Rattle.bdf_lines.specs.Words.{words, same, is_alone, is_named, is_comment, has_numbers, four_of, encoding_of}
use Rattle.bdf_lines.specs.Keywords as word
use Rattle.bdf_lines.proofs.FirstWords.{begins, no_comment, named_begins, alone_begins, numbers_begin, four_begins, encoding_begins, alone_no_pair}
use Rattle.bdf.specs.Reader.{order, expecting, leaving, encoding_line, bbx_line, line_step, in_bitmap, step}
use Rattle.bdf.specs.Walk.{Carries}
use Rattle.bdf.specs.Usual.{UsualMove, UsualAnswer}
use Rattle.bdf.proofs.Steps.{step_line, expected_is}
use Rattle.bdf.proofs.Walks.{rest_shorter, carries_line}
use Rattle.bdf.proofs.Strips.{put_passed}
use Rattle.bdf.proofs.Passes.{Passing, passing_on}

-- ---- what such a line does

module _ (r : Reader) (l : List ℕ) (x : Expected) (e : r.expected ≡ x) where
  -- where no bitmap line is next
  keyword-step : (k : List ℕ) (a : Result Answer Refusal) → in_bitmap r ≡ false → same k word.comment ≡ false → begins k (words l) ≡ true → a ≡ line_step x r l (words l) → a ≡ step r l
  keyword-step k a i o b q = step_line r l false (sym i) a (expected_is r l (words l) x e a q) false refl (sym (no_comment k (words l) o b)) refl

  outside : eqb (order x) (order Rows) ≡ false → in_bitmap r ≡ false
  unfolding in_bitmap
  outside o = rw (e, o)

module _ (r s : Reader) (l : List ℕ) where
  start-step : r.expected ≡ Glyph → (r.left ≡ 0 → ⊥) → s ≡ leaving Encoding (r.left - 1) r → is_named word.start_char (words l) ≡ true → step r l ≡ Ok (Passed s)
  unfolding same line_step
  start-step e z q t = sym (keyword-step r l Glyph e word.start_char (Ok (Passed s)) (outside r l Glyph e refl) refl (named_begins _ (words l) t) (rw (ne_eqb r.left 0 z, t, q)))

  scalable-step : r.expected ≡ Swidth → s ≡ expecting Dwidth r → has_numbers word.swidth 2 (words l) ≡ true → step r l ≡ Ok (Passed s)
  unfolding same line_step
  scalable-step e q t = sym (keyword-step r l Swidth e word.swidth (Ok (Passed s)) (outside r l Swidth e refl) refl (numbers_begin _ 2 (words l) t) (rw (t, q)))

  device-step : r.expected ≡ Dwidth → s ≡ expecting Bbx r → has_numbers word.dwidth 2 (words l) ≡ true → step r l ≡ Ok (Passed s)
  unfolding same line_step
  device-step e q t = sym (keyword-step r l Dwidth e word.dwidth (Ok (Passed s)) (outside r l Dwidth e refl) refl (numbers_begin _ 2 (words l) t) (rw (t, q)))

  bitmap-step : r.expected ≡ Attributes → s ≡ expecting Rows r → is_alone word.bitmap (words l) ≡ true → step r l ≡ Ok (Passed s)
  unfolding same line_step
  bitmap-step e q t = sym (keyword-step r l Attributes e word.bitmap (Ok (Passed s)) (outside r l Attributes e refl) refl (alone_begins _ (words l) t)
      (rw (alone_no_pair word.bitmap word.attributes (words l) t, t, q)))

  end_step : r.expected ≡ Rows → r.bbx.height ≤ r.read → s ≡ expecting Glyph r → is_alone word.end_char (words l) ≡ true → step r l ≡ Ok (Passed s)
  unfolding same line_step in_bitmap
  end_step e h q t =
      let n = le-ltb r.read r.bbx.height h in
      sym (keyword-step r l Rows e word.end_char (Ok (Passed s)) (rw (e, n)) refl (alone_begins _ (words l) t) (rw (n, t, q)))

module _ (r : Reader) (l : List ℕ) (x : Result Answer Refusal) where
  encoding-step : r.expected ≡ Encoding → (n : Number) → encoding_of word.encoding (words l) ≡ Some n → x ≡ encoding_line (Some n) r → x ≡ step r l
  unfolding same line_step
  encoding-step e n t q = keyword-step r l Encoding e word.encoding x (outside r l Encoding e refl) refl (encoding_begins _ n (words l) t) (rw t q)

  bbx-step : r.expected ≡ Bbx → (f : Four) → four_of word.bbx (words l) ≡ Some f → x ≡ bbx_line (Some f) r → x ≡ step r l
  unfolding same line_step
  bbx-step e f t q = keyword-step r l Bbx e word.bbx x (outside r l Bbx e refl) refl (four_begins _ f.width f.height f.x f.y (words l) t) (rw t q)

-- ---- the moves

-- a feed is an empty line, and where no bitmap line is next it does not count
module _ (text rest : List ℕ) (e : text ≡ 0x0A ∷ rest) where
  empty-line : LineBefore text rest
  unfolding line_length
  empty-line = rw e (record { feed = omega arith; after = refl })

  empty-at : line_at text 0 ≡ []
  unfolding line_from without_return line_length
  empty-at = rw e

empty_step : (r : Reader) → r.expected ≡ Glyph → step r [] ≡ Ok (Passed r)
unfolding step words is_comment
empty_step r e = rw (outside r [] Glyph e refl)

module _ (text rest : List ℕ) (r : Reader) where
  pub empty_on : text ≡ 0x0A ∷ rest → r.expected ≡ Glyph → UsualMove text r r rest
  empty_on f e = record { line = empty-line text rest f; moves = ap (step r) (empty-at text rest f) ∙ empty_step r e }

  module _ (s : Reader) where
    -- a line that passes a test is such a line
    on : (test : List (List ℕ) → Bool) → UsualLine text test rest → (test (words (line_at text 0)) ≡ true → step r (line_at text 0) ≡ Ok (Passed s)) → UsualMove text r s rest
    on test u q = record { line = u.line; moves = q u.passes }

    pub start_on : UsualLine text (is_named word.start_char) rest → r.expected ≡ Glyph → (r.left ≡ 0 → ⊥) → s ≡ leaving Encoding (r.left - 1) r → UsualMove text r s rest
    start_on u e z q = on (is_named word.start_char) u (start-step r s (line_at text 0) e z q)

    pub scalable_on : UsualLine text (has_numbers word.swidth 2) rest → r.expected ≡ Swidth → s ≡ expecting Dwidth r → UsualMove text r s rest
    scalable_on u e q = on (has_numbers word.swidth 2) u (scalable-step r s (line_at text 0) e q)

    pub device_on : UsualLine text (has_numbers word.dwidth 2) rest → r.expected ≡ Dwidth → s ≡ expecting Bbx r → UsualMove text r s rest
    device_on u e q = on (has_numbers word.dwidth 2) u (device-step r s (line_at text 0) e q)

    pub bitmap_on : UsualLine text (is_alone word.bitmap) rest → r.expected ≡ Attributes → s ≡ expecting Rows r → UsualMove text r s rest
    bitmap_on u e q = on (is_alone word.bitmap) u (bitmap-step r s (line_at text 0) e q)

    pub end_on : UsualLine text (is_alone word.end_char) rest → r.expected ≡ Rows → r.bbx.height ≤ r.read → s ≡ expecting Glyph r → UsualMove text r s rest
    end_on u e h q = on (is_alone word.end_char) u (end_step r s (line_at text 0) e h q)

  -- ---- the answers

  module _ (a : Result Answer Refusal) where
    pub encoding_answered : (n : Number) → UsualEncoding text n rest → r.expected ≡ Encoding → a ≡ encoding_line (Some n) r → UsualAnswer text r a rest
    encoding_answered n u f q = record { line = u.line; answers = encoding-step r (line_at text 0) a f n u.encoding q }

    pub bbx_answered : (f : Four) → UsualBbx text f rest → r.expected ≡ Bbx → a ≡ bbx_line (Some f) r → UsualAnswer text r a rest
    bbx_answered f u i q = record { line = u.line; answers = bbx-step r (line_at text 0) a i f u.bbx q }

-- ---- a move in the pass over a file, after bitmap lines

module _ (text : List ℕ) (s t : Reader) (behind : List ℕ) (u : UsualMove text s t behind) where
  module _ (w : Bool) (size : ℕ) (r : Reader) (rest old mid : List ℕ) (d : Carries rest w size r old s text mid) where
    pub move_less : length behind < length rest
    move_less = omega (arith, rest_shorter text behind u.line, d.onward)

    pub move_on : (file out : List ℕ) → Passing file w size out r rest old → Passing file w size out t behind mid
    move_on file out c = passing_on file w size out r rest old c t behind mid
        (carries_line rest w size r old s text mid d (Ok (Passed t)) (sym u.moves) behind u.line refl t mid refl (put_passed size s t (Passed t) mid [] w refl) refl)
