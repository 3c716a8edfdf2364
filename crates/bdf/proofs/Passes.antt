-- Laws of the pass over a file: over bitmap lines and then one line, from the first line to the last. Assumes nothing.
use Prim.Native.Nat.{ℕ, ◌≤◌, ◌<◌}
use native.Mathlib.Omega.{arith}
use mathlib.Core.Path.{◌≡◌, refl, ◌∙◌}
use mathlib.Core.Bool.{Bool, true}
use mathlib.Core.Logic.{◌⊎◌, inl, inr}
use mathlib.Core.List.{List, []}
use lib.ListN.{length}
use Rattle.characters.specs.Lines.{line_length}
use denote.Ref.{Bor}
use Rattle.std.specs.Option.{MatchOption}
use Rattle.std.specs.Prelude.{Option, Some, None, Result, Ok, Err}
use Rattle.refusals.specs.declared.Refusal.{Refusal}
use Rattle.refusals.specs.Numbers.{number}
use Rattle.bdf_lines.specs.Forms.{line_at, LineBefore}
use Rattle.bdf.specs.declared.reader.Reader.{Reader}
use Rattle.bdf.specs.declared.reader.Answer.{Answer}
use Rattle.bdf.specs.Reader.{file_lines, start, step, reader_of, first_refusal, last_reader}
use Rattle.bdf.specs.Within.{Within}
use Rattle.bdf.specs.Walk.{measured, numbered, put_if, put_lines_if, Room, Carries, NextLine, LastLine, LineRefused, AnswerFits}
use Rattle.bdf.proofs.Invariant.{within-start}
use Rattle.bdf.proofs.Walks.{not_ok, measured_whole, measured_parts, lines_more_here, lines_last_here, first_or_last, rest_shorter, carries_none, carries_on, carries_line, last_line, line-refusal, put_kept, room_kept}
use Rattle.bdf.proofs.Strips.{answer_fits}

-- ---- one line

module _ (text : List ℕ) (w : Bool) (size : ℕ) (r : Reader) (out : List ℕ) (i : Within r) (a : Result Answer Refusal) (e : a ≡ step r (line_at text 0)) where
  none : Carries text w size r out r text out
  none = carries_none text w size r out i

  pub line_fits : Room w (last_reader r (file_lines text)) size (length out) → (b : Answer) → a ≡ Ok b → AnswerFits w size r (Ok b) (length out)
  line_fits m b q = rw q at (go (first_or_last text))
    where
      go : ((rest : List ℕ) × LineBefore text rest) ⊎ (length text ≤ line_length text) → AnswerFits w size r a (length out)
      go (inl (rest, d)) = answer_fits w r _ size (length out) i (line_at text 0) a e (rw (lines_more_here text rest d) at m)
      go (inr h) = answer_fits w r _ size (length out) i (line_at text 0) a e (rw (lines_last_here text h) at m)

  pub line_refused : (n : Refusal) → a ≡ Err n → LineRefused text r out n out
  line_refused n q = record { first = line-refusal text w size r out r text out none a e n q; kept = refl }

  -- x is what follows the line, if a feed ends it
  pub line_over : (x : Option (Bor (List ℕ))) → MatchOption x (length text ≤ line_length text) (λ y. LineBefore text y.now) → (b : Answer) → a ≡ Ok b
      → (t : Reader) (exit : List ℕ) → t ≡ reader_of b → exit ≡ put_if w size r (Ok b) out → length exit ≡ length out
      → MatchOption x (LastLine text w size r out t exit) (λ y. NextLine text w size r out t y.now exit)
  line_over None h b q t exit p k m = last_line text w size r out r text out none a e h (rw q) t exit (rw q p) (rw q k)
  line_over (Some y) d b q t exit p k m = record {
    shorter = rest_shorter text y.now d;
    carries = carries_line text w size r out r text out none a e y.now d (rw q) t exit (rw q p) (rw q k) m;
  }

-- ---- all lines

-- from the first line to the rest of a file, with room for what the file says, and no refusal if it is written
pub record Passing (file : List ℕ) (w : Bool) (size : ℕ) (out : List ℕ) (r : Reader) (rest mid : List ℕ) : Type 0 where
  pub carries : Carries file w size start out r rest mid
  pub room : Room w (last_reader start (file_lines file)) size (length out)
  pub good : w ≡ true → first_refusal start (file_lines file) ≡ 0

module _ (file : List ℕ) (w : Bool) (size : ℕ) (out : List ℕ) where
  -- before the first line
  pub pass_start : Room w (last_reader start (file_lines file)) size (length out) → (w ≡ true → first_refusal start (file_lines file) ≡ 0) → (r : Reader) → r ≡ start
      → Passing file w size out r file out
  pass_start m g r e = rw e (record { carries = carries_none file w size start out within-start; room = m; good = g })

  module _ (r : Reader) (rest old : List ℕ) (c : Passing file w size out r rest old) where
    pub pass_here : Room w (last_reader r (file_lines rest)) size (length old)
    pass_here = room_kept file w size start out r rest old c.carries c.room

    -- further on
    pub passing_on : (s : Reader) (text mid : List ℕ) → Carries rest w size r old s text mid → Passing file w size out s text mid
    passing_on s text mid d = record { carries = carries_on file w size start out r rest old c.carries s text mid d; room = c.room; good = c.good }

  module _ (r : Reader) (rest old : List ℕ) (c : Passing file w size out r rest old) (s : Reader) (text mid : List ℕ) (d : Carries rest w size r old s text mid) where
    both : Passing file w size out s text mid
    both = passing_on r rest old c s text mid d

    pub pass_room : Room w (last_reader s (file_lines text)) size (length mid)
    pass_room = pass_here s text mid both

    module _ (exit : List ℕ) where
      module _ (n : Refusal) (l : LineRefused text s mid n exit) where
        refused-code : number n ≡ first_refusal start (file_lines file)
        refused-code = l.first ∙ both.carries.same_refusal

        pub pass_refused : numbered (Err n) ≡ measured start (file_lines file)
        pass_refused = measured_whole (Err n) start (file_lines file) (record { code = refused-code; last = λ t o. absurd (not_ok o) })

        -- a file that is written has no such line
        pub pass_kept : exit ≡ put_lines_if w size start (file_lines file) out
        pass_kept = l.kept ∙ put_kept file w size start out s text mid both.carries both.good n refused-code

      module _ (t : Reader) where
        module _ (behind : List ℕ) (l : NextLine text w size s mid t behind exit) where
          pub pass_on : Passing file w size out t behind exit
          pass_on = passing_on s text mid both t behind exit l.carries

          pub pass_less : length behind < length rest
          pass_less = omega (arith, l.shorter, d.onward)

        module _ (l : LastLine text w size s mid t exit) where
          pub pass_end : (y : Result Reader Refusal) → numbered y ≡ measured t [] → numbered y ≡ measured start (file_lines file)
          unfolding last_reader
          pass_end y e =
              let m = measured_parts y t [] e in
              measured_whole y start (file_lines file) (record {
                code = m.code ∙ l.same_refusal ∙ both.carries.same_refusal;
                last = λ u o. m.last u o ∙ l.same_last ∙ both.carries.same_last;
              })

          pub pass_put : exit ≡ put_lines_if w size start (file_lines file) out
          pass_put = l.put_whole ∙ both.carries.same-put
