-- What holds of a reader between two lines holds before the first and stays with each. Assumes nothing.
use Prim.Native.Nat.{ℕ, ◌+◌, ◌/◌, ◌%◌, ◌≤◌, ◌<◌}
use native.Mathlib.Omega.{arith}
use native.Mathlib.Decide.{dec_lt}
use mathlib.Core.Path.{refl, sym}
use mathlib.Core.Bool.{Bool, true, false, cond}
use mathlib.Core.List.{List, [], ◌∷◌}
use lib.ListN.{length}
use lib.Dec.{ltb, eqb}
use Rattle.std.specs.Prelude.{Result}
use Rattle.refusals.specs.declared.Refusal.{Refusal}
use Rattle.bdf.specs.declared.reader.Expected.TheVariants.{Swidth, Rows}
use Rattle.bdf.specs.declared.reader.Reader.{Reader}
use Rattle.bdf.specs.declared.reader.Answer.{Answer}
use Rattle.bdf.specs.Reader.{baseline, utf8, spelling, start, order, step, after, last_reader}
use Rattle.bdf.specs.Within.{Within}
use Rattle.bdf.proofs.Steps.{cell_good, box_in}
use Rattle.bdf.proofs.Turns.{Turn, refused, passed, celled, encoded, boxed, drawn, turn}

-- a spelling takes at least a byte
pub spelling_some : (v : ℕ) → 1 ≤ length (spelling v)
unfolding spelling utf8
spelling_some v = go (eqb v 0) (ltb v 0x80) (ltb v 0x800) (ltb v 0x10000)
  where
    go : (a b c d : Bool) → 1 ≤ length (cond a (0 ∷ 0 ∷ 0 ∷ []) (cond b (v ∷ []) (cond c ((0xC0 + v / 64) ∷ (0x80 + v % 64) ∷ [])
        (cond d ((0xE0 + v / 4_096) ∷ (0x80 + v / 64 % 64) ∷ (0x80 + v % 64) ∷ [])
        ((0xF0 + v / 262_144) ∷ (0x80 + v / 4_096 % 64) ∷ (0x80 + v / 64 % 64) ∷ (0x80 + v % 64) ∷ [])))))
    go true b c d = omega arith
    go false true c d = omega arith
    go false false true d = omega arith
    go false false false true = omega arith
    go false false false false = omega arith

-- before the first line
pub within-start : Within start
unfolding baseline
within-start = record {
  good_cell = omega arith;
  in_cell = omega arith;
  counted = omega arith;
  short = omega arith;
  fresh = omega arith;
  few = omega arith;
  begun = omega arith;
}

-- from ENCODING to ENDCHAR no more bitmap lines were read than there are
pub read_few : (r : Reader) → Within r → order Swidth ≤ order r.expected → order r.expected ≤ order Rows → r.read ≤ r.bbx.height
read_few r w a b = go (dec_lt (order r.expected) 14)
  where
    go : Dec (order r.expected < 14) → r.read ≤ r.bbx.height
    go (yes h) = omega (arith, w.fresh a (omega arith))
    go (no h) = w.few (omega arith)

-- after an answer of each form
within_turn : (r : Reader) (a : Result Answer Refusal) → Turn r a → Within r → Within (after r a)
within_turn r a (refused n) w = w
within_turn r a (passed e n f) w = record {
  good_cell = w.good_cell;
  in_cell = w.in_cell;
  counted = w.counted;
  short = w.short;
  fresh = λ p q. let i = f.inside p (omega arith) in w.fresh i.0 (omega arith);
  few = λ p. let i = f.inside (omega arith) (omega arith) in read_few r w i.0 (omega arith);
  begun = λ p q. let i = f.inside p q in w.begun i.0 (omega arith);
}
within_turn r a (celled w h x y o e) i = record {
  good_cell = cell_good w h x y true refl (sym e);
  in_cell = omega arith;
  counted = i.counted;
  short = i.short;
  fresh = omega arith;
  few = omega arith;
  begun = omega arith;
}
within_turn r a (encoded v o c l) w = record {
  good_cell = w.good_cell;
  in_cell = w.in_cell;
  counted = omega (arith, w.counted, spelling_some v);
  short = l;
  fresh = λ p q. refl;
  few = omega arith;
  begun = omega arith;
}
within_turn r a (boxed w h x y o e) i = record {
  good_cell = i.good_cell;
  in_cell = box_in w h x y true refl r.cell i.good_cell (sym e);
  counted = i.counted;
  short = i.short;
  fresh = λ p q. i.fresh (omega arith) (omega arith);
  few = omega arith;
  begun = λ p q. i.begun (omega arith) (omega arith);
}
within_turn r a (drawn bits o h s) w = record {
  good_cell = w.good_cell;
  in_cell = w.in_cell;
  counted = w.counted;
  short = w.short;
  fresh = omega arith;
  few = λ p. omega arith;
  begun = λ p q. w.begun (omega arith) (omega arith);
}

-- after a line
pub within_step : (r : Reader) (l : List ℕ) → Within r → Within (after r (step r l))
within_step r l w = within_turn r (step r l) (turn r l) w

-- after all lines
pub within_last : (r : Reader) (ls : List (List ℕ)) → Within r → Within (last_reader r ls)
unfolding last_reader
within_last r [] w = w
within_last r (l ∷ ls) w = within_last (after r (step r l)) ls (within_step r l w)
