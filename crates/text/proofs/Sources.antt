-- The line that starts at a position of the text that is new, or of the stored one. Assumes nothing.
use Prim.Native.Nat.{ℕ, ◌+◌, ◌-◌}
use mathlib.Core.Path.{◌≡◌, refl, sym}
use mathlib.Core.List.{List}
use lib.ListN.{length, take, drop, length-drop}
use lib.Seq.{take-length, length-take-le}
use denote.Ref.{Bor}
use Rattle.std.specs.Prelude.{Option, unwrap_or}
use Rattle.characters.proofs.Feeds.{length_to_feed}
use Rattle.characters.specs.Lines.{line_length, line_from}
use Rattle.text.specs.Lines.{LiesAt}

-- a first line is as long as it is
pub length-first : (t : List ℕ) (n : ℕ) → n ≡ line_length t → n ≡ length (take n t)
length-first t n e = sym (length-take-le n t (rw e (length_to_feed t)))

-- `text` is the lent slice that is the new one if there is one
module _ (stored text : Bor (List ℕ)) (new : Option (Bor (List ℕ))) (e : text ≡ unwrap_or new stored) where
  module _ (from : ℕ) where
    abbrev rest : List ℕ
    rest = take (length text.now - from) (drop from text.now)

    pub named_line : (n : ℕ) → n ≡ line_length rest → take n rest ≡ line_from (unwrap_or new stored).now from
    unfolding line_from
    named_line n d = rw (← e, d, ← length-drop from text.now, take-length (drop from text.now))

    pub named_lies : LiesAt (unwrap_or new stored).ref_ptr from (text.ref_ptr.0, from + text.ref_ptr.1)
    named_lies = rw (← e) (record { block = refl; offset = refl })
