-- The leading bytes below 80 are a character each, and the rest tells the rest. Assumes nothing.
use mathlib.Core.Path.{◌≡◌, refl, sym, ◌∙◌, ap}
use mathlib.Core.Bool.{Bool, true, false, cond, not}
use mathlib.Core.List.{List, [], ◌∷◌, ◌++◌}
use Prim.Native.Nat.{ℕ, zero, suc, ◌+◌, ◌<◌, ◌≤◌}
use native.Mathlib.Numerals.{add-one}
use native.Mathlib.Omega.{arith}
use native.Mathlib.Decide.{dec_lt}
use lib.Dec.{ltb}
use lib.ListN.{length, get_or, drop, drop_of_length-le}
use lib.Seq.{drop-cons}
use Rattle.std.specs.List.{position_or_len}
use Rattle.std.proofs.lemmas.List.Recursion.{is_position_or_len}
use borrow.Author.Tests.{lt-ltb, le-ltb}
use Rattle.characters.specs.declared.Step.TheVariants.{Character}
use Rattle.characters.specs.Utf8.{leading_ones, sequence, step_at, chars_from, well_formed_from}
use Rattle.characters.specs.Ascii.{ascii_length}
use Rattle.characters.proofs.Chunks.{rest_is}
use Rattle.characters.proofs.Walks.{walk_again, count_again}

-- ---- the number of leading bytes

turned : (t : Bool) (n : ℕ) → cond t (suc n) 0 ≡ cond (not t) 0 (1 + n)
turned true n = omega arith
turned false n = refl

-- byte by byte: the position of the first that is not below 80
pub first_above : (s : List ℕ) → ascii_length s ≡ position_or_len (λ b. not (ltb b 0x80)) s
unfolding ascii_length
first_above = is_position_or_len ascii_length (λ b. not (ltb b 0x80)) refl (λ b s. turned (ltb b 0x80) (ascii_length s))

-- in blocks: of bytes that are all below 80 the rest tells the rest
module _ (s : List ℕ) (at : ℕ) where
  below-passed : at < length s → get_or s at 0 < 0x80 → ascii_length (drop at s) ≡ suc (ascii_length (drop (at + 1) s))
  unfolding ascii_length
  below-passed h l = rw (add-one, drop-cons s at 0 h, lt-ltb (get_or s at 0) 0x80 l)

  above-stops : at < length s → 0x80 ≤ get_or s at 0 → ascii_length (drop at s) ≡ 0
  unfolding ascii_length
  above-stops h l = rw (drop-cons s at 0 h, le-ltb (get_or s at 0) 0x80 l)

  past-stops : length s ≤ at → ascii_length (drop at s) ≡ 0
  unfolding ascii_length
  past-stops h = rw (drop_of_length-le s {i = at} h)

pub all_below : (s : List ℕ) → ((k : ℕ) → k < length s → get_or s k 0 < 0x80) → ascii_length s ≡ length s
unfolding ascii_length
all_below [] h = refl
all_below (b ∷ s) h = rw (lt-ltb b 0x80 (h 0 (omega arith)), all_below s (λ k l. h (suc k) (omega arith)))

below-append : (b s : List ℕ) → ascii_length b ≡ length b → ascii_length (b ++ s) ≡ length b + ascii_length s
unfolding ascii_length
below-append [] s e = omega arith
below-append (c ∷ b) s e = go (ltb c 0x80) e (below-append b s)
  where
    go : (t : Bool) → cond t (suc (ascii_length b)) 0 ≡ suc (length b) → (ascii_length b ≡ length b → ascii_length (b ++ s) ≡ length b + ascii_length s)
        → cond t (suc (ascii_length (b ++ s))) 0 ≡ suc (length b) + ascii_length s
    go true e f = omega (arith, f (omega arith))
    go false e f = absurd (omega arith)

-- a block more
pub block_below : (s : List ℕ) (at n : ℕ) (b left rest : List ℕ) → left ≡ drop at s → left ≡ b ++ rest → length b ≡ n → ascii_length b ≡ length b
    → at + ascii_length (drop at s) ≡ ascii_length s → at + n + ascii_length (drop (at + n) s) ≡ ascii_length s
block_below s at n b left rest l p m e i =
    let a : ascii_length (drop at s) ≡ length b + ascii_length rest = ap ascii_length (sym l ∙ p) ∙ below-append b rest e in
    rw (← rest_is s at n b left rest l p m) (omega arith)

-- ---- what they tell of the text

-- the first n bytes are n characters, and the rest tells the rest
pub record AsciiHead (s : List ℕ) (n : ℕ) : Type 0 where
  pub within : n ≤ length s
  pub counted : n + length (chars_from s n) ≡ length (chars_from s 0)
  pub judged : well_formed_from s n ≡ well_formed_from s 0

head_none : (s : List ℕ) → AsciiHead s 0
head_none s = record { within = omega arith; counted = omega arith; judged = refl }

head_more : (s : List ℕ) (at : ℕ) → AsciiHead s at → at < length s → get_or s at 0 < 0x80 → AsciiHead s (at + 1)
unfolding step_at sequence leading_ones
head_more s at g h l = record { within = omega arith; counted = count_again s at refl step at _ g.counted; judged = walk_again s at refl step _ g.judged }
  where
    step : step_at s at ≡ Character (get_or s at 0) (record { at = at + 1 })
    step = rw (lt-ltb at (length s) h, lt-ltb (get_or s at 0) 0x80 l)

heads : (s : List ℕ) (n at : ℕ) → n ≡ ascii_length (drop at s) → AsciiHead s at → AsciiHead s (n + at)
heads s zero at e g = let z : 0 + at ≡ at = omega arith in rw z g
heads s (suc n) at e g =
    elim (dec_lt at (length s)) [
      | no h ↦ absurd (omega (arith, past-stops s at (omega arith)))
      | yes h ↦ elim (dec_lt (get_or s at 0) 0x80) [
        | no l ↦ absurd (omega (arith, above-stops s at h (omega arith)))
        | yes l ↦
            let r = heads s n (at + 1) (omega (arith, below-passed s at h l)) (head_more s at g h l) in
            let m : suc n + at ≡ n + (at + 1) = omega arith in
            rw m r
      ]
    ]

pub ascii_head : (s : List ℕ) (n : ℕ) → n ≡ ascii_length s → AsciiHead s n
ascii_head s n e =
    let h = heads s n 0 e (head_none s) in
    let z : n + 0 ≡ n = omega arith in
    rw z at h
