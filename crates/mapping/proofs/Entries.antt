-- What an entry says of the characters and of the list from its position on. Assumes nothing.
use mathlib.Core.Path.{◌≡◌, refl, sym, ◌∙◌, ap}
use mathlib.Core.Logic.{◌⊎◌, inl, inr, ⊎_elim}
use mathlib.Core.Bool.{Bool, true, false}
use mathlib.Core.List.{List, [], ◌∷◌, ◌++◌}
use Prim.Native.Nat.{ℕ, zero, suc, ◌-◌, ◌<◌, ◌≤◌}
use native.Mathlib.Omega.{arith}
use borrow.Author.Tests.{le-leb, lt-leb}
use lib.ListN.{length}
use Rattle.characters.specs.declared.Cursor.{Cursor}
use Rattle.characters.specs.declared.Step.{Step}
use Rattle.characters.specs.declared.Step.TheVariants.{Character, IllFormed, End}
use Rattle.characters.specs.Utf8.{is_surrogate, step_at, chars_from, well_formed_from}
use Rattle.characters.proofs.Steps.{step_advances, step_ill_formed, step_end}
use Rattle.characters.proofs.Folds.{Stopped, ill_formed_stopped, end_stopped, stopped_cases, chars-character, chars_stopped, well_formed-character, well_formed_stopped, well_formed_past}
use Rattle.mapping.specs.declared.Entry.{Entry}
use Rattle.mapping.specs.declared.Entry.TheVariants as entry
use Rattle.mapping.specs.Entries.{entry_at, entry_of, start_of, end_of, stop_of, stop_refusal}
use Rattle.mapping.specs.Mapping.{scalars_from, from_to, spelled}

-- ---- `stop`, `stop_refusal` and `entry_at`: a law for each way out, where x, y and z are the steps one after another

-- the `else` of `stop`: anything but an ill-formed sequence
pub stop_end : (x : Step) → (x ≡ IllFormed → ⊥) → entry.End ≡ stop_of x
unfolding stop_of
stop_end (Character ch c) t = refl
stop_end IllFormed t = absurd (t refl)
stop_end End t = refl

pub stop_ill_formed : (x : Step) → x ≡ IllFormed → entry.IllFormed ≡ stop_of x
unfolding stop_of
stop_ill_formed x q = rw q

-- the `else` of `stop_refusal`: anything but the end
pub refusal_ill_formed : (x : Entry) (count : ℕ) → (x ≡ entry.End → ⊥) → 7 ≡ stop_refusal x count
unfolding stop_refusal
refusal_ill_formed (entry.Range start end c) count t = refl
refusal_ill_formed entry.IllFormed count t = refl
refusal_ill_formed entry.End count t = absurd (t refl)

module _ (x : Entry) (count : ℕ) (q : x ≡ entry.End) where
  pub refusal_none : count ≤ 65_536 → 0 ≡ stop_refusal x count
  unfolding stop_refusal
  refusal_none h = rw (q, le-leb count 65_536 h)

  pub refusal_limit : 65_536 < count → 8 ≡ stop_refusal x count
  unfolding stop_refusal
  refusal_limit h = rw (q, lt-leb count 65_536 h)

stop_is : (of : Step → Entry) → of IllFormed ≡ entry.IllFormed → of End ≡ entry.End → (x : Step) → Stopped x → stop_of x ≡ of x
unfolding stop_of
stop_is of e f x t = ⊎_elim (λ q. rw q (sym e)) (λ q. rw q (sym f)) (stopped_cases x t)

module _ (s : List ℕ) (at : ℕ) {x : Step} (e : x ≡ step_at s at) where
  pub first_stopped : (r : Entry) → Stopped x → r ≡ stop_of x → r ≡ entry_at s at
  unfolding entry_of
  first_stopped r t q = q ∙ stop_is (entry_of s) refl refl x t ∙ ap (entry_of s) e

  pub single : {ch : ℕ} {c : Cursor} → x ≡ Character ch c → (ch ≡ 0 → ⊥) → entry.Range ch ch c ≡ entry_at s at
  unfolding entry_of
  single {ch} {c} q n = by ch n ∙ ap (entry_of s) (sym q ∙ e)
    where
      by : (ch : ℕ) → (ch ≡ 0 → ⊥) → entry.Range ch ch c ≡ entry_of s (Character ch c)
      by zero n = absurd (n refl)
      by (suc ch) n = refl

  module _ {ch : ℕ} {c : Cursor} (q : x ≡ Character ch c) (z : ch ≡ 0) {y : Step} (f : y ≡ step_at s c.at) where
    second-entry : start_of s y ≡ entry_at s at
    unfolding entry_of
    second-entry = rw (sym e ∙ q, z, f)

    pub second_stopped : (r : Entry) → Stopped y → r ≡ stop_of y → r ≡ entry_at s at
    unfolding start_of
    second_stopped r t p = p ∙ stop_is (start_of s) refl refl y t ∙ second-entry

    module _ {start : ℕ} {d : Cursor} (p : y ≡ Character start d) {w : Step} (g : w ≡ step_at s d.at) where
      third-entry : end_of start w ≡ entry_at s at
      unfolding start_of
      third-entry = sym (rw (p, g)) ∙ second-entry

      pub third_stopped : (r : Entry) → Stopped w → r ≡ stop_of w → r ≡ entry_at s at
      unfolding end_of
      third_stopped r t o = o ∙ stop_is (end_of start) refl refl w t ∙ third-entry

      pub range_entry : {end : ℕ} {l : Cursor} → w ≡ Character end l → entry.Range start end l ≡ entry_at s at
      unfolding end_of
      range_entry o = ap (end_of start) (sym o) ∙ third-entry

-- ---- what an entry says

-- a range: it is spelled, and what comes after it begins at c
pub record Ranges (s : List ℕ) (at start end : ℕ) (c : Cursor) : Type 0 where
  pub forward : at < c.at
  pub within : c.at ≤ length s
  pub end_in_range : end ≤ 0x10FFFF
  pub well_formed_lem : well_formed_from s at ≡ well_formed_from s c.at
  pub spells : spelled (chars_from s at) ≡ from_to start end ++ spelled (chars_from s c.at)

-- no range: the list stops
pub record Stops (s : List ℕ) (at : ℕ) (w : Bool) : Type 0 where
  pub well_formed_lem : well_formed_from s at ≡ w
  pub spells : spelled (chars_from s at) ≡ []

abbrev Says : List ℕ → ℕ → Entry → Type 0
Says s at (entry.Range start end c) = Ranges s at start end c
Says s at entry.IllFormed = Stops s at false
Says s at entry.End = Stops s at true

spelled_single : (ch : ℕ) (rest : List ℕ) → is_surrogate (suc ch) ≡ false → spelled (suc ch ∷ rest) ≡ from_to (suc ch) (suc ch) ++ spelled rest
unfolding spelled scalars_from
spelled_single ch rest p = let e : suc (suc ch) - suc ch ≡ 1 = omega arith in rw (e, p)

spelled_range : (start end : ℕ) (rest : List ℕ) → spelled (0 ∷ start ∷ end ∷ rest) ≡ from_to start end ++ spelled rest
unfolding spelled
spelled_range start end rest = refl

spelled_lacks : (start : ℕ) → spelled (0 ∷ start ∷ []) ≡ []
unfolding spelled
spelled_lacks start = refl

-- the `else` of a `let Entry::Range(..) = .. else`
abbrev pub StoppedEntry : Entry → Type 0
StoppedEntry x = (start end : ℕ) (c : Cursor) → x ≡ entry.Range start end c → ⊥

pub stopped_entry : (x : Entry) → StoppedEntry x → (x ≡ entry.IllFormed) ⊎ (x ≡ entry.End)
stopped_entry (entry.Range start end c) t = absurd (t start end c refl)
stopped_entry entry.IllFormed t = inl refl
stopped_entry entry.End t = inr refl

module _ (s : List ℕ) where
  Halts : ℕ → Bool → Type 0
  Halts at w = (well_formed_from s at ≡ w) × (chars_from s at ≡ [])

  ill-formed-halts : (at : ℕ) → IllFormed ≡ step_at s at → Halts at false
  unfolding Halts
  ill-formed-halts at e = (well_formed_stopped s at e ill_formed_stopped (step_ill_formed s at e refl), chars_stopped s at e ill_formed_stopped)

  end-halts : (at : ℕ) → End ≡ step_at s at → Halts at true
  unfolding Halts
  end-halts at e = (well_formed_past s at (step_end s at e refl), chars_stopped s at e end_stopped)

  first-halts : (at : ℕ) (w : Bool) → Halts at w → Stops s at w
  unfolding Halts spelled
  first-halts at w h = record { well_formed_lem = h.0; spells = rw h.1 }

  module _ (at : ℕ) (c : Cursor) (e : Character 0 c ≡ step_at s at) where
    second-halts : (w : Bool) → Halts c.at w → Stops s at w
    unfolding Halts spelled
    second-halts w h = record {
      well_formed_lem = well_formed-character s at e refl ∙ h.0;
      spells = rw (chars-character s at e refl, h.1);
    }

    module _ (start : ℕ) (d : Cursor) (f : Character start d ≡ step_at s c.at) where
      third-halts : (w : Bool) → Halts d.at w → Stops s at w
      unfolding Halts
      third-halts w h = record {
        well_formed_lem = well_formed-character s at e refl ∙ well_formed-character s c.at f refl ∙ h.0;
        spells = rw (chars-character s at e refl, chars-character s c.at f refl, h.1) (spelled_lacks start);
      }

      third-says : (z : Step) → z ≡ step_at s d.at → Says s at (end_of start z)
      unfolding end_of
      third-says (Character end l) g =
          let a = step_advances s at e refl in
          let a' = step_advances s c.at f refl in
          let a'' = step_advances s d.at g refl in
          record {
            forward = omega arith;
            within = a''.within;
            end_in_range = a''.is_scalar.in_range_lem;
            well_formed_lem = well_formed-character s at e refl ∙ well_formed-character s c.at f refl ∙ well_formed-character s d.at g refl;
            spells = rw (chars-character s at e refl, chars-character s c.at f refl, chars-character s d.at g refl) (spelled_range start end _);
          }
      third-says IllFormed g = third-halts false (ill-formed-halts d.at g)
      third-says End g = third-halts true (end-halts d.at g)

    second-says : (y : Step) → y ≡ step_at s c.at → Says s at (start_of s y)
    unfolding start_of
    second-says (Character start d) f = third-says start d f (step_at s d.at) refl
    second-says IllFormed f = second-halts false (ill-formed-halts c.at f)
    second-says End f = second-halts true (end-halts c.at f)

  first_says : (at : ℕ) (x : Step) → x ≡ step_at s at → Says s at (entry_of s x)
  unfolding entry_of
  first_says at (Character (suc ch) c) e =
      let a = step_advances s at e refl in
      record {
        forward = a.forward;
        within = a.within;
        end_in_range = a.is_scalar.in_range_lem;
        well_formed_lem = well_formed-character s at e refl;
        spells = rw (chars-character s at e refl) (spelled_single ch _ a.is_scalar.no_surrogate);
      }
  first_says at (Character zero c) e = second-says at c e (step_at s c.at) refl
  first_says at IllFormed e = first-halts at false (ill-formed-halts at e)
  first_says at End e = first-halts at true (end-halts at e)

  module _ (at : ℕ) {x : Entry} (e : x ≡ entry_at s at) where
    pub entry_range : {start end : ℕ} {c : Cursor} → x ≡ entry.Range start end c → Ranges s at start end c
    entry_range q = rw (sym e ∙ q) at (first_says at (step_at s at) refl)

    pub entry_ill_formed : x ≡ entry.IllFormed → Stops s at false
    entry_ill_formed q = rw (sym e ∙ q) at (first_says at (step_at s at) refl)

    pub entry_end : x ≡ entry.End → Stops s at true
    entry_end q = rw (sym e ∙ q) at (first_says at (step_at s at) refl)

    -- the `else` of a `let Entry::Range(..) = .. else`
    pub entry_stopped : StoppedEntry x → spelled (chars_from s at) ≡ []
    entry_stopped t = ⊎_elim (λ q. (entry_ill_formed q).spells) (λ q. (entry_end q).spells) (stopped_entry x t)
