-- Laws of numbers at the head of a text. Assumes nothing.
use Prim.Native.Nat.{ℕ, ◌+◌, ◌-◌, ◌*◌, ◌≤◌, ◌<◌, min}
use native.Mathlib.Omega.{arith}
use native.Mathlib.Numerals.{add-one}
use mathlib.Core.Path.{◌≡◌, refl, sym, ap, ◌∙◌}
use mathlib.Core.Bool.{Bool, true, false, not, cond, ◌&&◌, ◌||◌, or-true, true≢false, and-eq-true_iff}
use mathlib.Core.List.{List, [], ◌∷◌, ◌++◌}
use lib.ListN.{length, take, drop, get_or, length-drop, length-append}
use lib.Seq.{drop-cons, take_all}
use lib.Dec.{eqb, ltb}
use borrow.Author.Tests.{eqb-true, eq-eqb, ne_eqb}
use Rattle.std.specs.Option.{is_some}
use Rattle.std.specs.Prelude.{Some, None}
use Rattle.bdf_lines.specs.declared.values.Number.{Number}
use Rattle.bdf_lines.specs.Words.{is_digit, are_digits, decimal_from, most, signed, digits_of, number_of}
use Rattle.bdf_lines.specs.Stands.{IsDigits, IsNumber}
use Rattle.bdf_lines.proofs.Numbers.{clipped, digit_low}

pub not_some : {A : Type 0} (x : A) → None ≡ Some x → ⊥
not_some x e = true≢false (sym (ap is_some e))

-- ---- `digits_to`: a turn at position i

-- digits before `rest`, whose number is v
pub record Run (text rest : List ℕ) (v : ℕ) : Type 0 where
  pub word : List ℕ
  pub digits : are_digits word ≡ true
  pub here : text ≡ word ++ rest
  pub value : min (decimal_from 0 word) most ≡ v

-- the digits up to i give v: those from i on go on with it
pub record Running (text : List ℕ) (i v : ℕ) : Type 0 where
  pub on : (s rest : List ℕ) → are_digits s ≡ true → drop i text ≡ s ++ rest → Run text rest (min (decimal_from v s) most)

pub running_start : (text : List ℕ) → Running text 0 0
running_start text = record { on = λ s rest d e. record { word = s; digits = d; here = e; value = refl } }

pub running_again : (text : List ℕ) (i v w : ℕ) → Running text i v → i < length text → is_digit (get_or text i 0) ≡ true → w ≡ min (v * 10 + (get_or text i 0 - 0x30)) most
    → Running text (i + 1) w
unfolding are_digits decimal_from
running_again text i v w r h d q =
    let b = get_or text i 0 in
    let ahead : (s rest : List ℕ) → drop (i + 1) text ≡ s ++ rest → drop i text ≡ (b ∷ s) ++ rest
    = λ s rest e. drop-cons text i 0 h ∙ ap (λ (t : List ℕ). b ∷ t) (rw (add-one i) at e) in
    record { on = λ s rest a e. rw (q, clipped s (v * 10 + (b - 0x30))) (r.on (b ∷ s) rest (rw (d, a)) (ahead s rest e)) }

-- the number of digits, of which there are some
digits_number : (minus : Bool) (word : List ℕ) (v : ℕ) → 0 < length word → are_digits word ≡ true → min (decimal_from 0 word) most ≡ v → digits_of minus word ≡ Some (signed minus v)
unfolding digits_of
digits_number minus [] v h d e = absurd (omega arith)
digits_number minus (b ∷ s) v h d e = rw (d, e)

module _ (text : List ℕ) (minus : Bool) (stop : ℕ) where
  stops : (b i : ℕ) → (not (eqb b stop) || eqb i 0) ≡ false → b ≡ stop
  stops b i e = go (eqb b stop) refl (eqb i 0) e
    where
      go : (t : Bool) → eqb b stop ≡ t → (u : Bool) → (not t || u) ≡ false → b ≡ stop
      go true d u f = eqb-true b stop d
      go false d u f = absurd (true≢false f)

  some-digit : (b i : ℕ) → (not (eqb b stop) || eqb i 0) ≡ false → i ≡ 0 → ⊥
  some-digit b i e q = true≢false (sym (or-true (not (eqb b stop))) ∙ rw (eq-eqb i 0 q) at e)

  pub digits_found : (i v : ℕ) → Running text i v → v ≤ most → i < length text → (not (eqb (get_or text i 0) stop) || eqb i 0) ≡ false
      → (rest : List ℕ) → rest ≡ take (length text - (i + 1)) (drop (i + 1) text) → IsDigits text minus stop (record { negative = minus && ltb 0 v; size = v }) rest
  unfolding signed are_digits decimal_from
  digits_found i v r m h t rest d =
      let e = stops (get_or text i 0) i t in
      let n = some-digit (get_or text i 0) i t in
      let run = r.on [] (drop i text) refl refl in
      let clip : min v most ≡ v = omega arith in
      let long : 0 < length run.word = omega (arith, length-drop i text, ap length run.here, length-append run.word (drop i text)) in
      let is : rest ≡ drop (i + 1) text = d ∙ take_all _ _ (omega (arith, length-drop (i + 1) text)) in
      record {
        word = run.word;
        number = digits_number minus run.word v long run.digits (run.value ∙ clip);
        here = run.here ∙ ap (λ (t : List ℕ). run.word ++ t) (drop-cons text i 0 h ∙ rw (e, is, add-one i));
      }

-- ---- `number_to`

digits_first : (b : ℕ) (s : List ℕ) → are_digits (b ∷ s) ≡ true → is_digit b ≡ true
unfolding are_digits
digits_first b s e = ((and-eq-true_iff (is_digit b) (are_digits s)).0 e).0

-- digits that are a number are one without a sign
plain_number : (word : List ℕ) (n : Number) → digits_of false word ≡ Some n → number_of word ≡ Some n
unfolding digits_of number_of
plain_number [] n e = e
plain_number (b ∷ s) n e = go (are_digits (b ∷ s)) refl e
  where
    go : (u : Bool) → are_digits (b ∷ s) ≡ u → cond u (Some (signed false (min (decimal_from 0 (b ∷ s)) most))) None ≡ Some n
        → cond (eqb b 0x2D) (digits_of true s) (digits_of false (b ∷ s)) ≡ Some n
    go true a q = rw (ne_eqb b 0x2D (λ f. absurd (omega (arith, digit_low b (digits_first b s a), f)))) e
    go false a q = absurd (not_some n q)

-- a text that begins with a byte
pub first_byte : (text : List ℕ) (b : ℕ) → 1 ≤ length text → get_or text 0 0 ≡ b → text ≡ b ∷ take (length text - 1) (drop 1 text)
first_byte [] b h e = absurd (omega arith)
first_byte (c ∷ s) b h e = rw (e, take_all (length (c ∷ s) - 1) s (omega arith))

module _ (text : List ℕ) (stop : ℕ) (n : Number) (rest : List ℕ) where
  pub number_minus : (digits : List ℕ) → text ≡ 0x2D ∷ digits → IsDigits digits true stop n rest → IsNumber text stop n rest
  unfolding number_of
  number_minus digits e d = record { word = 0x2D ∷ d.word; number = d.number; here = e ∙ ap (λ (t : List ℕ). 0x2D ∷ t) d.here }

  pub number_plain : IsDigits text false stop n rest → IsNumber text stop n rest
  number_plain d = record { word = d.word; number = plain_number d.word n d.number; here = d.here }
