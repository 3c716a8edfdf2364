-- Laws of the usual forms of a glyph's lines: words that stand in a file up to a feed are the words of a line. Assumes nothing.
use Prim.Native.Nat.{ℕ, zero, suc, ◌+◌, ◌-◌, ◌≤◌, ◌<◌}
use native.Mathlib.Omega.{arith}
use mathlib.Core.Path.{◌≡◌, refl, sym, ap, ◌∙◌}
use mathlib.Core.Bool.{Bool, true, false, not, cond, ◌&&◌, ◌||◌, true≢false, and-eq-true_iff}
use mathlib.Core.List.{List, [], ◌∷◌, ◌++◌, map, append-nil, append_assoc}
use lib.ListN.{length, take, drop, get_or, length-drop, length-append}
use lib.Seq.{drop-cons, drop-drop, drop-append-add, take_all}
use lib.Dec.{eqb, ltb}
use borrow.Author.Tests.{eqb-true, eq-eqb, ne_eqb, ltb-true, lt-ltb}
use denote.Ref.{Bor}
use Rattle.std.specs.Option.{MatchOption, IfSome}
use lib.Pointwise.{pointwise}
use Rattle.std.proofs.lemmas.Slice.Eq.{strip_prefix_is}
use Rattle.std.proofs.lemmas.Bool.Decides.{Decides-eqb}
use Rattle.std.specs.Prelude.{Option, Some, None}
use Rattle.characters.specs.Lines.{before, line_length, line_from, without_return}
use Rattle.characters.proofs.Feeds.{return_absent, length_to_feed}
use Rattle.bdf_lines.specs.declared.values.Number.{Number}
use Rattle.bdf_lines.specs.Words.{four, is_blank, begins_word, words, same, is_alone, is_named, is_digit, are_digits, digits_of, number_of, are_numbers, has_numbers, four_numbers, four_of, encoding_of}
use Rattle.bdf_lines.specs.Keywords.{start_char, swidth, dwidth, bitmap, end_char, encoding, bbx}
use Rattle.bdf_lines.specs.Forms.{line_at, LineBefore, UsualLine, UsualEncoding, UsualBbx}
use Rattle.bdf_lines.specs.Stands.{IsNumber, is_clear, is_plain, Spells, SpellsNumbers, TwoAfter}
use Rattle.bdf_lines.proofs.Rest.{split}
use Rattle.bdf_lines.proofs.Numbers.{digit_low}
use Rattle.bdf_lines.proofs.Stands.{not_some}

-- ---- bytes of words

-- a byte above the blank
module _ (b : ℕ) (h : 0x20 < b) where
  above-no-blank : is_blank b ≡ false
  unfolding is_blank
  above-no-blank = rw (ne_eqb b 0x20 (λ e. omega arith), ne_eqb b 0x09 (λ e. omega arith))

  above-clear : not (eqb b 0x0A || eqb b 0x0D) ≡ true
  above-clear = rw (ne_eqb b 0x0A (λ e. omega arith), ne_eqb b 0x0D (λ e. omega arith))

module _ (b : ℕ) (s : List ℕ) (e : is_plain (b ∷ s) ≡ true) where
  plain-first : 0x20 < b
  unfolding is_plain
  plain-first = ltb-true 0x20 b ((and-eq-true_iff (ltb 0x20 b) (is_plain s)).0 e).0

  plain-rest : is_plain s ≡ true
  unfolding is_plain
  plain-rest = ((and-eq-true_iff (ltb 0x20 b) (is_plain s)).0 e).1

plain_clear : (s : List ℕ) → is_plain s ≡ true → is_clear s ≡ true
unfolding is_clear
plain_clear [] e = refl
plain_clear (b ∷ s) e = rw (above-clear b (plain-first b s e), plain_clear s (plain-rest b s e))

clear_both : (s t : List ℕ) → is_clear s ≡ true → is_clear t ≡ true → is_clear (s ++ t) ≡ true
unfolding is_clear
clear_both [] t e f = f
clear_both (b ∷ s) t e f =
    let c = (and-eq-true_iff (not (eqb b 0x0A || eqb b 0x0D)) (is_clear s)).0 e in
    rw (c.0, clear_both s t c.1 f)

next_letter : (b c : ℕ) (t : List ℕ) → is_blank b ≡ false → is_blank c ≡ false → words (b ∷ c ∷ t) ≡ before b (words (c ∷ t))
unfolding words begins_word
next_letter b c t e f = rw (e, f)

-- a word, and the words after it
word_before : (b : ℕ) (w s : List ℕ) → is_plain (b ∷ w) ≡ true → begins_word s ≡ false → words ((b ∷ w) ++ s) ≡ (b ∷ w) ∷ words s
unfolding words begins_word
word_before b [] s e n = rw (above-no-blank b (plain-first b [] e), n)
word_before b (c ∷ w) s e n =
    let p = plain-rest b (c ∷ w) e in
    next_letter b c (w ++ s) (above-no-blank b (plain-first b (c ∷ w) e)) (above-no-blank c (plain-first c w p)) ∙ ap (before b) (word_before c w s p n)

-- ---- numbers are words

digits_plain : (s : List ℕ) → are_digits s ≡ true → is_plain s ≡ true
unfolding are_digits is_plain
digits_plain [] e = refl
digits_plain (b ∷ s) e =
    let c = (and-eq-true_iff (is_digit b) (are_digits s)).0 e in
    rw (lt-ltb 0x20 b (omega (arith, digit_low b c.0)), digits_plain s c.1)

digits_are : (minus : Bool) (s : List ℕ) (n : Number) → digits_of minus s ≡ Some n → are_digits s ≡ true
unfolding digits_of
digits_are minus [] n e = absurd (not_some n e)
digits_are minus (b ∷ s) n e = go _ (are_digits (b ∷ s)) e
  where
    go : (y : Option Number) (t : Bool) → cond t y None ≡ Some n → t ≡ true
    go y true q = refl
    go y false q = absurd (not_some n q)

number_plain : (w : List ℕ) (n : Number) → number_of w ≡ Some n → is_plain w ≡ true
unfolding number_of is_plain
number_plain [] n e = refl
number_plain (b ∷ s) n e = go (eqb b 0x2D) refl e
  where
    go : (t : Bool) → eqb b 0x2D ≡ t → cond t (digits_of true s) (digits_of false (b ∷ s)) ≡ Some n → (ltb 0x20 b && is_plain s) ≡ true
    go true d q = rw (eqb-true b 0x2D d, digits_plain s (digits_are true s n q))
    go false d q = digits_plain (b ∷ s) (digits_are false (b ∷ s) n q)

-- ---- words up to a feed

no_feed : (b : ℕ) → not (eqb b 0x0A || eqb b 0x0D) ≡ true → eqb b 0x0A ≡ false
no_feed b e = go (eqb b 0x0A) e
  where
    go : (t : Bool) → not (t || eqb b 0x0D) ≡ true → t ≡ false
    go true f = absurd (true≢false (sym f))
    go false f = refl

-- a line's length, and its bytes
clear_length : (t s : List ℕ) → is_clear t ≡ true → line_length (t ++ s) ≡ length t + line_length s
unfolding is_clear line_length
clear_length [] s e = omega arith
clear_length (b ∷ t) s e =
    let c = (and-eq-true_iff (not (eqb b 0x0A || eqb b 0x0D)) (is_clear t)).0 e in
    rw (no_feed b c.0) (omega (arith, clear_length t s c.1))

clear_line : (t s : List ℕ) → is_clear t ≡ true → line_from (t ++ s) 0 ≡ t ++ line_from s 0
unfolding is_clear line_from line_length
clear_line [] s e = refl
clear_line (b ∷ t) s e =
    let c = (and-eq-true_iff (not (eqb b 0x0A || eqb b 0x0D)) (is_clear t)).0 e in
    rw (no_feed b c.0) (ap (λ (l : List ℕ). b ∷ l) (clear_line t s c.1))

-- what stands behind a line and its feed
drop_behind : (t rest : List ℕ) → drop (length t + 1) (t ++ (0x0A ∷ rest)) ≡ rest
drop_behind t rest = drop-append-add t (0x0A ∷ rest) 1

clear_no_return : (t : List ℕ) → is_clear t ≡ true → (i : ℕ) → get_or t i 0 ≡ 0x0D → ⊥
unfolding is_clear
clear_no_return [] e i q = absurd (omega arith)
clear_no_return (b ∷ t) e zero q = true≢false (sym (rw (q) at ((and-eq-true_iff (not (eqb b 0x0A || eqb b 0x0D)) (is_clear t)).0 e).0))
clear_no_return (b ∷ t) e (suc i) q = clear_no_return t ((and-eq-true_iff (not (eqb b 0x0A || eqb b 0x0D)) (is_clear t)).0 e).1 i q

module _ (text rest : List ℕ) (ws : List (List ℕ)) (s : Spells text ws rest) where
  line-length : line_length text ≡ length s.line
  unfolding line_length
  line-length = rw s.here (omega (arith, clear_length s.line (0x0A ∷ rest) s.clear))

  spells-line : LineBefore text rest
  spells-line = record {
    feed = omega (arith, line-length, ap length s.here, length-append s.line (0x0A ∷ rest));
    after = rw (line-length, s.here) (sym (drop_behind s.line rest));
  }

  line_is : line_from text 0 ≡ s.line
  unfolding line_from line_length
  line_is = ap (λ (t : List ℕ). line_from t 0) s.here ∙ clear_line s.line (0x0A ∷ rest) s.clear ∙ append-nil s.line

  spells-words : words (line_at text 0) ≡ ws
  spells-words = rw (line_is, ← return_absent s.line (clear_no_return s.line s.clear (length s.line - 1))) s.are

-- ---- words one after another

-- a word before a feed
spells_last : (text rest : List ℕ) (b : ℕ) (w : List ℕ) → is_plain (b ∷ w) ≡ true → text ≡ (b ∷ w) ++ (0x0A ∷ rest) → Spells text ((b ∷ w) ∷ []) rest
unfolding words begins_word
spells_last text rest b w p e = record {
  line = b ∷ w;
  clear = plain_clear (b ∷ w) p;
  here = e;
  are = ap words (sym (append-nil (b ∷ w))) ∙ word_before b w [] p refl;
}

-- a word before a blank
spells_more : (text behind rest : List ℕ) (b : ℕ) (w : List ℕ) (ws : List (List ℕ)) → is_plain (b ∷ w) ≡ true → text ≡ (b ∷ w) ++ (0x20 ∷ behind)
    → Spells behind ws rest → Spells text ((b ∷ w) ∷ ws) rest
unfolding words begins_word is_clear is_blank
spells_more text behind rest b w ws p e s = record {
  line = (b ∷ w) ++ (0x20 ∷ s.line);
  clear = clear_both (b ∷ w) (0x20 ∷ s.line) (plain_clear (b ∷ w) p) s.clear;
  here = e ∙ ap (λ (t : List ℕ). (b ∷ w) ++ (0x20 ∷ t)) s.here ∙ sym (append_assoc (b ∷ w) (0x20 ∷ s.line) (0x0A ∷ rest));
  are = word_before b w (0x20 ∷ s.line) p refl ∙ ap (λ (vs : List (List ℕ)). (b ∷ w) ∷ vs) s.are;
}

-- ---- numbers one after another

module _ (text behind : List ℕ) (n : Number) where
  numbers-last : IsNumber text 0x0A n behind → SpellsNumbers text (n ∷ []) behind
  unfolding number_of
  numbers-last i = go i.word i.number i.here
    where
      go : (w : List ℕ) → number_of w ≡ Some n → text ≡ w ++ (0x0A ∷ behind) → SpellsNumbers text (n ∷ []) behind
      go [] e h = absurd (not_some n e)
      go (b ∷ w) e h = record { ws = (b ∷ w) ∷ []; spells = spells_last text behind b w (number_plain (b ∷ w) n e) h; numbers = ap (λ (r : Option Number). r ∷ []) e }

  numbers_more : (ns : List Number) (rest : List ℕ) → IsNumber text 0x20 n behind → SpellsNumbers behind ns rest → SpellsNumbers text (n ∷ ns) rest
  unfolding number_of
  numbers_more ns rest i s = go i.word i.number i.here
    where
      go : (w : List ℕ) → number_of w ≡ Some n → text ≡ w ++ (0x20 ∷ behind) → SpellsNumbers text (n ∷ ns) rest
      go [] e h = absurd (not_some n e)
      go (b ∷ w) e h = record {
        ws = (b ∷ w) ∷ s.ws;
        spells = spells_more text behind rest b w s.ws (number_plain (b ∷ w) n e) h s.spells;
        numbers = ap (λ (r : Option Number). r ∷ map number_of s.ws) e ∙ ap (λ (rs : List (Option Number)). Some n ∷ rs) s.numbers;
      }

-- ---- a keyword, and what stands after it

same_word : (w : List ℕ) → same w w ≡ true
unfolding same
same_word [] = refl
same_word (b ∷ w) = rw (eq-eqb b b refl, same_word w)

-- a keyword before a blank
after_keyword : (text behind rest : List ℕ) (b : ℕ) (k : List ℕ) (ws : List (List ℕ)) → is_plain (b ∷ k) ≡ true → text ≡ ((b ∷ k) ++ (0x20 ∷ [])) ++ behind
    → Spells behind ws rest → Spells text ((b ∷ k) ∷ ws) rest
after_keyword text behind rest b k ws p t s = spells_more text behind rest b k ws p (t ∙ append_assoc (b ∷ k) (0x20 ∷ []) behind) s

-- a keyword before a feed
keyword_alone : (text rest : List ℕ) (b : ℕ) (k : List ℕ) → is_plain (b ∷ k) ≡ true → text ≡ ((b ∷ k) ++ (0x0A ∷ [])) ++ rest → Spells text ((b ∷ k) ∷ []) rest
keyword_alone text rest b k p t = spells_last text rest b k p (t ∙ append_assoc (b ∷ k) (0x0A ∷ []) rest)

-- ---- the numbers of a line of that form

two_are : (ws : List (List ℕ)) (m n : Number) → map number_of ws ≡ Some m ∷ Some n ∷ [] → are_numbers 2 ws ≡ true
unfolding are_numbers
two_are [] m n e = cc
two_are (u ∷ []) m n e = cc
two_are (u ∷ v ∷ []) m n e =
    let p : number_of u ≡ Some m = cc in
    let q : number_of v ≡ Some n = cc in
    rw (p, q)
two_are (u ∷ v ∷ w ∷ ws) m n e = cc

four_are : (ws : List (List ℕ)) (a b c d : Number) → map number_of ws ≡ Some a ∷ Some b ∷ Some c ∷ Some d ∷ [] → four_numbers ws ≡ Some (four a b c d)
unfolding four_numbers
four_are [] a b c d e = cc
four_are (u ∷ []) a b c d e = cc
four_are (u ∷ v ∷ []) a b c d e = cc
four_are (u ∷ v ∷ w ∷ []) a b c d e = cc
four_are (u ∷ v ∷ w ∷ x ∷ []) a b c d e =
    let p : number_of u ≡ Some a = cc in
    let q : number_of v ≡ Some b = cc in
    let r : number_of w ≡ Some c = cc in
    let s : number_of x ≡ Some d = cc in
    rw (p, q, r, s)
four_are (u ∷ v ∷ w ∷ x ∷ y ∷ ws) a b c d e = cc

one_is : (k : List ℕ) (ws : List (List ℕ)) (n : Number) → map number_of ws ≡ Some n ∷ [] → encoding_of k (k ∷ ws) ≡ Some n
unfolding encoding_of
one_is k [] n e = cc
one_is k (u ∷ []) n e =
    let p : number_of u ≡ Some n = cc in
    rw (same_word k, p)
one_is k (u ∷ v ∷ ws) n e = cc

-- ---- a name after its keyword

abbrev named : ℕ → List ℕ → List ℕ
named b l = start_char ++ (0x20 ∷ b ∷ l)

module _ (b : ℕ) (h : 0x20 < b) where
  -- a name's first byte is all that it takes
  named-words : (l : List ℕ) → is_named start_char (words (named b l)) ≡ true
  unfolding is_plain is_named begins_word is_blank words
  named-words l =
      let begins : begins_word (b ∷ l) ≡ true = rw (above-no-blank b h) in
      let first : words (named b l) ≡ start_char ∷ words (b ∷ l) = word_before _ _ (0x20 ∷ b ∷ l) refl refl in
      ap (is_named start_char) (first ∙ ap (λ (ws : List (List ℕ)). start_char ∷ ws) (split (b ∷ l) begins)) ∙ same_word start_char

  -- and that byte is no return
  named_line : (l : List ℕ) → is_named start_char (words (without_return (named b l))) ≡ true
  unfolding without_return
  named_line [] = rw (← return_absent (named b []) (λ e. omega arith)) (named-words [])
  named_line (c ∷ l) = go (eqb (get_or (named b (c ∷ l)) (length (named b (c ∷ l)) - 1) 0) 0x0D)
    where
      go : (t : Bool) → is_named start_char (words (cond t (take (length (named b (c ∷ l)) - 1) (named b (c ∷ l))) (named b (c ∷ l)))) ≡ true
      go true = let q : length (named b (c ∷ l)) - 1 ≡ length (named b l) = omega arith in rw q (named-words (take (length l) (c ∷ l)))
      go false = named-words (c ∷ l)

  named-clear : is_clear (named b []) ≡ true
  unfolding is_clear
  named-clear = rw (above-clear b h)

start_clear : is_clear (start_char ++ (0x20 ∷ [])) ≡ true
unfolding is_clear
start_clear = refl

-- ---- `strip_prefix`

-- what it says of the rest
pub stripped : (text bytes : List ℕ) (r : Bor (List ℕ))
    → (pointwise eqb (take (length bytes) text) bytes ≡ true) × (r.now ≡ drop (length bytes) text) × (length r.now + length bytes ≡ length text) → text ≡ bytes ++ r.now
stripped text bytes r e = strip_prefix_is Decides-eqb text bytes (Some r) e

-- what follows from what a clause says of the value, if there is one
pub on_value : {X : Type 0} (x : Option X) (P : Type 0) (Q : X → Type 0) {R : X → Type 0} → MatchOption x P Q → ((y : X) → Q y → R y) → IfSome x R
on_value None P Q e f = tt
on_value (Some y) P Q e f = f y e

-- ---- `split_line`

module _ (text line : List ℕ) (n : ℕ) (e : n ≡ line_length text) where
  pub line_first : line ≡ take n text → line ≡ line_from text 0
  unfolding line_from
  line_first d = rw (d, e)

  pub line_within : n ≤ length text
  line_within = omega (arith, length_to_feed text)

  -- what stands from the line's end on, and the rest after its feed
  module _ (behind : List ℕ) (d : behind ≡ drop n text) where
    pub line_before : (rest : List ℕ) → 1 ≤ length behind → rest ≡ take (length behind - 1) (drop 1 behind) → LineBefore text rest
    line_before rest h f = record {
      feed = omega (arith, ap length d, length-drop n text);
      after =
          let ahead : drop 1 behind ≡ drop (line_length text + 1) text = rw (d, e) (drop-drop 1 (line_length text) text) in
          f ∙ take_all (length behind - 1) (drop 1 behind) (omega (arith, length-drop 1 behind)) ∙ ahead;
    }

-- ---- `two_numbers`, `scalable_width`, `device_width`

module _ (text : List ℕ) where
  pub two_after : (name behind rest last : List ℕ) (m n : Number) → text ≡ name ++ behind → IsNumber behind 0x20 m last → IsNumber last 0x0A n rest → TwoAfter text name rest
  two_after name behind rest last m n e f g = record {
    first = m;
    second = n;
    behind = behind;
    here = e;
    are = numbers_more behind last m (n ∷ []) rest f (numbers-last last rest n g);
  }

  module _ (rest : List ℕ) where
    two_found : (b : ℕ) (k : List ℕ) → is_plain (b ∷ k) ≡ true → TwoAfter text ((b ∷ k) ++ (0x20 ∷ [])) rest → UsualLine text (has_numbers (b ∷ k) 2) rest
    unfolding has_numbers
    two_found b k p t =
        let s = after_keyword text t.behind rest b k t.are.ws p t.here t.are.spells in
        record {
          line = spells-line text rest ((b ∷ k) ∷ t.are.ws) s;
          passes = rw (spells-words text rest ((b ∷ k) ∷ t.are.ws) s, same_word (b ∷ k)) (two_are t.are.ws t.first t.second t.are.numbers);
        }

    pub scalable_found : TwoAfter text (swidth ++ (0x20 ∷ [])) rest → UsualLine text (has_numbers swidth 2) rest
    unfolding is_plain
    scalable_found = two_found _ _ refl

    pub device_found : TwoAfter text (dwidth ++ (0x20 ∷ [])) rest → UsualLine text (has_numbers dwidth 2) rest
    unfolding is_plain
    device_found = two_found _ _ refl

    -- ---- `bitmap_alone`, `end_char`

    alone-found : (b : ℕ) (k : List ℕ) → is_plain (b ∷ k) ≡ true → text ≡ ((b ∷ k) ++ (0x0A ∷ [])) ++ rest → UsualLine text (is_alone (b ∷ k)) rest
    unfolding is_alone
    alone-found b k p e =
        let s = keyword_alone text rest b k p e in
        record { line = spells-line text rest ((b ∷ k) ∷ []) s; passes = rw (spells-words text rest ((b ∷ k) ∷ []) s) (same_word (b ∷ k)) }

    pub bitmap_found : text ≡ (bitmap ++ (0x0A ∷ [])) ++ rest → UsualLine text (is_alone bitmap) rest
    unfolding is_plain
    bitmap_found = alone-found _ _ refl

    pub end_found : text ≡ (end_char ++ (0x0A ∷ [])) ++ rest → UsualLine text (is_alone end_char) rest
    unfolding is_plain
    end_found = alone-found _ _ refl

    -- ---- `encoding`

    pub encoding_found : (behind : List ℕ) (n : Number) → text ≡ (encoding ++ (0x20 ∷ [])) ++ behind → IsNumber behind 0x0A n rest → UsualEncoding text n rest
    unfolding is_plain
    encoding_found behind n e f =
        let s = numbers-last behind rest n f in
        let t = after_keyword text behind rest _ _ s.ws refl e s.spells in
        record { line = spells-line text rest (encoding ∷ s.ws) t; encoding = rw (spells-words text rest (encoding ∷ s.ws) t) (one_is encoding s.ws n s.numbers) }

    -- ---- `bbx`

    pub bbx_found : (l₁ l₂ l₃ l₄ : List ℕ) (a b c d : Number) → text ≡ (bbx ++ (0x20 ∷ [])) ++ l₁ → IsNumber l₁ 0x20 a l₂ → IsNumber l₂ 0x20 b l₃ → IsNumber l₃ 0x20 c l₄ → IsNumber l₄ 0x0A d rest
        → UsualBbx text (four a b c d) rest
    unfolding is_plain four_of
    bbx_found l₁ l₂ l₃ l₄ a b c d e n₁ n₂ n₃ n₄ =
        let s = numbers_more l₁ l₂ a _ rest n₁ (numbers_more l₂ l₃ b _ rest n₂ (numbers_more l₃ l₄ c _ rest n₃ (numbers-last l₄ rest d n₄))) in
        let t = after_keyword text l₁ rest _ _ s.ws refl e s.spells in
        record { line = spells-line text rest (bbx ∷ s.ws) t; bbx = rw (spells-words text rest (bbx ∷ s.ws) t, same_word bbx) (four_are s.ws a b c d s.numbers) }

  -- ---- `start_char`

  pub named_found : (name rest : List ℕ) → text ≡ (start_char ++ (0x20 ∷ [])) ++ name → 0 < length name → 0x20 < get_or name 0 0 → LineBefore name rest → UsualLine text (is_named start_char) rest
  named_found name rest e h l d =
      let b = get_or name 0 0 in
      let k : line_length text ≡ 10 + line_length name = rw e (clear_length (start_char ++ (0x20 ∷ [])) name start_clear) in
      let is : line_from text 0 ≡ named b (line_from (drop 1 name) 0)
      = ap (λ (t : List ℕ). line_from t 0) (e ∙ ap (λ (t : List ℕ). (start_char ++ (0x20 ∷ [])) ++ t) (drop-cons name 0 0 h)) ∙ clear_line (named b []) (drop 1 name) (named-clear b l) in
      record {
        line = record {
          feed = omega (arith, k, ap length e, d.feed);
          after =
              let j : line_length text + 1 ≡ 10 + (line_length name + 1) = omega (arith, k) in
              rw (j, e) (d.after ∙ sym (drop-append-add (start_char ++ (0x20 ∷ [])) name (line_length name + 1)));
        };
        passes = rw is (named_line b l (line_from (drop 1 name) 0));
      }
