-- UTF-8 by RFC 3629: what stands at a position of a list of bytes, the characters of a text, and whether it is well-formed.
-- Assumes nothing.
-- To be believed: it says what a sheet means.
use Rattle.std.specs.Prelude.{ℕ, zero, suc, ◌+◌, ◌-◌, ◌*◌, ◌%◌, List, [], ◌∷◌, Bool, true, false, not, cond, ◌&&◌, length, get_or, ltb, leb, eqb}
use Rattle.characters.specs.declared.Step.{Step}
use Rattle.characters.specs.declared.Step.TheVariants.{Character, IllFormed, End}

-- the ones at the head of a byte: 0xxxxxxx, 10xxxxxx, 110xxxxx, 1110xxxx, 11110xxx, ..
unfoldable pub leading_ones : ℕ → ℕ
leading_ones b =
    cond (ltb b 0x80) 0
    (cond (ltb b 0xC0) 1
    (cond (ltb b 0xE0) 2
    (cond (ltb b 0xF0) 3
    (cond (ltb b 0xF8) 4
    (cond (ltb b 0xFC) 5
    (cond (ltb b 0xFE) 6
    (cond (ltb b 0xFF) 7 8)))))))

-- a byte that continues a sequence: 10xxxxxx
unfoldable pub is_continuation : ℕ → Bool
is_continuation b = leb 0x80 b && ltb b 0xC0

-- RFC 3629, section 3: "prohibits encoding character numbers between U+D800 and U+DFFF"
unfoldable pub is_surrogate : ℕ → Bool
is_surrogate v = leb 0xD800 v && ltb v 0xE000

-- the number v of a sequence that ends at `next`, if it is no overlong form of its length, no surrogate and not above 10FFFF
unfoldable pub scalar : ℕ → ℕ → ℕ → Step
scalar v least next = cond (leb least v && (not (is_surrogate v) && leb v 0x10FFFF)) (Character v (record { at = next })) IllFormed

-- the sequences of 2, 3 and 4 bytes of RFC 3629, section 3
unfoldable pub two : ℕ → ℕ → ℕ → Step
two a b next = cond (is_continuation b) (scalar (a % 32 * 64 + b % 64) 0x80 next) IllFormed

unfoldable pub three : ℕ → ℕ → ℕ → ℕ → Step
three a b c next =
    cond (is_continuation b && is_continuation c) (scalar (a % 16 * 4_096 + b % 64 * 64 + c % 64) 0x800 next) IllFormed

unfoldable pub four : ℕ → ℕ → ℕ → ℕ → ℕ → Step
four a b c d next =
    cond (is_continuation b && (is_continuation c && is_continuation d))
    (scalar (a % 8 * 262_144 + b % 64 * 4_096 + c % 64 * 64 + d % 64) 0x10000 next)
    IllFormed

-- "the lead byte below 80 stands alone, otherwise its leading ones give the length of the sequence, 2 to 4"; n is their number
unfoldable pub sequence : ℕ → List ℕ → ℕ → Step
sequence n s at =
    cond (eqb n 0) (Character (get_or s at 0) (record { at = at + 1 }))
    (cond (ltb (length s - at) n) IllFormed
    (cond (eqb n 2) (two (get_or s at 0) (get_or s (at + 1) 0) (at + 2))
    (cond (eqb n 3) (three (get_or s at 0) (get_or s (at + 1) 0) (get_or s (at + 2) 0) (at + 3))
    (cond (eqb n 4) (four (get_or s at 0) (get_or s (at + 1) 0) (get_or s (at + 2) 0) (get_or s (at + 3) 0) (at + 4))
    IllFormed))))

-- what stands at a position
unfoldable pub step_at : List ℕ → ℕ → Step
step_at s at = cond (ltb at (length s)) (sequence (leading_ones (get_or s at 0)) s at) End

-- a walk from a step on, at most k steps: f at each character, `ill` where a sequence is not allowed, `end` at the end
unfoldable pub fold_by : {A : Type 0} → (ℕ → A → A) → A → A → ℕ → List ℕ → Step → A
fold_by f ill end zero s x = end
fold_by f ill end (suc k) s (Character ch c) = f ch (fold_by f ill end k s (step_at s c.at))
fold_by f ill end (suc k) s IllFormed = ill
fold_by f ill end (suc k) s End = end

-- the walk from a position to the end or to what is ill-formed: each step goes forward, so there are steps enough
unfoldable pub fold_at : {A : Type 0} → (ℕ → A → A) → A → A → List ℕ → ℕ → A
fold_at f ill end s at = fold_by f ill end (suc (length s)) s (step_at s at)

-- the characters from a position, up to the end or to what is ill-formed
unfoldable pub chars_from : List ℕ → ℕ → List ℕ
chars_from = fold_at ◌∷◌ [] []

unfoldable pub well_formed_from : List ℕ → ℕ → Bool
well_formed_from = fold_at (λ ch rest. rest) false true

-- the characters of a text, as Rust's `str::chars`
abbrev pub chars : List ℕ → List ℕ
chars s = chars_from s 0

-- whether the walk over a text meets no sequence that RFC 3629 does not allow
abbrev pub well_formed : List ℕ → Bool
well_formed s = well_formed_from s 0
