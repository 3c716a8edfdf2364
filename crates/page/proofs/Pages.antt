-- Laws of the page writer: digits, the page's length, and bytes stored one run after another. Assumes nothing.
use Prim.Native.Nat.{ℕ, suc, ◌+◌, ◌/◌, ◌%◌, ◌≤◌, ◌<◌}
use native.Mathlib.Nat.{add-zero, zero-add, add-suc, suc-add}
use native.Mathlib.Omega.{arith}
use native.Mathlib.Decide.{dec_lt}
use mathlib.Core.Path.{◌≡◌, refl, sym, ap, ◌∙◌}
use mathlib.Core.List.{List, [], ◌∷◌, ◌++◌}
use lib.ListN.{length, set, drop, length-append}
use lib.Seq.{sets, sets-eq}
use borrow.Author.Tests.{lt-ltb, le-ltb}
use Rattle.page.specs.Page.{digits, page_header}
use Rattle.page.specs.Room.{HeaderFits, PageFits}

-- ---- digits

digits_one : (n a : ℕ) → n < 10 → a ≡ 0x30 + n % 10 → digits n ≡ a ∷ []
unfolding digits
digits_one n a h ea = let e : n % 10 ≡ n = omega arith in rw (lt-ltb n 10 h, ea, e)

digits-two : (n a b : ℕ) → 10 ≤ n → n < 100 → a ≡ 0x30 + n / 10 % 10 → b ≡ 0x30 + n % 10 → digits n ≡ a ∷ b ∷ []
unfolding digits
digits-two n a b g h ea eb = let e : n / 10 % 10 ≡ n / 10 = omega arith in rw (le-ltb n 10 g, lt-ltb n 100 h, ea, eb, e)

digits-three : (n a b c : ℕ) → 100 ≤ n → a ≡ 0x30 + n / 100 → b ≡ 0x30 + n / 10 % 10 → c ≡ 0x30 + n % 10 → digits n ≡ a ∷ b ∷ c ∷ []
unfolding digits
digits-three n a b c h ea eb ec = let g : 10 ≤ n = omega arith in rw (le-ltb n 10 g, le-ltb n 100 h, ea, eb, ec)

pub length_digits_one : (n : ℕ) → n < 10 → 1 ≡ length (digits n)
length_digits_one n h = sym (ap length (digits_one n _ h refl))

pub length_digits_two : (n : ℕ) → 10 ≤ n → n < 100 → 2 ≡ length (digits n)
length_digits_two n g h = sym (ap length (digits-two n _ _ g h refl refl))

pub length_digits_three : (n : ℕ) → 100 ≤ n → 3 ≡ length (digits n)
length_digits_three n h = sym (ap length (digits-three n _ _ _ h refl refl refl))

pub length_digits_le : (n : ℕ) → length (digits n) ≤ 3
length_digits_le n =
    elim (dec_lt n 10) [
      | yes h ↦ omega (arith, length_digits_one n h)
      | no g ↦ elim (dec_lt n 100) [ yes h ↦ omega (arith, length_digits_two n (omega arith) h) | no h ↦ omega (arith, length_digits_three n (omega arith)) ]
    ]

pub length-page : (w h : ℕ) (frame : List ℕ) → length (page_header w h ++ frame) ≡ 9 + length (digits w) + length (digits h) + length frame
unfolding page_header
length-page w h frame = simp length-append (omega arith)

pub length_page_le : (w h : ℕ) (frame : List ℕ) → length (page_header w h ++ frame) ≤ 15 + length frame
length_page_le w h frame = omega (arith, length-page w h frame, length_digits_le w, length_digits_le h)

pub header_fits : (w h : ℕ) (frame output : List ℕ) → PageFits w h frame output → HeaderFits w h output
header_fits w h frame output p = record { width = p.width; height = p.height; room = omega (arith, length-page w h frame) }

pub greys_fit : (w h at : ℕ) (frame output l : List ℕ) → PageFits w h frame output → length l ≡ length output → at ≡ length (page_header w h) → at + length frame ≤ length l
greys_fit w h at frame output l p e a = omega (arith, length-append (page_header w h) frame)

-- ---- bytes stored one run after another

sets_append : (xs ys l : List ℕ) (i : ℕ) → sets (sets l i xs) (i + length xs) ys ≡ sets l i (xs ++ ys)
sets_append [] ys l i = rw add-zero
sets_append (x ∷ xs) ys l i = rw (add-suc i (length xs), ← suc-add i (length xs)) (sets_append xs ys (set l i x) (suc i))

-- out is l with the bytes stored from an offset on, and r the offset after them
abbrev pub Stored : List ℕ → ℕ → List ℕ → List ℕ → ℕ → Type 0
Stored l at bytes out r = (out ≡ sets l at bytes) × (r ≡ at + length bytes)

module _ (l out : List ℕ) (n at r : ℕ) where
  pub stored_one : (a : ℕ) → n < 10 → a ≡ 0x30 + n % 10 → Stored l at (a ∷ []) out r → Stored l at (digits n) out r
  stored_one a h ea s = rw (digits_one n a h ea) s

  pub stored-two : (a b : ℕ) → 10 ≤ n → n < 100 → a ≡ 0x30 + n / 10 % 10 → b ≡ 0x30 + n % 10 → Stored l at (a ∷ b ∷ []) out r → Stored l at (digits n) out r
  stored-two a b g h ea eb s = rw (digits-two n a b g h ea eb) s

  pub stored-three : (a b c : ℕ) → 100 ≤ n → a ≡ 0x30 + n / 100 → b ≡ 0x30 + n / 10 % 10 → c ≡ 0x30 + n % 10 → Stored l at (a ∷ b ∷ c ∷ []) out r → Stored l at (digits n) out r
  stored-three a b c h ea eb ec s = rw (digits-three n a b c h ea eb ec) s

-- out is l with the bytes at its head, and r their number
abbrev pub AtHead : List ℕ → List ℕ → List ℕ → ℕ → Type 0
AtHead l bytes out r = (out ≡ sets l 0 bytes) × (r ≡ length bytes)

head_next : (xs ys l out out' : List ℕ) (at r : ℕ) → AtHead l xs out at → Stored out at ys out' r → AtHead l (xs ++ ys) out' r
head_next xs ys l out out' at r p q = (q.0 ∙ rw (p.0, p.1) (rw (zero-add (length xs)) at (sets_append xs ys l 0)), q.1 ∙ rw (p.1, length-append xs ys))

pub header_written : (w h : ℕ) (l o₁ o₂ o₃ o₄ o₅ : List ℕ) (r₁ r₂ r₃ r₄ r₅ : ℕ) → AtHead l (0x50 ∷ 0x35 ∷ 0x0A ∷ []) o₁ r₁ → Stored o₁ r₁ (digits w) o₂ r₂ → Stored o₂ r₂ (0x20 ∷ []) o₃ r₃
    → Stored o₃ r₃ (digits h) o₄ r₄ → Stored o₄ r₄ (0x0A ∷ 0x32 ∷ 0x35 ∷ 0x35 ∷ 0x0A ∷ []) o₅ r₅ → AtHead l (page_header w h) o₅ r₅
unfolding page_header
header_written w h l o₁ o₂ o₃ o₄ o₅ r₁ r₂ r₃ r₄ r₅ s₁ s₂ s₃ s₄ s₅ =
    let x₁ : List ℕ = 0x50 ∷ 0x35 ∷ 0x0A ∷ [] in
    let x₂ : List ℕ = x₁ ++ digits w in
    let x₃ : List ℕ = x₂ ++ (0x20 ∷ []) in
    let p₂ = head_next x₁ (digits w) l o₁ o₂ r₁ r₂ s₁ s₂ in
    let p₃ = head_next x₂ (0x20 ∷ []) l o₂ o₃ r₂ r₃ p₂ s₃ in
    let p₄ = head_next x₃ (digits h) l o₃ o₄ r₃ r₄ p₃ s₄ in
    head_next (x₃ ++ digits h) (0x0A ∷ 0x32 ∷ 0x35 ∷ 0x35 ∷ 0x0A ∷ []) l o₄ o₅ r₄ r₅ p₄ s₅

pub page-written : (w h : ℕ) (frame l out out' : List ℕ) (at r : ℕ) → PageFits w h frame l → AtHead l (page_header w h) out at → Stored out at frame out' r
    → (out' ≡ (page_header w h ++ frame) ++ drop (length (page_header w h ++ frame)) l) × (r ≡ length (page_header w h ++ frame))
page-written w h frame l out out' at r fits p q =
    let s = head_next (page_header w h) frame l out out' at r p q in
    (s.0 ∙ sets-eq (page_header w h ++ frame) l 0 (omega arith) ∙ rw zero-add, s.1)
