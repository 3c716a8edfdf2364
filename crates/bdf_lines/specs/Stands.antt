-- Numbers at the head of a text, up to a byte, and the words up to a feed. Assumes nothing.
-- Serves contracts: nothing here has to be believed.
use Rattle.std.specs.Prelude.{ℕ, ◌≡◌, Bool, true, not, ◌&&◌, ◌||◌, List, [], ◌∷◌, ◌++◌, map, Some, eqb, ltb}
use Rattle.bdf_lines.specs.declared.values.Number.{Number}
use Rattle.bdf_lines.specs.Words.{words, digits_of, number_of}

-- ---- numbers

-- digits, and the byte `stop` before the rest
pub record IsDigits (text : List ℕ) (minus : Bool) (stop : ℕ) (n : Number) (rest : List ℕ) : Type 0 where
  pub word : List ℕ
  pub number : digits_of minus word ≡ Some n
  pub here : text ≡ word ++ (stop ∷ rest)

-- a number, and the byte `stop` before the rest
pub record IsNumber (text : List ℕ) (stop : ℕ) (n : Number) (rest : List ℕ) : Type 0 where
  pub word : List ℕ
  pub number : number_of word ≡ Some n
  pub here : text ≡ word ++ (stop ∷ rest)

-- ---- words up to a feed

-- bytes without feeds and returns
unfoldable pub is_clear : List ℕ → Bool
is_clear [] = true
is_clear (b ∷ s) = not (eqb b 0x0A || eqb b 0x0D) && is_clear s

-- bytes of a word: above the blank
unfoldable pub is_plain : List ℕ → Bool
is_plain [] = true
is_plain (b ∷ s) = ltb 0x20 b && is_plain s

-- the words ws, and a feed before the rest
pub record Spells (text : List ℕ) (ws : List (List ℕ)) (rest : List ℕ) : Type 0 where
  pub line : List ℕ
  pub clear : is_clear line ≡ true
  pub here : text ≡ line ++ (0x0A ∷ rest)
  pub are : words line ≡ ws

-- words that are the numbers ns, and a feed before the rest
pub record SpellsNumbers (text : List ℕ) (ns : List Number) (rest : List ℕ) : Type 0 where
  pub ws : List (List ℕ)
  pub spells : Spells text ws rest
  pub numbers : map number_of ws ≡ map Some ns

-- two numbers after given bytes
pub record TwoAfter (text name rest : List ℕ) : Type 0 where
  pub first : Number
  pub second : Number
  pub behind : List ℕ
  pub here : text ≡ name ++ behind
  pub are : SpellsNumbers behind (first ∷ second ∷ []) rest
