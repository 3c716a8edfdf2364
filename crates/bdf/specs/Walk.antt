-- A walk over the lines of a file, as its functions make it: what the whole file comes to, told from the rest of it. Assumes nothing.
-- Serves contracts: nothing here has to be believed.
use Rattle.std.specs.Prelude.{ℕ, zero, suc, ◌+◌, ◌-◌, ◌*◌, ◌/◌, ◌%◌, ◌^◌, ◌≤◌, ◌<◌, ◌≡◌, Bool, true, false, List, [], Result, Ok, Err, length, take, drop}
use borrow.Rule.Slice.PartMut.{put_mid}
use Rattle.geometry.specs.Layer.{map_indexed}
use Rattle.bdf.specs.declared.reader.Expected.TheVariants.{Rows}
use Rattle.bdf.specs.declared.reader.Reader.{Reader}
use Rattle.bdf.specs.declared.reader.Answer.{Answer}
use Rattle.bdf.specs.declared.reader.Answer.TheVariants as answer
use Rattle.refusals.specs.declared.Refusal.{Refusal}
use Rattle.refusals.specs.Numbers.{number, refusal_of}
use Rattle.bdf.specs.declared.file.Strip.{Strip}
use Rattle.bdf.specs.Reader.{spelling, start, first_refusal, last_reader, file_lines}
use Rattle.bdf.specs.Font.{ink_left, ink_top, stride, atlas_size, refusal}
use Rattle.bdf.specs.Writing.{with_bits, put, put_lines}
use Rattle.bdf.specs.Within.{Within}

abbrev pub measured_of : ℕ → Reader → Result Reader ℕ
measured_of zero r = Ok r
measured_of (suc n) r = Err (suc n)

-- what lines come to, from a reader on: the number of their first refusal, or the reader after the last
unfoldable pub measured : Reader → List (List ℕ) → Result Reader ℕ
measured r ls = measured_of (first_refusal r ls) (last_reader r ls)

-- a result with its refusal's number
unfoldable pub numbered : Result Reader Refusal → Result Reader ℕ
numbered (Ok r) = Ok r
numbered (Err n) = Err (number n)

-- what lines come to in two parts, by which the laws go
pub record Measured (x : Result Reader Refusal) (r : Reader) (ls : List (List ℕ)) : Type 0 where
  pub code : refusal_of x ≡ first_refusal r ls
  pub last : (s : Reader) → x ≡ Ok s → s ≡ last_reader r ls

-- what they put, where they are written
abbrev pub put_if : Bool → ℕ → Reader → Result Answer Refusal → List ℕ → List ℕ
put_if true size r a out = put size r a out
put_if false size r a out = out

abbrev pub put_lines_if : Bool → ℕ → Reader → List (List ℕ) → List ℕ → List ℕ
put_lines_if true size r ls out = put_lines size r ls out
put_lines_if false size r ls out = out

-- room for the atlas and the mapping that `last` has measured, if they are written
pub record Room (writing : Bool) (last : Reader) (size n : ℕ) : Type 0 where
  pub small : size ≤ 100_000_000
  pub whole : writing ≡ true → n ≡ size + last.mapping
  pub atlas : writing ≡ true → size ≡ atlas_size last.cell last.glyphs

-- from a text to the rest of it, both from a line on, what it comes to and what it puts stays
pub record Carries (text : List ℕ) (writing : Bool) (size : ℕ) (r : Reader) (out : List ℕ) (s : Reader) (rest exit : List ℕ) : Type 0 where
  pub within : Within s
  pub onward : length rest ≤ length text
  pub same_refusal : first_refusal s (file_lines rest) ≡ first_refusal r (file_lines text)
  pub same_last : last_reader s (file_lines rest) ≡ last_reader r (file_lines text)
  pub same-put : put_lines_if writing size s (file_lines rest) exit ≡ put_lines_if writing size r (file_lines text) out
  pub same_length : length exit ≡ length out

-- over the last line, to the reader s: what it comes to and what it puts
pub record LastLine (text : List ℕ) (writing : Bool) (size : ℕ) (r : Reader) (out : List ℕ) (s : Reader) (exit : List ℕ) : Type 0 where
  pub same_refusal : first_refusal s [] ≡ first_refusal r (file_lines text)
  pub same_last : s ≡ last_reader r (file_lines text)
  pub put_whole : exit ≡ put_lines_if writing size r (file_lines text) out

-- over a line to the reader s, with the rest after its feed
pub record NextLine (text : List ℕ) (writing : Bool) (size : ℕ) (r : Reader) (out : List ℕ) (s : Reader) (rest exit : List ℕ) : Type 0 where
  pub shorter : length rest < length text
  pub carries : Carries text writing size r out s rest exit

-- a line is refused
pub record LineRefused (text : List ℕ) (r : Reader) (out : List ℕ) (n : Refusal) (exit : List ℕ) : Type 0 where
  pub first : number n ≡ first_refusal r (file_lines text)
  pub kept : exit ≡ out

-- ---- bitmap lines

-- the reader r after so many bitmap lines
abbrev pub rows_read : ℕ → Reader → Reader
rows_read n r = record { expected = Rows; left = r.left; cell = r.cell; bbx = r.bbx; glyphs = r.glyphs; mapping = r.mapping; least = r.least; read = n }

-- where a bitmap's lines stand in the atlas: the row of the first, the pixels from `left` up to `right`, and the bytes of a row
unfoldable pub strip_of : Reader → Strip
strip_of r =
    let k = r.glyphs - 1 in
    let left = k % 16 * r.cell.width + ink_left r.cell r.bbx in
    record { top = k / 16 * r.cell.height + ink_top r.cell r.bbx; left = left; right = left + r.bbx.width; stride = stride r.cell }

-- line i of a bitmap put there
unfoldable pub put_strip : Strip → ℕ → ℕ → List ℕ → List ℕ
put_strip s i bits out =
    let at = (s.top + i) * s.stride in
    put_mid at s.stride out (map_indexed (with_bits bits s.right) 0 (take s.stride (drop at out)))

abbrev pub put_strip_if : Bool → Strip → ℕ → ℕ → List ℕ → List ℕ
put_strip_if true s i bits out = put_strip s i bits out
put_strip_if false s i bits out = out

-- a line of a bitmap that lies in n bytes, if it is written
pub record StripFits (writing : Bool) (s : Strip) (i bits n : ℕ) : Type 0 where
  pub ordered : s.left ≤ s.right
  pub narrow : s.right ≤ s.left + 64
  pub within : s.right ≤ 8 * s.stride
  pub short : s.stride ≤ 128
  pub rows : s.top + i < 4_194_304
  pub small : writing ≡ true → bits < 2 ^ (s.right - s.left)
  pub room : writing ≡ true → (s.top + i) * s.stride + s.stride ≤ n

-- a spelling put from a position on, if it is written
abbrev pub put_spelling_if : Bool → ℕ → ℕ → List ℕ → List ℕ
put_spelling_if true from v out = put_mid from (length (spelling v)) out (spelling v)
put_spelling_if false from v out = out

pub record SpellingFits (writing : Bool) (from to v n : ℕ) : Type 0 where
  pub character : v ≤ 0x10FFFF
  pub ends : to ≡ from + length (spelling v)
  pub room : writing ≡ true → to ≤ n

-- what a line says lies in n bytes, if it is written; an atlas of `size` bytes stands before the mapping
unfoldable pub AnswerFits : Bool → ℕ → Reader → Result Answer Refusal → ℕ → Type 0
AnswerFits writing size r (Err k) n = Unit {0}
AnswerFits writing size r (Ok (answer.Passed s)) n = Unit {0}
AnswerFits writing size r (Ok (answer.Boxed s)) n = Unit {0}
AnswerFits writing size r (Ok (answer.Encoded s v)) n = SpellingFits writing (size + r.mapping) (size + s.mapping) v n
AnswerFits writing size r (Ok (answer.Drawn s bits)) n = (1 ≤ r.glyphs) × StripFits writing (strip_of r) r.read bits n

-- the reader after the last line of a good file
pub record IsMeasured (file : List ℕ) (last : Reader) : Type 0 where
  pub good : refusal file ≡ 0
  pub last_is : last ≡ last_reader start (file_lines file)
