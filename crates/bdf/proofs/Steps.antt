-- Laws of the reader's steps: what each line does, by the cases in which its function returns. Assumes nothing.
use Prim.Native.Nat.{ℕ, ◌+◌, ◌-◌, ◌/◌, ◌%◌, ◌≤◌, ◌<◌}
use native.Mathlib.Omega.{arith}
use mathlib.Core.Path.{◌≡◌, refl, sym, ap, ◌∙◌}
use mathlib.Core.Bool.{Bool, true, false, not, cond, ◌&&◌, false≢true}
use mathlib.Core.List.{List, [], ◌∷◌}
use lib.ListN.{length, get_or}
use lib.Dec.{ltb, leb, eqb}
use mir.Syntax.{w32}
use mir.Val.{Fits}
use borrow.Author.Tests.{not-true, not-false, leb-true, leb-false, lt-ltb, le-ltb, le-leb, lt-leb, eq-eqb, ne_eqb}
use Rattle.characters.specs.Utf8.{is_surrogate}
use Rattle.characters.proofs.Refusals.{all_true}
use Rattle.std.specs.Prelude.{Option, Some, None, Result, Ok, Err}
use Rattle.std.specs.Option.{ok_or}
use Rattle.std.specs.Result.{IsErrAnd}
use Rattle.refusals.specs.declared.Refusal.{Refusal}
use Rattle.refusals.specs.declared.Refusal.TheVariants.{BdfLine, BdfLimit, BdfEncoding}
use Rattle.bdf_lines.specs.declared.values.Four.{Four}
use Rattle.bdf.specs.declared.reader.Answer.TheVariants.{Passed, Boxed, Encoded, Drawn}
use Rattle.bdf_lines.specs.declared.values.Number.{Number}
use Rattle.bdf.specs.declared.reader.BoundingBox.{BoundingBox}
use denote.Enum.Bare.{sameb, same_true, same_false}
use Rattle.bdf.specs.contracts.reader.Expected.{the_type}
use Rattle.bdf.specs.declared.reader.Expected.{Expected}
use Rattle.bdf.specs.declared.reader.Expected.TheVariants.{StartFont, Font, Size, FontBoundingBox, Properties, Property, Chars, Glyph, Encoding, Swidth, Dwidth, Bbx, Attributes, Bitmap, Rows, Nothing}
use Rattle.bdf.specs.declared.reader.Reader.{Reader}
use Rattle.bdf.specs.declared.reader.Answer.{Answer}
use Rattle.bdf.specs.Reader.{origin, place, box, baseline, is_box, cell_tests, is_cell, box_tests, is_in_cell, is_character, utf8, spelling, expecting, leaving, moved, counted, with_cell, cell_line, properties_line, spelling_line, encoding_line, with_bbx, bbx_line, with_row, row_line, line_step, order, in_bitmap, step}
use Rattle.bdf_lines.specs.Words.{words, is_alone, is_named, is_comment, is_hex_pair, row_of}
use Rattle.bdf_lines.specs.Keywords as word
use Rattle.bdf.specs.Writing.{InCell, GoodCell}
use Rattle.bdf.specs.Within.{IsBox, Within}

-- ---- tests in a row, of which all must hold

pub and_next : (t rest r : Bool) → t ≡ true → r ≡ rest → r ≡ (t && rest)
and_next t rest r e q = rw e q

pub and_stop : (t rest : Bool) → t ≡ false → false ≡ (t && rest)
and_stop t rest e = rw e

pub and_last : (t r : Bool) → r ≡ t → r ≡ (t && true)
and_last t r q = q ∙ go t
  where
    go : (t : Bool) → t ≡ (t && true)
    go true = refl
    go false = refl

pub not_off : (t : Bool) → t ≡ false → not t ≡ true
not_off t e = rw e

pub not_on : (t : Bool) → t ≡ true → not t ≡ false
not_on t e = rw e

pub ruleset chain = (and_next, and_stop, and_last, not_off, not_on, le-leb, lt-leb)

-- ---- what `ok_or` and `?` give

module _ {A : Type 0} (z : Option A) (k : Result A Refusal) (v : k ≡ ok_or z BdfLine) where
  pub there : (x : A) → k ≡ Ok x → z ≡ Some x
  there x w = go z (sym v ∙ w)
    where
      go : (z : Option A) → ok_or z BdfLine ≡ Ok x → z ≡ Some x
      go (Some y) c = cc
      go None c = cc

  missing : (d : Refusal) → k ≡ Err d → (z ≡ None) × (d ≡ BdfLine)
  missing d w = go z (sym v ∙ w)
    where
      go : (z : Option A) → ok_or z BdfLine ≡ Err d → (z ≡ None) × (d ≡ BdfLine)
      go (Some y) c = cc
      go None c = (refl, cc)

  -- a line that f refuses where its words are none
  pub refused : (f : Option A → Result Answer Refusal) → f None ≡ Err BdfLine → (d : Refusal) → k ≡ Err d → (x : Result Answer Refusal) → IsErrAnd x (λ e. e ≡ d) → x ≡ f z
  refused f n d w (Ok a) h = absurd h
  refused f n d w (Err e) h = let m = missing d w in rw (m.0, n, h, m.1)

-- ---- lines

module _ (e : Expected) (r s : Reader) where
  pub moved_good : (good : Bool) → good ≡ true → s ≡ expecting e r → Ok (Passed s) ≡ moved good e r
  moved_good good t q = rw (t, q)

  pub moved_bad : (good : Bool) → good ≡ false → Err BdfLine ≡ moved good e r
  moved_bad good t = rw t

  pub counted_of : (x : Option ℕ) (n : ℕ) → x ≡ Some n → s ≡ leaving e n r → Ok (Passed s) ≡ counted x e r
  counted_of x n t q = rw (t, q)

module _ (r s : Reader) (x y z : Option ℕ) (e : z ≡ x) where
  pub properties_of : (n : ℕ) → z ≡ Some n → s ≡ leaving Property n r → Ok (Passed s) ≡ properties_line x y r
  unfolding properties_line
  properties_of n t q = rw (← e, t, q)

  pub properties_else : (a : Result Answer Refusal) (v : Option ℕ) → z ≡ None → v ≡ y → a ≡ counted v Glyph r → a ≡ properties_line x y r
  unfolding properties_line
  properties_else a v t f q = rw (← e, t, ← f) q

module _ (n : Number) where
  pub place_below : n.negative ≡ true → origin - n.size ≡ place n
  unfolding place
  place_below t = rw t

  pub place_above : n.negative ≡ false → origin + n.size ≡ place n
  unfolding place
  place_above t = rw t

  pub place_small : n.size ≤ origin → place n ≤ 2_000_000_000
  unfolding place
  place_small h = go n.negative
    where
      go : (t : Bool) → cond t (origin - n.size) (origin + n.size) ≤ 2_000_000_000
      go true = omega arith
      go false = omega arith

pub leb_same : (a b c d : ℕ) → (a ≤ b → c ≤ d) → (c ≤ d → a ≤ b) → leb a b ≡ leb c d
leb_same a b c d p q = go (leb a b) (leb c d) refl refl
  where
    go : (t u : Bool) → leb a b ≡ t → leb c d ≡ u → t ≡ u
    go true true e f = refl
    go true false e f = let h = p (leb-true a b e) in absurd (omega (arith, leb-false c d f))
    go false true e f = let h = q (leb-true c d f) in absurd (omega (arith, leb-false a b e))
    go false false e f = refl

module _ (from side end : ℕ) where
  pub reaches_not : end < from → false ≡ leb (from + side) end
  reaches_not h = sym (lt-leb (from + side) end (omega arith))

  pub reaches_side : from ≤ end → leb side (end - from) ≡ leb (from + side) end
  reaches_side h = leb_same side (end - from) (from + side) end (λ l. omega arith) (λ l. omega arith)

pub height_fits : (h v : ℕ) (y : Number) → h ≤ 64 → v ≡ place y → y.size ≤ origin → Fits w32 (h + v)
height_fits h v y l e s = omega (arith, place_small y s)

-- ---- `is_box`, and what it says of a cell and of a box in one

pub box_made_of : (w h x y : Number) (a b c d : Bool) → not w.negative ≡ a → not h.negative ≡ b → c ≡ leb x.size origin → d ≡ leb y.size origin → (((a && b) && c) && d) ≡ is_box w h x y
unfolding is_box
box_made_of w h x y a b c d p q r s = rw (p, q, ← r, ← s) (go a b c d)
  where
    go : (a b c d : Bool) → (((a && b) && c) && d) ≡ (a && (b && (c && (d && true))))
    go true true true d = and_last _ _ refl
    go true true false d = refl
    go true false c d = refl
    go false b c d = refl

-- t is what `is_box` gave
module _ (w h x y : Number) (t : Bool) (q : t ≡ is_box w h x y) where
  module _ (o : not t ≡ true) where
    pub no_cell : false ≡ is_cell w h x y
    unfolding is_box is_cell
    no_cell = go (not w.negative) (not h.negative) (leb w.size 64) (leb h.size 64) (leb x.size origin) (leb y.size origin) _ (sym q ∙ not-true t o)
      where
        go : (a b c d e f g : Bool) → (a && (b && (e && (f && true)))) ≡ false → false ≡ (a && (b && (c && (d && (e && (f && g))))))
        go false b c d e f g p = refl
        go true false c d e f g p = refl
        go true true false d e f g p = refl
        go true true true false e f g p = refl
        go true true true true false f g p = refl
        go true true true true true false g p = refl
        go true true true true true true g p = cc

    pub no_box : (cell : BoundingBox) → false ≡ is_in_cell cell w h x y
    unfolding is_box is_in_cell
    no_box cell = go (not w.negative) (not h.negative) (leb x.size origin) (leb y.size origin) _ (sym q ∙ not-true t o)
      where
        go : (a b e f g : Bool) → (a && (b && (e && (f && true)))) ≡ false → false ≡ (a && (b && (e && (f && g))))
        go false b e f g p = refl
        go true false e f g p = refl
        go true true false f g p = refl
        go true true true false g p = refl
        go true true true true g p = cc

  module _ (o : not t ≡ false) where
    box_true : (i : ℕ) → get_or (not w.negative ∷ not h.negative ∷ leb x.size origin ∷ leb y.size origin ∷ []) i true ≡ true
    unfolding is_box
    box_true = all_true (not w.negative ∷ not h.negative ∷ leb x.size origin ∷ leb y.size origin ∷ []) (sym q ∙ not-false t o)

    wn : w.negative ≡ false
    wn = not-true w.negative (box_true 0)

    hn : h.negative ≡ false
    hn = not-true h.negative (box_true 1)

    pub box_x : x.size ≤ origin
    box_x = leb-true _ _ (box_true 2)

    pub box_y : y.size ≤ origin
    box_y = leb-true _ _ (box_true 3)

    pub cell_wide : 64 < w.size → false ≡ is_cell w h x y
    unfolding is_cell
    cell_wide l = rw (wn, hn, lt-leb w.size 64 l)

    module _ (ws : w.size ≤ 64) where
      pub cell_high : 64 < h.size → false ≡ is_cell w h x y
      unfolding is_cell
      cell_high l = rw (wn, hn, le-leb w.size 64 ws, lt-leb h.size 64 l)

      -- the last test of a cell, its `baseline`
      pub cell_baseline : (v : ℕ) → h.size ≤ 64 → v ≡ place y → leb (h.size + v) 1_000_000_256 ≡ is_cell w h x y
      unfolding is_cell baseline
      cell_baseline v hs e =
          leb_same (h.size + v) 1_000_000_256 (h.size + v - (origin + 1)) 255 (λ l. omega arith) (λ l. omega arith)
          ∙ rw (wn, hn, le-leb w.size 64 ws, le-leb h.size 64 hs, le-leb x.size origin box_x, le-leb y.size origin box_y, ← e) (and_last _ _ refl)

    -- the last tests of a box in its cell
    module _ (cell : BoundingBox) (left foot : ℕ) (e : left ≡ place x) (f : foot ≡ place y) where
      placed : is_in_cell cell w h x y
          ≡ (leb cell.x left && (leb (left + w.size) (cell.x + cell.width) && (leb cell.y foot && (leb (foot + h.size) (cell.y + cell.height) && true))))
      unfolding is_in_cell
      placed = rw (wn, hn, le-leb x.size origin box_x, le-leb y.size origin box_y, e, f)

      pub left_of_cell : left < cell.x → false ≡ is_in_cell cell w h x y
      left_of_cell l = rw placed (and_stop _ _ (lt-leb cell.x left l))

      module _ (l : cell.x ≤ left) (u : Bool) (r : u ≡ leb (left + w.size) (cell.x + cell.width)) where
        pub right_of_cell : not u ≡ true → false ≡ is_in_cell cell w h x y
        right_of_cell k = rw (placed, le-leb cell.x left l) (and_stop _ _ (sym r ∙ not-true u k))

        module _ (k : not u ≡ false) where
          pub below_cell : foot < cell.y → false ≡ is_in_cell cell w h x y
          below_cell m = rw (placed, le-leb cell.x left l, ← r, not-false u k) (and_stop _ _ (lt-leb cell.y foot m))

          pub above_cell : (v : Bool) → cell.y ≤ foot → v ≡ leb (foot + h.size) (cell.y + cell.height) → v ≡ is_in_cell cell w h x y
          above_cell v m p = rw (placed, le-leb cell.x left l, ← r, not-false u k, le-leb cell.y foot m) (and_last _ _ p)

-- ---- what the tests of a box give

module _ (w h x y : Number) (t : Bool) (o : not t ≡ false) where
  module _ (q : t ≡ is_cell w h x y) where
    cell-tests : is_cell w h x y ≡ true
    cell-tests = sym q ∙ not-false t o

    -- test number i of a cell
    cell-test : (i : ℕ) → get_or (cell_tests w h x y) i true ≡ true
    unfolding is_cell
    cell-test = all_true (cell_tests w h x y) cell-tests

    pub cell_box : IsBox w h x y
    cell_box = record {
      width = leb-true _ _ (cell-test 2);
      height = leb-true _ _ (cell-test 3);
      left = leb-true _ _ (cell-test 4);
      foot = leb-true _ _ (cell-test 5);
    }

    pub cell_good : GoodCell (box w h x y)
    cell_good = record {
      narrow = cell_box.width;
      low = cell_box.height;
      left = place_small x cell_box.left;
      foot = place_small y cell_box.foot;
      baseline-fits = leb-true _ _ (cell-test 6);
    }

  module _ (cell : BoundingBox) (g : GoodCell cell) (q : t ≡ is_in_cell cell w h x y) where
    box-test : (i : ℕ) → get_or (box_tests cell w h x y) i true ≡ true
    unfolding is_in_cell
    box-test = all_true (box_tests cell w h x y) (sym q ∙ not-false t o)

    pub box_in : InCell cell (box w h x y)
    box_in = record {
      left = leb-true _ _ (box-test 4);
      right = leb-true _ _ (box-test 5);
      foot = leb-true _ _ (box-test 6);
      head = leb-true _ _ (box-test 7);
    }

    pub box-box : IsBox w h x y
    box-box = record {
      width = omega (arith, box_in.left, box_in.right, g.narrow);
      height = omega (arith, box_in.foot, box_in.head, g.low);
      left = leb-true _ _ (box-test 2);
      foot = leb-true _ _ (box-test 3);
    }

-- ---- FONTBOUNDINGBOX and BBX

module _ (z : Option Four) (r : Reader) where
  module _ (f : Four) (e : z ≡ Some f) (t : Bool) where
    pub cell_bad : t ≡ is_cell f.width f.height f.x f.y → not t ≡ true → Err BdfLimit ≡ cell_line z r
    unfolding cell_line
    cell_bad q o = rw (e, ← q, not-true t o)

    pub cell_passed : t ≡ is_cell f.width f.height f.x f.y → not t ≡ false → (b : BoundingBox) → b ≡ box f.width f.height f.x f.y → Ok (Passed (with_cell b r)) ≡ cell_line z r
    unfolding cell_line
    cell_passed q o b p = rw (e, ← q, not-false t o, p)

    pub box_bad : t ≡ is_in_cell r.cell f.width f.height f.x f.y → not t ≡ true → Err BdfLimit ≡ bbx_line z r
    unfolding bbx_line
    box_bad q o = rw (e, ← q, not-true t o)

    pub box_passed : t ≡ is_in_cell r.cell f.width f.height f.x f.y → not t ≡ false → (b : BoundingBox) → b ≡ box f.width f.height f.x f.y → Ok (Boxed (with_bbx b r)) ≡ bbx_line z r
    unfolding bbx_line
    box_passed q o b p = rw (e, ← q, not-false t o, p)

-- ---- bitmap lines

module _ (z : Option ℕ) (r : Reader) where
  pub row_drawn : (bits : ℕ) → z ≡ Some bits → Ok (Drawn (with_row r) bits) ≡ row_line z r
  unfolding row_line
  row_drawn bits e = rw e

-- ---- ENCODING

module _ (n : Number) where
  pub no_character : n.negative ≡ true → false ≡ is_character n
  unfolding is_character
  no_character q = rw q

  module _ (p : n.negative ≡ false) where
    pub character_above : 0x10FFFF < n.size → false ≡ is_character n
    unfolding is_character
    character_above h = rw (p, lt-leb n.size 0x10FFFF h)

    pub character_else : n.size ≤ 0x10FFFF → (t : Bool) → t ≡ is_surrogate n.size → not t ≡ is_character n
    unfolding is_character
    character_else l t s = rw (p, le-leb n.size 0x10FFFF l, s)

  pub character_small : (t : Bool) → t ≡ is_character n → not t ≡ false → n.size ≤ 0x10FFFF
  unfolding is_character
  character_small t q o = go n.negative (leb n.size 0x10FFFF) refl (sym q ∙ not-false t o)
    where
      go : (a b : Bool) → leb n.size 0x10FFFF ≡ b → (not a && (b && not (is_surrogate n.size))) ≡ true → n.size ≤ 0x10FFFF
      go true b e f = absurd (false≢true f)
      go false true e f = leb-true _ _ e
      go false false e f = absurd (false≢true f)

module _ (z : Option Number) (r : Reader) where
  module _ (n : Number) (e : z ≡ Some n) (t : Bool) (q : t ≡ is_character n) where
    pub encoding_bad : not t ≡ true → Err BdfEncoding ≡ encoding_line z r
    unfolding encoding_line
    encoding_bad o = rw (e, ← q, not-true t o)

    module _ (o : not t ≡ false) where
      pub encoding_falls : n.size < r.least → Err BdfEncoding ≡ encoding_line z r
      unfolding encoding_line
      encoding_falls h = rw (e, ← q, not-false t o, lt-leb r.least n.size h)

      pub encoding_passed : r.least ≤ n.size → (a : Result Answer Refusal) → a ≡ spelling_line n.size r → a ≡ encoding_line z r
      unfolding encoding_line
      encoding_passed h a f = rw (e, ← q, not-false t o, le-leb r.least n.size h) f

module _ (v m : ℕ) (r : Reader) (k : m ≡ length (spelling v)) where
  pub spelling_long : 65_535 < r.mapping + m → Err BdfLimit ≡ spelling_line v r
  unfolding spelling_line
  spelling_long h = rw (← k, lt-leb (r.mapping + m) 65_535 h)

  pub spelling_passed : r.mapping + m ≤ 65_535 → Ok (Encoded (record {
    expected = Swidth;
    left = r.left;
    cell = r.cell;
    bbx = r.bbx;
    glyphs = r.glyphs + 1;
    mapping = r.mapping + m;
    least = v + 1;
    read = 0;
  }) v) ≡ spelling_line v r
  unfolding spelling_line
  spelling_passed h = rw (← k, le-leb (r.mapping + m) 65_535 h)

-- the fields of a box
pub box_made : (w h x y : Number) (left foot : ℕ) → left ≡ place x → foot ≡ place y → record { width = w.size; height = h.size; x = left; y = foot } ≡ box w h x y
box_made w h x y left foot e f = rw (e, f)

-- a spelling takes at most four bytes
pub spelling_short : (v : ℕ) → length (spelling v) ≤ 4
unfolding spelling utf8
spelling_short v = go (eqb v 0) (ltb v 0x80) (ltb v 0x800) (ltb v 0x10000)
  where
    go : (a b c d : Bool) → length (cond a (0 ∷ 0 ∷ 0 ∷ []) (cond b (v ∷ []) (cond c ((0xC0 + v / 64) ∷ (0x80 + v % 64) ∷ [])
        (cond d ((0xE0 + v / 4_096) ∷ (0x80 + v / 64 % 64) ∷ (0x80 + v % 64) ∷ [])
        ((0xF0 + v / 262_144) ∷ (0x80 + v / 4_096 % 64) ∷ (0x80 + v / 64 % 64) ∷ (0x80 + v % 64) ∷ []))))) ≤ 4
    go true b c d = omega arith
    go false true c d = omega arith
    go false false true d = omega arith
    go false false false true = omega arith
    go false false false false = omega arith

pub mapping_fits : (v m : ℕ) (r : Reader) → Within r → m ≡ length (spelling v) → Fits w32 (r.mapping + m)
mapping_fits v m r w e = omega (arith, w.short, spelling_short v)

pub glyphs_fit : (r : Reader) → Within r → Fits w32 (r.glyphs + 1)
glyphs_fit r w = omega (arith, w.short, w.counted)

pub character-fits : (n : Number) (t : Bool) → t ≡ is_character n → not t ≡ false → Fits w32 n.size
character-fits n t q o = omega (arith, character_small n t q o)

-- ---- lines that go by a number or a test

module _ (r : Reader) (l : List ℕ) (ws : List (List ℕ)) where
  module _ (t : Bool) (a : Result Answer Refusal) where
    pub property_none : r.left ≡ 0 → t ≡ is_alone word.end_properties ws → a ≡ moved t Chars r → a ≡ line_step Property r l ws
    unfolding line_step
    property_none z e q = rw (eq-eqb r.left 0 z, ← e) q

    pub glyph_none : r.left ≡ 0 → t ≡ is_alone word.end_font ws → a ≡ moved t Nothing r → a ≡ line_step Glyph r l ws
    unfolding line_step
    glyph_none z e q = rw (eq-eqb r.left 0 z, ← e) q

    pub glyph_more : (r.left ≡ 0 → ⊥) → t ≡ is_named word.start_char ws → (s : Reader) → s ≡ leaving Glyph (r.left - 1) r → a ≡ moved t Encoding s → a ≡ line_step Glyph r l ws
    unfolding line_step
    glyph_more z e s f q = rw (ne_eqb r.left 0 z, ← e, ← f) q

    pub attributes_not : (u : Bool) → u ≡ is_hex_pair word.attributes ws → u ≡ false → t ≡ is_alone word.bitmap ws → a ≡ moved t Rows r → a ≡ line_step Attributes r l ws
    unfolding line_step
    attributes_not u e o f q = rw (← e, o, ← f) q

    pub bitmap_done : r.bbx.height ≤ r.read → t ≡ is_alone word.end_char ws → a ≡ moved t Glyph r → a ≡ line_step Rows r l ws
    unfolding line_step
    bitmap_done h e q = rw (le-ltb r.read r.bbx.height h, ← e) q

  pub bitmap_row : r.read < r.bbx.height → (x : Option ℕ) (a : Result Answer Refusal) → x ≡ row_of r.bbx.width l → a ≡ row_line x r → a ≡ line_step Rows r l ws
  unfolding line_step
  bitmap_row h x a e q = rw (lt-ltb r.read r.bbx.height h, ← e) q

  module _ (s : Reader) where
    pub property_more : (r.left ≡ 0 → ⊥) → s ≡ leaving Property (r.left - 1) r → Ok (Passed s) ≡ line_step Property r l ws
    unfolding line_step
    property_more z q = rw (ne_eqb r.left 0 z, q)

    pub attributes_is : (u : Bool) → u ≡ is_hex_pair word.attributes ws → u ≡ true → s ≡ expecting Bitmap r → Ok (Passed s) ≡ line_step Attributes r l ws
    unfolding line_step
    attributes_is u e o q = rw (← e, o, q)

-- a box in a cell is no wider and no higher than 64
module _ (r : Reader) (w : Within r) where
  pub width_small : r.bbx.width ≤ 64
  width_small = omega (arith, w.in_cell.left, w.in_cell.right, w.good_cell.narrow)

  pub read_small : r.read < r.bbx.height → r.read < 64
  read_small h = omega (arith, w.in_cell.foot, w.in_cell.head, w.good_cell.low)

-- ---- the line that is expected

module _ (r : Reader) (l : List ℕ) (ws : List (List ℕ)) (x : Expected) (e : r.expected ≡ x) (a : Result Answer Refusal) where
  pub expected_is : a ≡ line_step x r l ws → a ≡ line_step r.expected r l ws
  expected_is q = q ∙ ap (λ (y : Expected). line_step y r l ws) (sym e)

  pub expected_word : (y : Expected) (t u : Bool) → t ≡ u → a ≡ moved t y r → moved u y r ≡ line_step x r l ws → a ≡ line_step r.expected r l ws
  expected_word y t u f q p = expected_is ((rw f at q) ∙ p)

  pub expected_count : (y : Expected) (t u : Option ℕ) → t ≡ u → a ≡ counted t y r → counted u y r ≡ line_step x r l ws → a ≡ line_step r.expected r l ws
  expected_count y t u f q p = expected_is ((rw f at q) ∙ p)

  pub expected_cell : (t u : Option Four) → t ≡ u → a ≡ cell_line t r → cell_line u r ≡ line_step x r l ws → a ≡ line_step r.expected r l ws
  expected_cell t u f q p = expected_is ((rw f at q) ∙ p)

  pub expected_box : (t u : Option Four) → t ≡ u → a ≡ bbx_line t r → bbx_line u r ≡ line_step x r l ws → a ≡ line_step r.expected r l ws
  expected_box t u f q p = expected_is ((rw f at q) ∙ p)

  pub expected_encoding : (t u : Option Number) → t ≡ u → a ≡ encoding_line t r → encoding_line u r ≡ line_step x r l ws → a ≡ line_step r.expected r l ws
  expected_encoding t u f q p = expected_is ((rw f at q) ∙ p)

-- ---- COMMENT lines and blank ones

by_order : ℕ → Expected
by_order n =
    get_or (StartFont ∷ Font ∷ Size ∷ FontBoundingBox ∷ Properties ∷ Property ∷ Chars ∷ Glyph ∷ Encoding ∷ Swidth ∷ Dwidth ∷ Bbx ∷ Attributes ∷ Bitmap ∷ Rows ∷ []) n Nothing

by_order_lem : (e : Expected) → by_order (order e) ≡ e
unfolding by_order
by_order_lem StartFont = refl
by_order_lem Font = refl
by_order_lem Size = refl
by_order_lem FontBoundingBox = refl
by_order_lem Properties = refl
by_order_lem Property = refl
by_order_lem Chars = refl
by_order_lem Glyph = refl
by_order_lem Encoding = refl
by_order_lem Swidth = refl
by_order_lem Dwidth = refl
by_order_lem Bbx = refl
by_order_lem Attributes = refl
by_order_lem Bitmap = refl
by_order_lem Rows = refl
by_order_lem Nothing = refl

-- the line that is expected, by its number
pub order_tells : (e x : Expected) (n : ℕ) → n ≡ order e → n ≡ order x → e ≡ x
order_tells e x n p q = sym (by_order_lem e) ∙ ap by_order (sym p ∙ q) ∙ by_order_lem x

pub rows_expected : (e : Expected) → order e ≡ 14 → e ≡ Rows
rows_expected e p = order_tells e Rows 14 (sym p) refl

module _ (r : Reader) where
  no_bitmap : (r.expected ≡ Rows → ⊥) → false ≡ in_bitmap r
  unfolding in_bitmap
  no_bitmap h = rw (ne_eqb (order r.expected) 14 (λ o. h (rows_expected r.expected o)))

  bitmap-next : r.expected ≡ Rows → ltb r.read r.bbx.height ≡ in_bitmap r
  unfolding in_bitmap
  bitmap-next e = rw e

  -- t is what `==` gave
  pub bitmap_next : (t u : Bool) → t ≡ sameb the_type r.expected Rows → u ≡ ltb r.read r.bbx.height → (t && u) ≡ in_bitmap r
  bitmap_next true u p q = q ∙ bitmap-next (same_true the_type tt _ _ (sym p))
  bitmap_next false u p q = no_bitmap (same_false the_type _ _ (sym p))

  module _ (l : List ℕ) (t : Bool) (e : t ≡ in_bitmap r) where
    module _ (a : Result Answer Refusal) (q : a ≡ line_step r.expected r l (words l)) where
      pub step-bitmap : t ≡ true → a ≡ step r l
      unfolding step
      step-bitmap o = rw (← e, o) q

      pub step_line : (u : Bool) → t ≡ false → u ≡ is_comment word.comment (words l) → u ≡ false → a ≡ step r l
      unfolding step
      step_line u o f p = rw (← e, o, ← f, p) q

    pub step-comment : (u : Bool) → t ≡ false → u ≡ is_comment word.comment (words l) → u ≡ true → Ok (Passed r) ≡ step r l
    unfolding step
    step-comment u o f p = rw (← e, o, ← f, p)
