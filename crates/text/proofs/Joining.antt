-- A left line in two runs, at spacing 0: the second, set where the first ends, goes on as if both were one text. Assumes nothing.
use Prim.Native.Nat.{ℕ, ◌+◌}
use native.Mathlib.Omega.{arith}
use mathlib.Core.Path.{◌≡◌, ap}
use mathlib.Core.Bool.{true}
use mathlib.Core.List.{List, [], ◌∷◌, ◌++◌}
use lib.ListN.{length}
use Rattle.geometry.specs.declared.Point.{Point}
use Rattle.geometry.proofs.Beside.{Joined}
use Rattle.characters.specs.Utf8.{chars, well_formed}
use Rattle.characters.specs.Lines.{OneLine}
use Rattle.characters.proofs.Feeds.{one_line, nothing_dropped, one_line_append}
use Rattle.characters.proofs.Parts.{chars-append}
use Rattle.line.specs.Line.{Font, spacing, top_edge, unlisted, string, advance}
use Rattle.line.proofs.Unlisted.{unlisted-append}
use Rattle.line.proofs.Joining.{advances_joined, string_joined}
use Rattle.text.specs.declared.Alignment.{Alignment}
use Rattle.text.specs.declared.Alignment.TheVariants.{Left}
use Rattle.text.specs.Text.{Text, aligned_start, place_line, place_lines, placed_lines, line_layer, lines_layer, layer, line_next, last_next, next, line_replaced, lines_replaced, replaced}

-- a text's styles with other bytes, at another position
abbrev pub run_at : Text → List ℕ → Point → Text
run_at t bytes p = record { text = bytes; position = p; character_style = t.character_style; text_style = t.text_style }

-- ---- a text that is one left line

starts_left : (a : Alignment) (x w : ℕ) → a ≡ Left → aligned_start a x w ≡ x
unfolding aligned_start
starts_left a x w e = rw e

module _ (f : Font) (t : Text) (left : t.text_style.alignment ≡ Left) (one : OneLine t.text) where
  placed-line : placed_lines f.mono t ≡ record { text = t.text; x = t.position.x; y = t.position.y } ∷ []
  unfolding placed_lines place_lines place_line
  placed-line = rw (one_line t.text one, nothing_dropped t.text one, starts_left t.text_style.alignment t.position.x _ left)

  line-layer : layer f t ≡ string f t.character_style t.text t.position.x (top_edge f.mono t.text_style.baseline t.position.y)
  unfolding layer lines_layer line_layer
  line-layer = rw placed-line

  line-end : next f.mono t ≡ record { x = t.position.x + advance f.mono t.character_style (length (chars t.text)); y = t.position.y }
  unfolding next last_next line_next
  line-end = rw placed-line

  line-replaced : replaced f t ≡ unlisted f.mapping (chars t.text)
  unfolding replaced lines_replaced line_replaced
  line-replaced = rw placed-line (omega arith)

-- ---- the theorem

module _ (f : Font) (t : Text) (first second : List ℕ) where
  -- where the second run is set
  abbrev pub between : Point
  between = next f.mono (run_at t first t.position)

  pub record TextJoined : Type 0 where
    pub layers : Joined (layer f (run_at t (first ++ second) t.position)) (layer f (run_at t first t.position)) (layer f (run_at t second between))
    pub position : next f.mono (run_at t (first ++ second) t.position) ≡ next f.mono (run_at t second between)
    pub count : replaced f (run_at t (first ++ second) t.position) ≡ replaced f (run_at t first t.position) + replaced f (run_at t second between)

  pub text_joined : spacing f.mono ≡ 0 → t.text_style.alignment ≡ Left → OneLine first → OneLine second → well_formed first ≡ true → TextJoined
  text_joined unspaced left one two well =
      let p = t.position in
      let both = one_line_append first second one two in
      let s = t.character_style in
      let along : ℕ → Point = λ x. record { x = x; y = p.y } in
      record {
        layers = rw (line-layer f (run_at t (first ++ second) p) left both, line-layer f (run_at t first p) left one, line-layer f (run_at t second between) left two, line-end f (run_at t first p) left one)
            (string_joined f s _ unspaced first second well p.x);
        position = rw (line-end f (run_at t (first ++ second) p) left both, line-end f (run_at t second between) left two, line-end f (run_at t first p) left one, advances_joined f s 0 unspaced first second well p.x) (ap along (omega arith));
        count = rw (line-replaced f (run_at t (first ++ second) p) left both, line-replaced f (run_at t first p) left one, line-replaced f (run_at t second between) left two, chars-append first second well) (unlisted-append f.mapping (chars first) (chars second));
      }
