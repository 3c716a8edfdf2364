-- The walk over the characters of a line: what is drawn, counted and left before each of them. Assumes nothing.
use Prim.Native.Nat.{ℕ, ◌+◌, ◌*◌, ◌≤◌}
use native.Mathlib.Omega.{arith}
use mathlib.Core.Path.{◌≡◌, refl, sym, ap, ◌∙◌}
use mathlib.Core.List.{List, [], ◌∷◌, map}
use lib.ListN.{length}
use Rattle.geometry.specs.declared.canvas.Frame.{Frame}
use Rattle.geometry.specs.Layer.{Layer, transparent}
use Rattle.geometry.specs.Painted.{Painted}
use Rattle.geometry.proofs.Layers.{within_none, paint_none}
use Rattle.line.specs.declared.Columns.{Columns}
use Rattle.line.specs.declared.MonoTextStyle.{MonoTextStyle}
use Rattle.line.specs.Line.{Font, character_width, spacing, character, glyphs, spaced, glyph_index}
use Rattle.line.specs.Clip.{met_character, met_unlisted}
use Rattle.line.specs.Limits.{FontLimits, CharacterLimits}
use Rattle.line.proofs.Advances.{walked, walked_spaced, walked_end, walked_next}
use Rattle.geometry.proofs.Paintings.{painted_none, painted_then}
use Rattle.line.proofs.Unlisted.{met_small, met_none, met_next}

module _ (f : Font) (s : MonoTextStyle) (columns : Columns) (cs : List ℕ) (left top : ℕ) (first : Frame) where
  -- the glyphs of the characters l
  abbrev rest : ℕ → List ℕ → ℕ → Layer
  rest gap l x = glyphs f s gap (map (glyph_index f) l) x top

  -- the state of the walk before the characters l: the glyphs before them are drawn, `replaced` of their characters are counted, and the next
  -- one follows x after `gap`
  pub record Drawn (gap : ℕ) (l : List ℕ) (x replaced : ℕ) (frame : Frame) : Type 0 where
    pub whole : (last : Frame) → Painted frame (rest gap l x) last → Painted first (rest 0 cs left) last
    pub end : walked f.mono gap l x ≡ left + spaced f.mono (length cs)
    pub counted : replaced + met_unlisted columns f.mono f.mapping gap l x ≡ met_unlisted columns f.mono f.mapping 0 cs left
    pub few : replaced + length l ≤ length cs
    pub near : x + 128 * length l ≤ left + 128 * length cs
    pub gap_small : gap ≤ 64
    pub same_target : frame.target ≡ first.target

  pub drawn_start : {l : List ℕ} → l ≡ cs → Drawn 0 l left 0 first
  drawn_start e = rw e (record {
    whole = λ last p. p;
    end = walked_spaced f.mono cs left;
    counted = omega arith;
    few = omega arith;
    near = omega arith;
    gap_small = omega arith;
    same_target = refl;
  })

  module _ (gap : ℕ) (l : List ℕ) (x replaced : ℕ) (frame : Frame) (d : Drawn gap l x replaced frame) where
    module _ {ch : ℕ} {l' : List ℕ} (e : l ≡ ch ∷ l') where
      pub drawn_step : (n : ℕ) (next : Frame) → FontLimits f.mono → Painted frame (character f s gap (glyph_index f ch) x top) next
          → n ≡ replaced + met_character columns f.mapping (gap + character_width f.mono) ch x → Drawn (spacing f.mono) l' (x + gap + character_width f.mono) n next
      unfolding glyphs
      drawn_step n next limits p k =
          let i = met_small columns f.mapping (gap + character_width f.mono) ch x in
          let b = ap length e in
          record {
            whole = λ last r. d.whole last (rw e (painted_then frame _ _ next last p r));
            end = sym (walked_next f.mono gap ch l' x) ∙ (rw e at d.end);
            counted = let h = rw e at d.counted in let j = met_next columns f.mono f.mapping gap ch l' x in omega arith;
            few = omega (arith, d.few);
            near = omega (arith, d.near, d.gap_small, limits.cw_small);
            gap_small = limits.spacing_small;
            same_target = p.same_target ∙ d.same_target;
          }

      -- what the next character needs
      pub character_limits : length cs ≤ 65_536 → left ≤ 8_388_608 → CharacterLimits gap x replaced
      character_limits short near = record { gap_small = d.gap_small; near_x = omega (arith, d.near); few = omega (arith, d.few) }

    -- the walk ends where the characters end
    module _ (e : l ≡ []) where
      pub drawn_end : Painted first (rest 0 cs left) frame
      unfolding glyphs
      drawn_end =
          d.whole frame (rw e (painted_none frame transparent (sym (paint_none frame.target.width _ frame.greys.now (within_none frame.target.clip_area transparent (λ c r grey. refl))))))

      pub walked_all : x ≡ left + spaced f.mono (length cs)
      walked_all = sym (walked_end f.mono gap x) ∙ (rw e at d.end)

      pub met_all : replaced ≡ met_unlisted columns f.mono f.mapping 0 cs left
      met_all = let i = rw e at d.counted in let j = met_none columns f.mono f.mapping gap x in omega arith
