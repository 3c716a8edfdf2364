-- `PreparedLine::draw_glyphs` meets its contract: before each character the glyphs before it are drawn, and those from it on make up the rest. Assumes nothing.
use native.Mathlib.Omega.{arith}
use mathlib.Core.Path.{ap, ◌∙◌}
use Rattle.characters.specs.Characters.{chars_left}
use Rattle.characters.proofs.Folds.{length-chars}
use Rattle.line.proofs.Glyphs.{drawn_start, drawn_step, drawn_end, character_limits, walked_all, met_all}
use Rattle.line.proofs.PreparedLine.draw_glyphs.Goals as goal

pub loop-ch-init : goal.loop-ch-init
loop-ch-init c = drawn_start _ _ _ _ _ _ _ (ap chars_left c.into_iter-ch-iterator.ensures.into_iter_gives ∙ c.chars-ch-items.ensures)

pub draw_character-replaced-requires-clause-prepared_for : goal.draw_character-replaced-requires-clause-prepared_for
draw_character-replaced-requires-clause-prepared_for c = rw c.loop-ch.invariant.same_target c.requires

pub draw_character-replaced-requires-clause-character_limits : goal.draw_character-replaced-requires-clause-character_limits
draw_character-replaced-requires-clause-character_limits c =
    let n = length-chars c.args.self.now.line.text.now in
    character_limits _ _ _ _ _ _ _ _ _ _ _ _ c.loop-ch.invariant c.in-Some.ensures.steps (omega (arith, c.args.self.now.line.limits.text_short)) c.args.self.now.line.limits.near_x

pub overflow_add-x : goal.overflow_add-x
overflow_add-x c =
    let n = length-chars c.args.self.now.line.text.now in
    record { fits = omega (arith, c.loop-ch.invariant.near, c.loop-ch.invariant.gap_small, c.args.self.now.line.limits.text_short, c.args.self.now.line.limits.near_x) }

pub overflow_add-x-in-loop-ch : goal.overflow_add-x-in-loop-ch
overflow_add-x-in-loop-ch c =
    let n = length-chars c.args.self.now.line.text.now in
    record { fits = omega (arith, c.loop-ch.invariant.near, c.loop-ch.invariant.gap_small, c.args.self.now.line.font.metrics.limits.cw_small, c.args.self.now.line.limits.text_short, c.args.self.now.line.limits.near_x) }

pub loop-ch-preserved : goal.loop-ch-preserved
loop-ch-preserved c = drawn_step _ _ _ _ _ _ _ _ _ _ _ _ c.loop-ch.invariant c.in-Some.ensures.steps _ _ c.args.self.now.line.font.metrics.limits c.draw_character-replaced.ensures.painted c.draw_character-replaced.ensures.value

pub returns-clause-painted : goal.returns-clause-painted
returns-clause-painted c = drawn_end _ _ _ _ _ _ _ _ _ _ _ _ c.loop-ch.invariant c.in-None.ensures.steps.0

pub returns-clause-end_value : goal.returns-clause-end_value
returns-clause-end_value c = walked_all _ _ _ _ _ _ _ _ _ _ _ _ c.loop-ch.invariant c.in-None.ensures.steps.0

pub returns-clause-replaced_value : goal.returns-clause-replaced_value
returns-clause-replaced_value c = met_all _ _ _ _ _ _ _ _ _ _ _ _ c.loop-ch.invariant c.in-None.ensures.steps.0
