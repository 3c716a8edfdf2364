-- `Line::draw_characters` meets its contract: glyphs that are not walked change nothing in the clip, and are then not asked for. Assumes nothing.
use Rattle.geometry.proofs.Paintings.{painted_none}
use Rattle.line.specs.Lent.{lent}
use Rattle.line.proofs.Strings.{glyphs_unshown, advance_shown}
use Rattle.line.proofs.Unlisted.{unasked, met_counted}
use Rattle.line.proofs.fonts.Line.draw_characters.Goals as goal

pub returns-then-not-shown-self-clause-painted : goal.returns-then-not-shown-self-clause-painted
returns-then-not-shown-self-clause-painted c =
    painted_none _ _ (glyphs_unshown c.args.frame.now.target (lent c.args.self.now.font) _ _ _ _ _ c.shows_glyphs-shown.result c.args.self.now.counts c.shows_glyphs-shown.ensures c.if-not-shown-self.true)

pub returns-then-not-shown-self-clause-replaced_value : goal.returns-then-not-shown-self-clause-replaced_value
returns-then-not-shown-self-clause-replaced_value c = search unasked

pub returns-then-shown-clause-next_value : goal.returns-then-shown-clause-next_value
returns-then-shown-clause-next_value c = search advance_shown

pub returns-then-shown-clause-replaced_value : goal.returns-then-shown-clause-replaced_value
returns-then-shown-clause-replaced_value c = search met_counted

pub returns-clause-replaced_value : goal.returns-clause-replaced_value
returns-clause-replaced_value c = search met_counted
