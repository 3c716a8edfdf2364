-- `Line::draw_string` meets its contract: characters and decorations painted in turn are one layer. Assumes nothing.
use Rattle.line.specs.Lent.{lent}
use Rattle.line.proofs.Strings.{string_painted}
use Rattle.line.proofs.fonts.Line.draw_string.Goals as goal

pub returns-clause-painted : goal.returns-clause-painted
returns-clause-painted c =
    string_painted (lent c.args.self.now.font) _ _ _ _ _ _ _ _ c.draw_characters-drawn.ensures.next_value c.draw_characters-drawn.ensures.painted c.draw_decorations.ensures
