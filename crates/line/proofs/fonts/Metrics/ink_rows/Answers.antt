-- `Metrics::ink_rows` meets its contract: the definition joins the same three parts. Assumes nothing.
use Rattle.line.proofs.Ink.{part-fits, characters_fit, parts_fit, rows_joined}
use Rattle.line.proofs.Colors.{resolved}
use Rattle.line.proofs.fonts.Metrics.ink_rows.Goals as goal

pub join-requires-clause-ends_fit : goal.join-requires-clause-ends_fit
join-requires-clause-ends_fit c = search characters_fit

pub join-requires-clause-ends_fit_2 : goal.join-requires-clause-ends_fit_2
join-requires-clause-ends_fit_2 c = search part-fits

pub join-requires-2-clause-ends_fit : goal.join-requires-2-clause-ends_fit
join-requires-2-clause-ends_fit c = search (parts_fit, characters_fit, part-fits)

pub join-requires-2-clause-ends_fit_2 : goal.join-requires-2-clause-ends_fit_2
join-requires-2-clause-ends_fit_2 c = search part-fits

pub returns : goal.returns
returns c =
    rows_joined _ _ _ _ _ _ _ _ _ _ c.is_painted.ensures (resolved _ _ _ _ c.to_color.ensures c.is_some-strikes.ensures) (resolved _ _ _ _ c.to_color-2.ensures c.is_some-underlines.ensures)
    c.rows_if-characters.ensures c.rows_if-above.ensures c.rows_if-below.ensures c.join.ensures c.join-2.ensures
