-- `line_reader::wide::read` meets its contract: what is found is what the definition of words has. Assumes nothing.
use mathlib.Core.Path.{ap, ◌∙◌}
use Rattle.reports.specs.Altitude.{form_of}
use Rattle.lines.specs.Links.{on_link}
use Rattle.line_reader.proofs.Places.{wide_found}
use Rattle.line_reader.proofs.wide.read.Goals as goal

pub returns : goal.returns
returns c = let a = c.args in c.read.ensures ∙ ap (on_link a.link a.place) (wide_found (form_of a.form) a.line.now a.place)
