-- `report_items::given::altitude_of` meets its contract: sixteen bits hold it, or it counts as 0. Assumes nothing.
use mathlib.Core.Path.{◌∙◌}
use mir.Syntax.{w16, w64}
use mir.Facts.{to_z-of_z}
use Rattle.report_items.proofs.Signed.{narrowed}
use Rattle.report_items.proofs.given.altitude_of.Goals as goal

pub returns : goal.returns
returns c =
    let e = to_z-of_z {w = w64} (record { sfits = c.cast_signed.type_inv }) ∙ c.cast_signed.ensures in
    to_z-of_z {w = w16} (record { sfits = c.unwrap_or.type_inv })
    ∙ c.unwrap_or.ensures
    ∙ narrowed c.args.v c.try_from.result c.ranges.v.fits (rw e at c.try_from.ensures)
