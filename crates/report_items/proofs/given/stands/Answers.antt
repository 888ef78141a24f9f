-- `report_items::given::stands` meets its contract: the machine's comparison of the machine's number. Assumes nothing.
use mathlib.Core.Path.{ap, ◌∙◌}
use lib.IntN.{ℤ}
use mir.Syntax.{w64}
use mir.Facts.{to_z-of_z}
use Rattle.std.specs.Prelude.{Some}
use Rattle.report_items.specs.Items.{item_of}
use Rattle.report_items.specs.Given.{same_item}
use Rattle.report_items.proofs.Signed.{signed_is}
use Rattle.report_items.proofs.Tally.{same_by}
use Rattle.report_items.proofs.given.stands.Goals as goal

pub returns : goal.returns
returns c =
    let a = c.args in
    let e = to_z-of_z {w = w64} (record { sfits = c.cast_signed.type_inv }) ∙ c.cast_signed.ensures ∙ signed_is a.value c.ranges.value.fits in
    c.eq.ensures ∙ same_by c.item_of.result _ ∙ rw (c.item_of.ensures) (ap (λ (z : ℤ). same_item (item_of a.report a.n) (Some z)) e)
