-- The lister's form of the altitude, by the run of its example, and its link. Assumes nothing.
use mathlib.Core.Path.{refl}
use lib.Count.{ones, ones_in}
use Rattle.words.specs.Word.{first}
use Rattle.reports.specs.Conditions.{zeros, four_zeros, height_spares, seven_spares}
use Rattle.listing.specs.Claims.{DocumentForm, LinkZero}

pub document_form : DocumentForm
unfolding ones ones_in first zeros four_zeros height_spares seven_spares
document_form = refl

pub link_zero : LinkZero
link_zero = refl
