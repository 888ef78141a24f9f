-- Document 01's example of a flipped bit that is not seen, computed: the claim FlippedBit. Assumes nothing.
use mathlib.Core.Path.{refl}
use lib.Count.{ones, ones_in}
use Rattle.words.specs.Word.{first}
use Rattle.reports.specs.Records.{report_of, seven_of, four_of, height_of}
use Rattle.reports.specs.Conditions.{zeros, seven_spares, four_zeros, height_spares}
use Rattle.lines.specs.Line.{gap, stretch, read_by, calls}
use Rattle.lines.specs.Claims.{FlippedBit}

pub flipped_bit : FlippedBit
unfolding read_by gap stretch calls first ones ones_in report_of seven_of four_of height_of zeros seven_spares four_zeros height_spares
flipped_bit = record { before = refl; of_atcrbs = refl; one_bit = refl; after = refl; of_search = refl }
