-- The claim of specs/Claims.antt about the widths of layouts. Those about the forms of the altitude are proved in Altitudes.antt, demand 2 and what
-- follows from it in Demand2.antt, the refusals and the first seven words in Refusals.antt. Assumes nothing.
use Rattle.reports.specs.Claims.{TwelveBitsAWord}
use Rattle.reports.proofs.Widths.{twelve}

pub twelve_bits_a_word : TwelveBitsAWord
twelve_bits_a_word = twelve
