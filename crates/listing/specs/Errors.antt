-- What is said of a call that put nothing though the listing is not whole. Definitions only.
use Rattle.std.specs.Prelude.{ℕ, List, codes}
use Rattle.listing.specs.declared.WalkError.{WalkError}
use Rattle.listing.specs.declared.WalkError.TheVariants as E

abbrev pub error_text : WalkError → List ℕ
error_text E.Astray = codes "the walk over the recording went astray"
error_text E.NoRoom = codes "the buffer may be too short for a line"
