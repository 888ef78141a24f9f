-- What a call that writes a link data field answers. Definitions only.
use Rattle.std.specs.Prelude.{ℕ, Err, Ok, Result}
use Rattle.refusals.specs.declared.FieldRefusal.{FieldRefusal}

-- the bits that were written, 0 where the field is refused
abbrev pub bits_of : Result ℕ FieldRefusal → ℕ
bits_of (Ok n) = n
bits_of (Err q) = 0
