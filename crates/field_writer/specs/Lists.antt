-- One number of a list that is written. Definitions only.
use Rattle.std.specs.Prelude.{ℕ, Bool, cond, eqb, ltb, ℤ, nat_abs}
use Rattle.fields.specs.Lists.{entry_fits}

-- number k of a list of n: an entry, or zero from the count on
unfoldable pub entry_ok : ℕ → ℕ → ℕ → ℤ → Bool
entry_ok step n k z = cond (ltb k n) (entry_fits step z) (eqb (nat_abs z) 0)
