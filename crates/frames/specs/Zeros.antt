-- The zero inserted after five ones (document 004, 5.2.1): put in, taken out, and missing. The first argument of each is how many ones stand
-- directly in front of the bits; behind a flag there are none. Definitions only.
use Rattle.std.specs.Prelude.{ℕ, ◌+◌, Bool, false, cond, ◌||◌, List, [], ◌∷◌, eqb}

-- the ones in front, with one bit more
abbrev pub ones : ℕ → Bool → ℕ
ones n b = cond b (n + 1) 0

-- the bits with a zero inserted after each five ones, also where nothing follows them
unfoldable pub with_zeros : ℕ → List Bool → List Bool
with_zeros n [] = []
with_zeros n (b ∷ s) = b ∷ cond (eqb (ones n b) 5) (false ∷ with_zeros 0 s) (with_zeros (ones n b) s)

-- the bits without what follows each five ones
unfoldable pub zeros_out : ℕ → List Bool → List Bool
zeros_out n [] = []
zeros_out n (b ∷ s) = cond (eqb n 5) (zeros_out 0 s) (b ∷ zeros_out (ones n b) s)

-- somewhere five ones have no zero after them: a one, or nothing
unfoldable pub zero_missing : ℕ → List Bool → Bool
zero_missing n [] = eqb n 5
zero_missing n (b ∷ s) = cond (eqb n 5) (b || zero_missing 0 s) (zero_missing (ones n b) s)
