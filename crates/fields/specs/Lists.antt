-- The entries of a field's list: altimeter blocks of 8 bits, addresses and identifiers of 24. In the record they stand as one list of thirty
-- numbers, zero from the count on. Definitions only.
use Rattle.std.specs.Prelude.{ℕ, zero, suc, ◌+◌, ◌*◌, ◌/◌, ◌%◌, Bool, true, false, cond, not, ◌&&◌, ◌||◌, List, [], ◌∷◌, ℤ, pos, negsuc, neg_ℤ, ◌==◌, nat_lt, unsigned_abs}

-- ---- one entry

abbrev pub negative : ℤ → Bool
negative (pos n) = false
negative (negsuc n) = true

-- a sign, 1 negative, and a magnitude
abbrev pub signed : Bool → ℕ → ℤ
signed s n = cond s (neg_ℤ (pos n)) (pos n)

-- a block of the altimeter field: a sign, three bits of thousands, four of hundreds; in hundreds of feet
abbrev pub block_of : ℕ → ℤ
block_of x = signed (x / 128 == 1) (x / 16 % 8 * 10 + x % 16)

-- "hundreds above 9; minus zero"
abbrev pub block_unused : ℕ → Bool
block_unused x = nat_lt 9 (x % 16) || x == 128

-- the block of a number
abbrev pub block_bits : ℤ → ℕ
block_bits z = cond (negative z) 128 0 + unsigned_abs z / 10 * 16 + unsigned_abs z % 10

-- the number of an entry of `step` bits, and the bits of a number
unfoldable pub entry_of : ℕ → ℕ → ℤ
entry_of step x = cond (step == 8) (block_of x) (pos x)

unfoldable pub entry_bits : ℕ → ℤ → ℕ
entry_bits step z = cond (step == 8) (block_bits z) (unsigned_abs z)

-- the numbers that an entry of `step` bits can hold: -79 to 79, or those of 24 bits
unfoldable pub entry_fits : ℕ → ℤ → Bool
entry_fits step z = cond (step == 8) (nat_lt (unsigned_abs z) 80) (not (negative z) && nat_lt (unsigned_abs z) 16777216)

-- ---- lists of entries

-- a block that is not in use is among these
unfoldable pub any_unused : List ℕ → Bool
any_unused [] = false
any_unused (x ∷ xs) = block_unused x || any_unused xs

-- `room` numbers: the entries, and zeros behind them
unfoldable pub entries_in : ℕ → ℕ → List ℕ → List ℤ
entries_in step zero xs = []
entries_in step (suc room) [] = pos 0 ∷ entries_in step room []
entries_in step (suc room) (x ∷ xs) = entry_of step x ∷ entries_in step room xs

-- the first n numbers fit their entries, and the others are zero
unfoldable pub list_fits : ℕ → ℕ → List ℤ → Bool
list_fits step n [] = n == 0
list_fits step zero (z ∷ zs) = unsigned_abs z == 0 && list_fits step zero zs
list_fits step (suc n) (z ∷ zs) = entry_fits step z && list_fits step n zs

-- the bits of the first n numbers
unfoldable pub entries_bits : ℕ → ℕ → List ℤ → List ℕ
entries_bits step zero zs = []
entries_bits step (suc n) [] = []
entries_bits step (suc n) (z ∷ zs) = entry_bits step z ∷ entries_bits step n zs
