-- The bits of lent bytes as a list, in the order of the line: the first bit is the top bit of the first byte, and no octet is turned round.
-- Definitions only.
use Rattle.std.specs.Prelude.{ℕ, zero, suc, ◌+◌, ◌*◌, ◌/◌, ◌%◌, ◌^◌, Bool, cond, List, [], ◌∷◌, eqb, length}
use Rattle.bits.specs.Bits.{bit_at, put_bit}

-- a bit as a number
abbrev pub bit : Bool → ℕ
bit b = cond b 1 0

-- the n bits of the bytes that stand behind the first p
unfoldable pub bits_from : List ℕ → ℕ → ℕ → List Bool
bits_from s p zero = []
bits_from s p (suc n) = eqb (bit_at s p) 1 ∷ bits_from s (p + 1) n

-- the bytes with the bits behind the first p replaced by these, as many as these are; all other bits stay, and past the end nothing changes
unfoldable pub put_all : List ℕ → ℕ → List Bool → List ℕ
put_all s p [] = s
put_all s p (b ∷ bs) = put_all (put_bit s p (bit b)) (p + 1) bs

-- the number that bits make, the first bit the heaviest
unfoldable pub number : List Bool → ℕ
number [] = 0
number (b ∷ bs) = bit b * 2 ^ length bs + number bs

-- a number as n bits, the first bit the heaviest
unfoldable pub digits : ℕ → ℕ → List Bool
digits zero v = []
digits (suc n) v = eqb (v / 2 ^ n % 2) 1 ∷ digits n v
