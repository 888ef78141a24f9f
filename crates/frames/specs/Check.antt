-- The frame check sequence (ISO/IEC 13239, as document 02 asks in Ticket 1): sixteen bits, by the generator x^16 + x^12 + x^5 + 1. Bits are the
-- coefficients of a polynomial, the highest power first, and sums are without carry. Definitions only.
use Rattle.std.specs.Prelude.{◌+◌, ◌^◌, Bool, true, false, not, cond, List, [], ◌∷◌, ◌++◌, map, replicate}
use Rattle.std.specs.Bool.{xor}
use Rattle.frames.specs.Stream.{digits}

-- the sum of two polynomials, power by power
unfoldable pub sum : List Bool → List Bool → List Bool
sum [] ys = []
sum (x ∷ xs) [] = []
sum (x ∷ xs) (y ∷ ys) = xor x y ∷ sum xs ys

-- the generator's powers below x^16: x^12, x^5 and 1
abbrev pub generator : List Bool
generator = digits 16 (2 ^ 12 + 2 ^ 5 + 1)

-- the register takes one bit more: it moves up one power, and the generator is added if what leaves it differs from the bit
unfoldable pub fed : List Bool → Bool → List Bool
fed [] b = []
fed (r ∷ rs) b = cond (xor r b) (sum (rs ++ (false ∷ [])) generator) (rs ++ (false ∷ []))

-- and bits one after the other
unfoldable pub feed : List Bool → List Bool → List Bool
feed rs [] = rs
feed rs (b ∷ bs) = feed (fed rs b) bs

-- the register begins with ones
abbrev pub preset : List Bool
preset = replicate 16 true

-- the check sequence of bits: the remainder, complemented
unfoldable pub check_of : List Bool → List Bool
check_of bs = map not (feed preset bs)
