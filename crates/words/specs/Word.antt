-- The 13-bit word (document 01, "The line"): bit 1 weighs 4096 and bit 13 weighs 1; bit 13 makes the number of ones odd. Definitions only.
-- `ones` is the language's own count of a number's set digits.
use Rattle.std.specs.Prelude.{ℕ, zero, suc, ◌+◌, ◌*◌, ◌/◌, ◌%◌, ◌-◌, ◌≤◌, ◌^◌, ◌≡◌, Bool, not, cond, List, [], ◌∷◌, eqb, ltb, get_or}
use Rattle.std.specs.Int.Bits.{bit_xor}
use Rattle.std.specs.Int.Count.{ones}

-- ---- one word

-- the idle word, 000 111 111 111 1
abbrev pub idle : ℕ
idle = 1023

-- the largest word
abbrev pub largest : ℕ
largest = 8191

-- more than thirteen bits
abbrev pub wider_than_a_word : ℕ → Bool
wider_than_a_word w = ltb largest w

-- an odd number of ones
abbrev pub odd : ℕ → Bool
odd w = eqb (ones w % 2) 1

-- an even number of ones
abbrev pub even : ℕ → Bool
even w = not (odd w)

-- bits 1 to 12, which are the data; in a word that is too wide, whatever stands above bit 1 too
abbrev pub data_bits : ℕ → ℕ
data_bits w = w / 2

-- the word of its data bits: bit 13 is one where their number of ones is even
abbrev pub word_of : ℕ → ℕ
word_of d = d * 2 + (1 - ones d % 2)

-- a word with bit k turned over, k from 1 to 13
abbrev pub flipped : ℕ → ℕ → ℕ
flipped k w = bit_xor w (2 ^ (13 - k))

-- a word that a report can have: thirteen bits, an odd number of ones
pub record Good (w : ℕ) : Type 0 where
  pub narrow : w ≤ largest
  pub parity : ones w % 2 ≡ 1

abbrev pub AllGood : List ℕ → Type 0
AllGood [] = Unit {0}
AllGood (w ∷ ws) = Good w × AllGood ws

-- the offset of the first word that has the fault p; where none has, the number of words
unfoldable pub first : (ℕ → Bool) → List ℕ → ℕ
first p [] = 0
first p (w ∷ ws) = cond (p w) 0 (suc (first p ws))

-- ---- the bits of a report

-- bits a to b of a report, numbered over all its words with the parity bits counted; a and b stand in one word
abbrev pub bits : List ℕ → ℕ → ℕ → ℕ
bits ws a b = get_or ws ((a - 1) / 13) 0 / 2 ^ (12 - (b - 1) % 13) % 2 ^ (b + 1 - a)

-- bit a is one
abbrev pub bit : List ℕ → ℕ → Bool
bit ws a = eqb (bits ws a a) 1

-- how many of a report's bits 1 to k are one, parity bits counted
unfoldable pub ones_to : ℕ → List ℕ → ℕ
ones_to zero ws = 0
ones_to (suc k) ws = ones_to k ws + bits ws (suc k) (suc k)

-- bits a to b and then bits c to d, as one number: a number that a parity bit divides
abbrev pub bits_then : List ℕ → ℕ → ℕ → ℕ → ℕ → ℕ
bits_then ws a b c d = bits ws a b * 2 ^ (d + 1 - c) + bits ws c d
