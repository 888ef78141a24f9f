-- Pairs of eight-byte numbers in a list of bytes, high byte first: a number, and the value that goes with it. Definitions only.
use Rattle.std.specs.Prelude.{ℕ, zero, suc, ◌+◌, ◌/◌, ◌≤◌, ◌<◌, cond, ◌≡◌, ◌⊎◌, List, [], ◌∷◌, eqb, length, drop, None, Option, Some}
use Rattle.bits.specs.Bits.{bits_of}

abbrev pub Pair : Type 0
Pair = ℕ × ℕ

-- the number of the first eight bytes
abbrev pub eight : List ℕ → ℕ
eight s = bits_of s 0 64

-- the first n pairs
unfoldable pub pairs : ℕ → List ℕ → List Pair
pairs zero s = []
pairs (suc n) s = (eight s, eight (drop 8 s)) ∷ pairs n (drop 16 s)

-- all whole pairs
unfoldable pub pairs_in : List ℕ → List Pair
pairs_in s = pairs (length s / 16) s

-- the value of the first pair with this number
unfoldable pub find_in : ℕ → List Pair → Option ℕ
find_in n [] = None
find_in n (p ∷ ps) = cond (eqb p.0 n) (Some p.1) (find_in n ps)

-- its value; 0 where there is none
abbrev pub value_of : Option ℕ → ℕ
value_of (Some v) = v
value_of None = 0

-- what f says of what is found for each of k numbers, n the first. The f stays: the law `each_at` of proofs/Laws.antt, which other crates name, is of
-- every f
unfoldable pub each_from : {X : Type 0} → (Option ℕ → X) → ℕ → ℕ → List Pair → List X
each_from f n zero ps = []
each_from f n (suc k) ps = f (find_in n ps) ∷ each_from f (suc n) k ps

-- so many numbers are looked for at once: a record has at most 36 items, whose numbers stand together, and reports also use 0
abbrev pub slots : ℕ
slots = 37

-- what is found for the numbers from n on
unfoldable pub gathered_from : ℕ → List Pair → List (Option ℕ)
gathered_from n ps = each_from (λ x. x) n slots ps

-- k is the place of the number m among the numbers from n on; or there is none, and m is none of them
abbrev pub Slot : ℕ → ℕ → Option ℕ → Type 0
Slot n m (Some k) = (k < slots) × (n + k ≡ m)
Slot n m None = (m < n) ⊎ (n + slots ≤ m)
