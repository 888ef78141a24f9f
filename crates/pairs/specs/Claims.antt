-- What is claimed of pairs. Statements only; proofs/Claims.antt proves them.
use Rattle.std.specs.Prelude.{ℕ, ◌/◌, ◌%◌, ◌^◌, ◌<◌, ◌≡◌, List, [], ◌∷◌, ◌++◌, length}
use Rattle.pairs.specs.Pairs.{Pair, pairs_in}

-- eight bytes, high byte first
abbrev pub eight_bytes : ℕ → List ℕ
eight_bytes v =
    v / 2 ^ 56 % 256 ∷ v / 2 ^ 48 % 256 ∷ v / 2 ^ 40 % 256 ∷ v / 2 ^ 32 % 256 ∷ v / 2 ^ 24 % 256 ∷ v / 2 ^ 16 % 256 ∷ v / 2 ^ 8 % 256 ∷ v % 256 ∷ []

-- the bytes of pairs, as a C program lays them out
unfoldable pub bytes_of : List Pair → List ℕ
bytes_of [] = []
bytes_of (p ∷ ps) = eight_bytes p.0 ++ (eight_bytes p.1 ++ bytes_of ps)

-- numbers of 64 bits
abbrev pub Held : List Pair → Type 0
Held [] = Unit {0}
Held (p ∷ ps) = (p.0 < 2 ^ 64) × (p.1 < 2 ^ 64) × Held ps

-- every pairs can be given: whole, and they are what is read
abbrev pub Given : Type 0
Given = (ps : List Pair) → Held ps → (length (bytes_of ps) % 16 ≡ 0) × (pairs_in (bytes_of ps) ≡ ps)
