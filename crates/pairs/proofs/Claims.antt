-- The claims of specs/Claims.antt: bytes laid out high byte first read as the numbers. Assumes nothing.
use mathlib.Core.Path.{◌≡◌, refl, ap, ◌∙◌}
use mathlib.Core.List.{List, [], ◌∷◌, ◌++◌}
use Prim.Native.Nat.{ℕ, ◌+◌, ◌*◌, ◌/◌, ◌%◌, ◌^◌, ◌<◌}
use native.Mathlib.Omega.{arith}
use lib.ListN.{length, get_or}
use Rattle.bits.specs.Bits.{bits_of, Bytes}
use Rattle.bits.proofs.Laws.{bits_of_join, byte_bits}
use Rattle.pairs.specs.Pairs.{Pair, eight, pairs, pairs_in}
use Rattle.pairs.specs.Claims.{eight_bytes, bytes_of, Held, Given}

-- a byte, and the bits behind it
step : (s : List ℕ) (i k : ℕ) → Bytes s → bits_of s (i * 8) (8 + k) ≡ get_or s i 0 * 2 ^ k + bits_of s (i * 8 + 8) k
step s i k b = bits_of_join s (i * 8) 8 k ∙ ap (λ (x : ℕ). x * 2 ^ k + bits_of s (i * 8 + 8) k) (byte_bits s i b)

-- eight bytes are the number of their bits
eight_is : (s : List ℕ) → Bytes s
    → eight s
    ≡ get_or s 0 0 * 2 ^ 56 + (get_or s 1 0 * 2 ^ 48 + (get_or s 2 0 * 2 ^ 40 + (get_or s 3 0 * 2 ^ 32 + (get_or s 4 0 * 2 ^ 24 + (get_or s 5 0 * 2 ^ 16 + (get_or s 6 0 * 2 ^ 8 + get_or s 7 0))))))
eight_is s b =
    let e0 = step s 0 56 b in
    let e1 = step s 1 48 b in
    let e2 = step s 2 40 b in
    let e3 = step s 3 32 b in
    let e4 = step s 4 24 b in
    let e5 = step s 5 16 b in
    let e6 = step s 6 8 b in
    let e7 = byte_bits s 7 b in
    omega arith

-- a number of 64 bits by its bytes, one more at a time
part8 : (v : ℕ) → v / 2 ^ 8 % 256 * 2 ^ 8 + v % 2 ^ 8 ≡ v % 2 ^ 16
part8 v = omega arith

part16 : (v : ℕ) → v / 2 ^ 16 % 256 * 2 ^ 16 + v % 2 ^ 16 ≡ v % 2 ^ 24
part16 v = omega arith

part24 : (v : ℕ) → v / 2 ^ 24 % 256 * 2 ^ 24 + v % 2 ^ 24 ≡ v % 2 ^ 32
part24 v = omega arith

part32 : (v : ℕ) → v / 2 ^ 32 % 256 * 2 ^ 32 + v % 2 ^ 32 ≡ v % 2 ^ 40
part32 v = omega arith

part40 : (v : ℕ) → v / 2 ^ 40 % 256 * 2 ^ 40 + v % 2 ^ 40 ≡ v % 2 ^ 48
part40 v = omega arith

part48 : (v : ℕ) → v / 2 ^ 48 % 256 * 2 ^ 48 + v % 2 ^ 48 ≡ v % 2 ^ 56
part48 v = omega arith

part56 : (v : ℕ) → v < 2 ^ 64 → v / 2 ^ 56 % 256 * 2 ^ 56 + v % 2 ^ 56 ≡ v
part56 v h = omega arith

whole_number : (v : ℕ) → v < 2 ^ 64
    → v / 2 ^ 56 % 256 * 2 ^ 56
    + (v / 2 ^ 48 % 256 * 2 ^ 48
    + (v / 2 ^ 40 % 256 * 2 ^ 40
    + (v / 2 ^ 32 % 256 * 2 ^ 32
    + (v / 2 ^ 24 % 256 * 2 ^ 24
    + (v / 2 ^ 16 % 256 * 2 ^ 16
    + (v / 2 ^ 8 % 256 * 2 ^ 8 + v % 256))))))
    ≡ v
whole_number v h = rw (part8 v, part16 v, part24 v, part32 v, part40 v, part48 v) (part56 v h)

bytes-of : (v : ℕ) (t : List ℕ) → Bytes t → Bytes (eight_bytes v ++ t)
bytes-of v t b =
    (byte _, (byte _, (byte _, (byte _, (byte _, (byte _, (byte _, (byte _, b))))))))
  where
    byte : (x : ℕ) → x % 256 < 256
    byte x = omega arith

eight_back : (v : ℕ) (t : List ℕ) → v < 2 ^ 64 → Bytes t → eight (eight_bytes v ++ t) ≡ v
eight_back v t h b = eight_is (eight_bytes v ++ t) (bytes-of v t b) ∙ whole_number v h

all_bytes : (ps : List Pair) → Bytes (bytes_of ps)
unfolding bytes_of
all_bytes [] = tt
all_bytes (p ∷ ps) = bytes-of p.0 (eight_bytes p.1 ++ bytes_of ps) (bytes-of p.1 (bytes_of ps) (all_bytes ps))

size : (ps : List Pair) → length (bytes_of ps) ≡ length ps * 16
unfolding bytes_of
size [] = refl
size (p ∷ ps) = let h = size ps in omega arith

abbrev cons : ℕ → ℕ → List Pair → List Pair
cons x y l = (x, y) ∷ l

pairs_back : (ps : List Pair) → Held ps → pairs (length ps) (bytes_of ps) ≡ ps
unfolding bytes_of pairs
pairs_back [] h = refl
pairs_back (p ∷ ps) h =
    let t = bytes_of ps in
    let b = all_bytes ps in
    let n = length ps in
    ap (λ (x : ℕ). cons x (eight (eight_bytes p.1 ++ t)) (pairs n t)) (eight_back p.0 (eight_bytes p.1 ++ t) h.0 (bytes-of p.1 t b))
    ∙ ap (λ (y : ℕ). cons p.0 y (pairs n t)) (eight_back p.1 t h.1 b)
    ∙ ap (λ (l : List Pair). cons p.0 p.1 l) (pairs_back ps h.2)

pub given : Given
unfolding pairs_in
given ps h =
    let n = size ps in
    let k : length (bytes_of ps) / 16 ≡ length ps = omega arith in
    (omega arith, ap (λ (m : ℕ). pairs m (bytes_of ps)) k ∙ pairs_back ps h)
