-- The check sequence byte by byte. Eight bits that are fed are added to the register's first eight, and eight zeros are fed; so the register's last
-- eight bits move up as they are, and the first eight leave the remainder that a formula gives. Assumes nothing.
use Prim.Native.Nat.{ℕ, zero, suc, ◌+◌, ◌-◌, ◌*◌, ◌/◌, ◌%◌, ◌^◌, ◌≤◌, ◌<◌}
use mathlib.Core.Path.{◌≡◌, refl, sym, ap, ap₂, ◌∙◌}
use mathlib.Core.Bool.{Bool, true, false, cond, xor}
use mathlib.Core.List.{List, [], ◌∷◌, ◌++◌}
use native.Mathlib.Decide.{ℕ_discrete}
use native.Mathlib.Nat.{zero-mul, zero-add, add-mul, mul_assoc}
use native.Mathlib.Omega.{arith}
use lib.Bits.{bit_xor, xor_block, xor_shr, xor_mod, xor_comm, xor_zero_r, xor_shifted}
use lib.Dec.{T, eqb, eqb→eq}
use lib.ListN.{length, get_or, take, replicate, length-append, length-replicate}
use lib.Seq.{length-take-le}
use Rattle.std.proofs.lemmas.List.{get_or-take}
use lib.Pow.{pow-add, shl_lt, shl-shr}
use Rattle.bits.specs.Bits.{bit_at}
use Rattle.bits.proofs.Laws.{byte_is}
use Rattle.frames.specs.Stream.{bit, bits_from, number, digits}
use Rattle.frames.specs.Check.{sum, fed, feed, preset, check_of}
use Rattle.frames.specs.Steps.{remainder_of, register_at}
use Rattle.frames.proofs.Numbered.{number_lt, number_cons, number_append, number_inj, length_digits, number_digits}
use Rattle.frames.proofs.Streamed.{bit_is, length-bits_from, bits_from_join, number_bits_from}
use Rattle.frames.proofs.Checked.{over, length_over, over_fed, feed_over, xor_bit, length_fed, length_feed, feed_append, fed_number, number_not}

abbrev zeros : ℕ → List Bool
zeros n = replicate n false

-- ---- bits added to a register

-- as numbers
number_over : (rs ds : List Bool) (k : ℕ) → length rs ≡ length ds + k → number (over rs ds) ≡ bit_xor (number rs) (number ds * 2 ^ k)
unfolding over number
number_over rs [] k e = sym (ap (bit_xor (number rs)) (zero-mul (2 ^ k)) ∙ xor_zero_r (number rs))
number_over [] (d ∷ ds) k e = absurd (omega arith)
number_over (r ∷ rs) (d ∷ ds) k e =
    let m : length rs ≡ length ds + k = omega arith in
    let w : (bit d * 2 ^ length ds + number ds) * 2 ^ k ≡ bit d * 2 ^ length rs + number ds * 2 ^ k =
    rw (add-mul, mul_assoc, ← pow-add 2 (length ds) k, ← m) in
    let l : number ds * 2 ^ k < 2 ^ length rs = rw m (shl_lt (length ds) k (number_lt ds)) in
    rw (number_cons (xor r d) (over rs ds), number_cons r rs, number_cons d ds, length_over, w, number_over rs ds k m)
    (sym (rw (xor_block (length rs) (bit r) (bit d) (number rs) (number ds * 2 ^ k) (number_lt rs) l, xor_bit r d)))

-- those behind the first k move up as they are while k zeros are fed
feed_behind : (rs ds : List Bool) (k : ℕ) → length rs ≡ 16 → k + length ds ≤ 16
    → feed (over rs (zeros k ++ ds)) (zeros k) ≡ over (feed rs (zeros k)) ds
unfolding feed over
feed_behind rs ds zero e l = refl
feed_behind [] ds (suc k) e l = absurd (omega arith)
feed_behind (r ∷ rs) ds (suc k) e l =
    let h : length (zeros k ++ ds) ≤ length rs = simp (length-append, length-replicate) (omega arith) in
    ap (λ (t : List Bool). feed t (zeros k)) (sym (over_fed r false rs (zeros k ++ ds) h))
    ∙ feed_behind (fed (r ∷ rs) false) ds k (length_fed (r ∷ rs) false e) (omega arith)

-- ---- the remainder of eight bits

-- a test that passes for every number below n: antt computes it
abbrev both : Bool → Bool → Bool
both true b = b
both false b = false

abbrev every : (ℕ → Bool) → ℕ → Bool
every f zero = true
every f (suc n) = both (f n) (every f n)

at : (f : ℕ → Bool) (n : ℕ) → T (every f n) → (k : ℕ) → k < n → T (f k)
at f zero t k h = absurd (omega arith)
at f (suc n) t k h = go (f n) refl t (ℕ_discrete k n) (λ t. at f n t k)
  where
    go : (b : Bool) → f n ≡ b → T (both b (every f n)) → Dec (k ≡ n) → (T (every f n) → k < n → T (f k)) → T (f k)
    go true e t (yes q) before = rw (q, e) tt
    go true e t (no q) before = before t (omega arith)
    go false e t d before = absurd t

-- what eight bits leave behind them when zeros are fed
left : ℕ → ℕ
left x = number (feed (digits 16 (x * 256)) (zeros 8))

left_is : (x : ℕ) → x < 256 → left x ≡ remainder_of x
unfolding left number digits feed fed sum xor
left_is x h = eqb→eq (left x) (remainder_of x) (at (λ x. eqb (left x) (remainder_of x)) 256 tt x h)

-- ---- a byte more

-- the register's last eight bits move up, and its first eight leave their remainder
zeros_fed : (rs : List Bool) → length rs ≡ 16
    → number (feed rs (zeros 8)) ≡ bit_xor (remainder_of (number rs / 256)) (number rs % 256 * 256)
unfolding left number
zeros_fed rs e =
    ap (λ (t : List Bool). number (feed t (zeros 8))) apart ∙ ap number (feed_behind hi lo 8 hi_length (rw lo_length (omega arith)))
    ∙ number_over (feed hi (zeros 8)) lo 8 (length_feed hi (zeros 8) hi_length ∙ rw lo_length)
    ∙ ap₂ bit_xor (left_is (number rs / 256) (omega (arith, below))) (ap (λ (l : ℕ). l * 256) lo_is)
  where
    n : ℕ
    n = number rs

    below : n < 65536
    below = rw e at (number_lt rs)

    hi : List Bool
    hi = digits 16 (n / 256 * 256)

    lo : List Bool
    lo = digits 8 (n % 256)

    hi_length : length hi ≡ 16
    hi_length = length_digits 16 (n / 256 * 256)

    lo_length : length lo ≡ 8
    lo_length = length_digits 8 (n % 256)

    lo_is : number lo ≡ n % 256
    lo_is = number_digits 8 (n % 256) (omega arith)

    apart : rs ≡ over hi (zeros 8 ++ lo)
    apart =
        number_inj rs (over hi (zeros 8 ++ lo)) (e ∙ sym (length_over hi (zeros 8 ++ lo) ∙ hi_length))
        (sym
        (number_over hi (zeros 8 ++ lo) 0 (hi_length ∙ rw lo_length)
        ∙ ap₂ bit_xor (number_digits 16 (n / 256 * 256) (omega (arith, below))) (rw (number_append (zeros 8) lo, lo_is) (omega arith))
        ∙ xor_shifted (n / 256) 8 (n % 256) (omega arith) ∙ omega arith))

-- eight bits that are fed, as the code takes them
byte_fed : (rs ds : List Bool) → length rs ≡ 16 → length ds ≡ 8
    → number (feed rs ds) ≡ bit_xor (number rs % 256 * 256) (remainder_of (bit_xor (number rs / 256) (number ds)))
byte_fed rs ds e l =
    ap number (feed_over rs ds e (omega arith)) ∙ ap (λ (k : ℕ). number (feed (over rs ds) (zeros k))) l ∙ zeros_fed (over rs ds) (length_over rs ds ∙ e)
    ∙ ap₂ (λ (x y : ℕ). bit_xor (remainder_of x) (y * 256)) high low ∙ xor_comm (remainder_of (bit_xor (number rs / 256) (number ds))) (number rs % 256 * 256)
  where
    is : number (over rs ds) ≡ bit_xor (number rs) (number ds * 256)
    is = number_over rs ds 8 (omega arith)

    high : number (over rs ds) / 256 ≡ bit_xor (number rs / 256) (number ds)
    high = ap (λ (x : ℕ). x / 256) is ∙ xor_shr (number rs) (number ds * 256) 8 ∙ ap (bit_xor (number rs / 256)) (shl-shr (number ds) 8)

    low : number (over rs ds) % 256 ≡ number rs % 256
    low =
        let z : number ds * 256 % 256 ≡ 0 = omega arith in
        ap (λ (x : ℕ). x % 256) is ∙ xor_mod (number rs) (number ds * 256) 8 ∙ ap (bit_xor (number rs % 256)) z ∙ xor_zero_r (number rs % 256)

-- ---- the bits of bytes

sixteen : (s : List ℕ) (p : ℕ) → length (feed preset (bits_from s 0 p)) ≡ 16
sixteen s p = length_feed preset (bits_from s 0 p) refl

-- the first p bits fed, and k more
feed_on : (s : List ℕ) (p k : ℕ) → register_at s (p + k) ≡ number (feed (feed preset (bits_from s 0 p)) (bits_from s p k))
feed_on s p k =
    ap number
    (ap (feed preset) (bits_from_join s 0 p k) ∙ feed_append preset (bits_from s 0 p) (bits_from s (0 + p) k)
    ∙ ap (λ (q : ℕ). feed (feed preset (bits_from s 0 p)) (bits_from s q k)) (zero-add p))

-- one bit more, and one byte more, as a loop's step has it
pub bit_on : (s : List ℕ) (p x r : ℕ) → x ≡ bit_at s p → r ≡ register_at s p
    → register_at s (p + 1) ≡ cond (eqb (r / 32768) x) (r * 2 % 65536) (bit_xor (r * 2 % 65536) 0x1021)
unfolding feed bits_from
bit_on s p x r e h = rw (h, e, ← bit_is s p) (feed_on s p 1 ∙ fed_number (feed preset (bits_from s 0 p)) (eqb (bit_at s p) 1) (sixteen s p))

pub byte_on : (s : List ℕ) (i x r : ℕ) → x ≡ get_or s i 0 → x < 256 → r ≡ register_at s (i * 8)
    → register_at s ((i + 1) * 8) ≡ bit_xor (r % 256 * 256) (remainder_of (bit_xor (r / 256) x))
byte_on s i x r e l h =
    let p = i * 8 in
    let n : (i + 1) * 8 ≡ p + 8 = omega arith in
    let b : number (bits_from s p 8) ≡ x = number_bits_from s p 8 ∙ sym (byte_is s i x e l) in
    rw (n, h, ← b) (feed_on s p 8 ∙ byte_fed (feed preset (bits_from s 0 p)) (bits_from s p 8) (sixteen s p) (length-bits_from s p 8))

-- the first m bytes have the bits that they have in all of them
front : (s : List ℕ) (m p n : ℕ) → p + n ≤ m * 8 → bits_from (take m s) p n ≡ bits_from s p n
unfolding bits_from bit_at
front s m p zero h = refl
front s m p (suc n) h = rw (get_or-take m s (p / 8) 0 (omega arith), front s m (p + 1) n (omega arith)) refl

pub front_fed : (s : List ℕ) (m : ℕ) → m ≤ length s → register_at (take m s) (length (take m s) * 8) ≡ register_at s (m * 8)
front_fed s m h = rw (length-take-le m s h, front s m 0 (m * 8) (omega arith)) refl

-- and at the end the complement
pub check_is : (s : List ℕ) (n r : ℕ) → r ≡ register_at s n → 65535 - r ≡ number (check_of (bits_from s 0 n))
unfolding check_of
check_is s n r h = rw h (sym (number_not (feed preset (bits_from s 0 n)) (sixteen s n)))
