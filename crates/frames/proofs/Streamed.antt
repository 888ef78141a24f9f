-- Laws of bits as a list: how a stretch begins, joins and is cut, the number that it makes, and that what was put reads back and leaves all else.
-- Assumes nothing.
use Prim.Native.Nat.{ℕ, zero, suc, ◌+◌, ◌-◌, ◌*◌, ◌/◌, ◌%◌, ◌^◌, ◌≤◌, ◌<◌}
use mathlib.Core.Path.{◌≡◌, refl, sym, ap, ◌∙◌}
use mathlib.Core.Bool.{Bool, true, false}
use mathlib.Core.List.{List, [], ◌∷◌, ◌++◌}
use mathlib.Core.Logic.{◌⊎◌, inl, inr, ⊎_elim}
use native.Mathlib.Nat.{add-zero, div-add-mod'}
use native.Mathlib.Omega.{arith}
use lib.Dec.{eqb}
use lib.ListN.{length, get_or, take, drop}
use lib.Pow.{split}
use lib.Seq.{take_at, drop_at, set-get_or}
use Rattle.bits.specs.Bits.{bit_at, bits_of, with_digit, put_bit, put_bits, Bytes}
use Rattle.bits.proofs.Laws.{bit_at_lt, bits_of_join, put_bit_same, length-put_bit, put_bits_other, put_bits_bytes}
use Rattle.frames.specs.Stream.{bit, bits_from, put_all, number}
use Rattle.frames.specs.Reading.{stream_at}
use Rattle.frames.proofs.Numbered.{bit_lt}

-- ---- a stretch of bits

pub length-bits_from : (s : List ℕ) (p n : ℕ) → length (bits_from s p n) ≡ n
unfolding bits_from
length-bits_from s p zero = refl
length-bits_from s p (suc n) = ap suc (length-bits_from s (p + 1) n)

-- a bit that is read is the number that it was
pub bit_is : (s : List ℕ) (p : ℕ) → bit (eqb (bit_at s p) 1) ≡ bit_at s p
bit_is s p = go (bit_at s p) (bit_at_lt s p)
  where
    go : (x : ℕ) → x < 2 → bit (eqb x 1) ≡ x
    go zero h = refl
    go (suc zero) h = refl
    go (suc (suc x)) h = absurd (omega arith)

-- up to the count: the first bit, and the rest
pub stream_cons : (s : List ℕ) (count p : ℕ) → p < count → stream_at s count p ≡ eqb (bit_at s p) 1 ∷ stream_at s count (p + 1)
unfolding bits_from
stream_cons s count p h =
    let e : count - p ≡ suc (count - (p + 1)) = omega arith in
    rw e refl

pub stream_none : (s : List ℕ) (count p : ℕ) → count ≤ p → stream_at s count p ≡ []
unfolding bits_from
stream_none s count p h =
    let e : count - p ≡ 0 = omega arith in
    rw e refl

pub bits_from_join : (s : List ℕ) (p a b : ℕ) → bits_from s p (a + b) ≡ bits_from s p a ++ bits_from s (p + a) b
unfolding bits_from
bits_from_join s p zero b =
    let e : zero + b ≡ b = omega arith in
    let f : p + zero ≡ p = omega arith in
    rw (e, f) refl
bits_from_join s p (suc a) b =
    let e : suc a + b ≡ suc (a + b) = omega arith in
    let f : p + 1 + a ≡ p + suc a = omega arith in
    rw (e, sym f) (ap (λ (t : List Bool). eqb (bit_at s p) 1 ∷ t) (bits_from_join s (p + 1) a b))

-- up to the count: the first k bits, and the rest
pub stream_join : (s : List ℕ) (count p k : ℕ) → p + k ≤ count → stream_at s count p ≡ bits_from s p k ++ stream_at s count (p + k)
stream_join s count p k h =
    let e : count - p ≡ k + (count - (p + k)) = omega arith in
    ap (bits_from s p) e ∙ bits_from_join s p k (count - (p + k))

-- the first bits, and those behind them
pub take-bits_from : (s : List ℕ) (p a n : ℕ) → a ≤ n → take a (bits_from s p n) ≡ bits_from s p a
take-bits_from s p a n h =
    let e : n ≡ a + (n - a) = omega arith in
    ap (λ (k : ℕ). take a (bits_from s p k)) e ∙ ap (take a) (bits_from_join s p a (n - a)) ∙ take_at (bits_from s p a) (bits_from s (p + a) (n - a)) a (length-bits_from s p a)

pub drop-bits_from : (s : List ℕ) (p a n : ℕ) → a ≤ n → drop a (bits_from s p n) ≡ bits_from s (p + a) (n - a)
drop-bits_from s p a n h =
    let e : n ≡ a + (n - a) = omega arith in
    ap (λ (k : ℕ). drop a (bits_from s p k)) e ∙ ap (drop a) (bits_from_join s p a (n - a)) ∙ drop_at (bits_from s p a) (bits_from s (p + a) (n - a)) a (length-bits_from s p a)

-- bits that are the same one by one
pub bits_from_same : (s t : List ℕ) (p q n : ℕ) → ((k : ℕ) → k < n → bit_at s (p + k) ≡ bit_at t (q + k)) → bits_from s p n ≡ bits_from t q n
unfolding bits_from
bits_from_same s t p q zero h = refl
bits_from_same s t p q (suc n) h =
    let a : bit_at s p ≡ bit_at t q = rw (add-zero p, add-zero q) at (h 0 (omega arith)) in
    let b : bits_from s (p + 1) n ≡ bits_from t (q + 1) n = bits_from_same s t (p + 1) (q + 1) n (λ k l. step k (h (suc k) (omega arith))) in
    rw (a, b) refl
  where
    step : (k : ℕ) → bit_at s (p + suc k) ≡ bit_at t (q + suc k) → bit_at s (p + 1 + k) ≡ bit_at t (q + 1 + k)
    step k e =
        let f : p + 1 + k ≡ p + suc k = omega arith in
        let g : q + 1 + k ≡ q + suc k = omega arith in
        rw (f, g) e

-- the number that a stretch makes
pub number_bits_from : (s : List ℕ) (p n : ℕ) → number (bits_from s p n) ≡ bits_of s p n
unfolding bits_from number bits_of
number_bits_from s p zero = refl
number_bits_from s p (suc n) =
    let e : suc n ≡ 1 + n = omega arith in
    let z : p + 0 ≡ p = add-zero p in
    let o : bits_of s p 1 ≡ bit_at s p = rw z (omega arith) in
    rw (bit_is s p, length-bits_from s (p + 1) n, number_bits_from s (p + 1) n) (sym (ap (bits_of s p) e ∙ bits_of_join s p 1 n ∙ rw o refl))

-- ---- bits that are put

bit_back : (b : Bool) → eqb (bit b) 1 ≡ b
bit_back true = refl
bit_back false = refl

-- one bit is a field of one bit
put_bit_one : (s : List ℕ) (p : ℕ) (b : Bool) → put_bit s p (bit b) ≡ put_bits s p 1 (bit b)
unfolding put_bits
put_bit_one s p true = rw (add-zero p) refl
put_bit_one s p false = rw (add-zero p) refl

put_bit_other : (s : List ℕ) (p : ℕ) (b : Bool) (j : ℕ) → (j < p) ⊎ (p + 1 ≤ j) → bit_at (put_bit s p (bit b)) j ≡ bit_at s j
put_bit_other s p b j o = rw (put_bit_one s p b) (put_bits_other s p 1 (bit b) j o)

-- a bit that is put where it stands changes nothing
pub put_there : (s : List ℕ) (p : ℕ) → put_bit s p (bit_at s p) ≡ s
unfolding put_bit bit_at with_digit
put_there s p =
    let x = get_or s (p / 8) 0 in
    let k = 7 - p % 8 in
    rw (div-add-mod' (x / 2 ^ k) 2, split x k) (set-get_or s (p / 8) 0)

pub length-put_all : (s : List ℕ) (p : ℕ) (bs : List Bool) → length (put_all s p bs) ≡ length s
unfolding put_all
length-put_all s p [] = refl
length-put_all s p (b ∷ bs) = length-put_all (put_bit s p (bit b)) (p + 1) bs ∙ length-put_bit s p (bit b)

pub put_all_bytes : (s : List ℕ) (p : ℕ) (bs : List Bool) → Bytes s → Bytes (put_all s p bs)
unfolding put_all
put_all_bytes s p [] h = h
put_all_bytes s p (b ∷ bs) h = put_all_bytes (put_bit s p (bit b)) (p + 1) bs (rw (put_bit_one s p b) (put_bits_bytes s p 1 (bit b) h))

pub put_all-append : (s : List ℕ) (p : ℕ) (xs ys : List Bool) → put_all s p (xs ++ ys) ≡ put_all (put_all s p xs) (p + length xs) ys
unfolding put_all
put_all-append s p [] ys = rw (add-zero p) refl
put_all-append s p (x ∷ xs) ys =
    let e : p + 1 + length xs ≡ p + suc (length xs) = omega arith in
    rw (sym e) (put_all-append (put_bit s p (bit x)) (p + 1) xs ys)

-- one bit more
pub put_all_snoc : (s : List ℕ) (p : ℕ) (xs : List Bool) (x : Bool) → put_all s p (xs ++ (x ∷ [])) ≡ put_bit (put_all s p xs) (p + length xs) (bit x)
unfolding put_all
put_all_snoc s p xs x = put_all-append s p xs (x ∷ [])

-- what lies before or after the bits that are put stays
pub put_all_other : (s : List ℕ) (p : ℕ) (bs : List Bool) (j : ℕ) → (j < p) ⊎ (p + length bs ≤ j) → bit_at (put_all s p bs) j ≡ bit_at s j
unfolding put_all
put_all_other s p [] j o = refl
put_all_other s p (b ∷ bs) j o =
    put_all_other (put_bit s p (bit b)) (p + 1) bs j (⊎_elim (λ l. inl (omega arith)) (λ l. inr (omega arith)) o)
    ∙ put_bit_other s p b j (⊎_elim (λ l. inl l) (λ l. inr (omega arith)) o)

pub bits_from-put_all_other : (s : List ℕ) (p : ℕ) (bs : List Bool) (g m : ℕ) → (g + m ≤ p) ⊎ (p + length bs ≤ g)
    → bits_from (put_all s p bs) g m ≡ bits_from s g m
bits_from-put_all_other s p bs g m o =
    bits_from_same (put_all s p bs) s g g m (λ k l. put_all_other s p bs (g + k) (⊎_elim (λ h. inl (omega arith)) (λ h. inr (omega arith)) o))

-- and what was put reads back
pub bits_from-put_all : (s : List ℕ) (p : ℕ) (bs : List Bool) → p + length bs ≤ length s * 8 → bits_from (put_all s p bs) p (length bs) ≡ bs
unfolding put_all bits_from
bits_from-put_all s p [] h = refl
bits_from-put_all s p (b ∷ bs) h =
    let t = put_bit s p (bit b) in
    let a : bit_at (put_all t (p + 1) bs) p ≡ bit b =
    put_all_other t (p + 1) bs p (inl (omega arith)) ∙ put_bit_same s p (bit b) (omega arith) (bit_lt b) in
    let r : bits_from (put_all t (p + 1) bs) (p + 1) (length bs) ≡ bs = bits_from-put_all t (p + 1) bs (rw length-put_bit (omega arith)) in
    rw (a, r, bit_back b) refl
