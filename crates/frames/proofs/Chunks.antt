-- Many bits at a time: a field of bits that is put as a number is put bit by bit. For the code that works on more than one bit.
-- Assumes nothing.
use Prim.Native.Nat.{ℕ, zero, suc, ◌+◌, ◌*◌, ◌/◌, ◌%◌, ◌^◌, ◌≤◌, ◌<◌}
use mathlib.Core.Path.{◌≡◌, refl, sym, ap, ◌∙◌}
use mathlib.Core.Bool.{Bool}
use mathlib.Core.List.{List, [], ◌∷◌, ◌++◌}
use mathlib.Core.Logic.{◌⊎◌, inl, inr}
use native.Mathlib.Decide.{dec_lt, ℕ_discrete}
use native.Mathlib.Nat.{mod-lt, zero-add, zero-lt-suc}
use native.Mathlib.Omega.{arith}
use lib.Dec.{eqb, lit<}
use lib.ListN.{length, get_or, replicate}
use Rattle.bits.specs.Bits.{bit_at, bits_of, put_bit, put_bits, Bytes}
use Rattle.bits.proofs.Laws.{whole, put_bit_same, length-put_bit, bits_tell_bytes}
use Rattle.frames.specs.Stream.{bit, bits_from, put_all, number, digits}
use Rattle.frames.proofs.Numbered.{bit_lt, bit_back, length_digits, digits_snoc, digits_number}
use Rattle.frames.proofs.Streamed.{length-bits_from, bits_from_join, number_bits_from, put_all_bytes, put_all-append, put_all_snoc, put_all_other}

-- zeros are bytes, and so is what a slice or an array of bytes holds
pub zero_bytes : (n : ℕ) → Bytes (replicate n 0)
zero_bytes zero = tt
zero_bytes (suc n) = (lit< tt, zero_bytes n)

pub are_bytes : (s : List ℕ) → ((i : ℕ) → get_or s i 0 < 256) → Bytes s
are_bytes [] h = tt
are_bytes (x ∷ s) h = (h 0, are_bytes s (λ i. h (suc i)))

-- ---- a number that is put is its digits, one after the other

module _ (s : List ℕ) (p : ℕ) (a : Bool) where
  one_bytes : Bytes s → Bytes (put_bit s p (bit a))
  unfolding put_all
  one_bytes b = put_all_bytes s p (a ∷ []) b

  one_same : (j : ℕ) → j ≡ p → j < length s * 8 → bit_at (put_bit s p (bit a)) j ≡ bit a
  one_same j e l = ap (bit_at (put_bit s p (bit a))) e ∙ put_bit_same s p (bit a) (omega arith) (bit_lt a)

  one_other : (j : ℕ) → (j ≡ p → ⊥) → bit_at (put_bit s p (bit a)) j ≡ bit_at s j
  unfolding put_all
  one_other j f = put_all_other s p (a ∷ []) j (apart (dec_lt j p))
    where
      apart : Dec (j < p) → (j < p) ⊎ (p + 1 ≤ j)
      apart (yes l) = inl l
      apart (no l) = inr (omega (arith, l, f))

-- two bits are put in either order
swapped : (s : List ℕ) (p q : ℕ) (a b : Bool) → Bytes s → p < q → put_bit (put_bit s q (bit b)) p (bit a) ≡ put_bit (put_bit s p (bit a)) q (bit b)
swapped s p q a b h l =
    let x = put_bit s q (bit b) in
    let y = put_bit s p (bit a) in
    let m = length-put_bit s p (bit a) in
    let n = length-put_bit s q (bit b) in
    let k = length-put_bit x p (bit a) in
    bits_tell_bytes _ _ (one_bytes x p a (one_bytes s q b h)) (one_bytes y q b (one_bytes s p a h)) (k ∙ n ∙ sym (length-put_bit y q (bit b) ∙ m))
    (λ j g. by_place j (omega (arith, g, k, n)) (ℕ_discrete j p) (ℕ_discrete j q))
  where
    by_place : (j : ℕ) → j < length s * 8 → Dec (j ≡ p) → Dec (j ≡ q)
        → bit_at (put_bit (put_bit s q (bit b)) p (bit a)) j ≡ bit_at (put_bit (put_bit s p (bit a)) q (bit b)) j
    by_place j g (yes e) d =
        one_same (put_bit s q (bit b)) p a j e (rw (length-put_bit s q (bit b)) g) ∙ sym (one_other (put_bit s p (bit a)) q b j (λ f. omega arith) ∙ one_same s p a j e g)
    by_place j g (no f) (yes e) =
        one_other (put_bit s q (bit b)) p a j f ∙ one_same s q b j e g ∙ sym (one_same (put_bit s p (bit a)) q b j e (rw (length-put_bit s p (bit a)) g))
    by_place j g (no f) (no e) =
        one_other (put_bit s q (bit b)) p a j f ∙ one_other s q b j e ∙ sym (one_other (put_bit s p (bit a)) q b j e ∙ one_other s p a j f)

last_first : (s : List ℕ) (p q : ℕ) (xs : List Bool) (b : Bool) → Bytes s → p + length xs ≤ q → put_all (put_bit s q (bit b)) p xs ≡ put_bit (put_all s p xs) q (bit b)
unfolding put_all
last_first s p q [] b h l = refl
last_first s p q (x ∷ xs) b h l =
    ap (λ (t : List ℕ). put_all t (p + 1) xs) (swapped s p q x b h (omega arith)) ∙ last_first (put_bit s p (bit x)) (p + 1) q xs b (one_bytes s p x h) (omega arith)

-- past the end too
pub put_number : (s : List ℕ) (p n v : ℕ) → Bytes s → put_bits s p n v ≡ put_all s p (digits n v)
unfolding put_bits put_all digits
put_number s p zero v h = refl
put_number s p (suc n) v h =
    let x = eqb (v % 2) 1 in
    let e : v % 2 ≡ bit x = sym (bit_back (v % 2) (mod-lt v (zero-lt-suc 1))) in
    let k = length_digits n (v / 2) in
    ap (λ (z : ℕ). put_bits (put_bit s (p + n) z) p n (v / 2)) e ∙ put_number (put_bit s (p + n) (bit x)) p n (v / 2) (one_bytes s (p + n) x h)
    ∙ last_first s p (p + n) (digits n (v / 2)) x h (omega (arith, k))
    ∙ sym
    (ap (put_all s p) (digits_snoc n v) ∙ put_all_snoc s p (digits n (v / 2)) x ∙ ap (λ (j : ℕ). put_bit (put_all s p (digits n (v / 2))) (p + j) (bit x)) k)

-- what is read there is put here
pub digits_of : (t : List ℕ) (q n : ℕ) → digits n (bits_of t q n) ≡ bits_from t q n
digits_of t q n =
    ap (λ (k : ℕ). digits k (bits_of t q n)) (sym (length-bits_from t q n)) ∙ ap (digits (length (bits_from t q n))) (sym (number_bits_from t q n))
    ∙ digits_number (bits_from t q n)

pub put_read : (s t : List ℕ) (p q n r : ℕ) → Bytes s → n ≤ 64 → r ≡ bits_of t q n % 2 ^ 64 → put_bits s p n r ≡ put_all s p (bits_from t q n)
put_read s t p q n r b l e = rw (e ∙ whole t q n l) (put_number s p n (bits_of t q n) b ∙ ap (put_all s p) (digits_of t q n))

-- n bits more of a stretch that is copied
pub put_more : (s t : List ℕ) (at from p n r : ℕ) → Bytes s → n ≤ 64 → r ≡ bits_of t (from + p) n % 2 ^ 64
    → put_bits (put_all s at (bits_from t from p)) (at + p) n r ≡ put_all s at (bits_from t from (p + n))
put_more s t at from p n r b l e =
    let k = length-bits_from t from p in
    put_read (put_all s at (bits_from t from p)) t (at + p) (from + p) n r (put_all_bytes s at (bits_from t from p) b) l e
    ∙ sym
    (ap (put_all s at) (bits_from_join t from p n) ∙ put_all-append s at (bits_from t from p) (bits_from t (from + p) n)
    ∙ ap (λ (j : ℕ). put_all (put_all s at (bits_from t from p)) (at + j) (bits_from t (from + p) n)) k)

-- bits that are put as the number that they make, behind those that were put into zeros
pub put-bits : (s : List ℕ) (p n v : ℕ) (bs : List Bool) → Bytes s → length bs ≡ n → v ≡ number bs → put_bits s p n v ≡ put_all s p bs
put-bits s p n v bs b k e = put_number s p n v b ∙ ap (put_all s p) (rw (e, sym k) (digits_number bs))

pub fill_more : (s : List ℕ) (xs ys : List Bool) (p : ℕ) → length xs ≡ p → put_all (put_all s 0 xs) p ys ≡ put_all s 0 (xs ++ ys)
fill_more s xs ys p e = sym (put_all-append s 0 xs ys ∙ ap (λ (k : ℕ). put_all (put_all s 0 xs) k ys) (zero-add (length xs) ∙ e))
