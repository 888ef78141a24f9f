-- Bits as numbers, the first bit the heaviest: a number tells its bits, and what begins with what is told by numbers.
-- Assumes nothing.
use Prim.Native.Nat.{ℕ, zero, suc, ◌+◌, ◌*◌, ◌/◌, ◌%◌, ◌^◌, ◌≤◌, ◌<◌}
use mathlib.Core.Path.{◌≡◌, refl, sym, ap, ◌∙◌}
use mathlib.Core.Bool.{Bool, true, false, beq, true≢false, false≢true, and-false}
use mathlib.Core.List.{List, [], ◌∷◌, ◌++◌, append-nil}
use mathlib.Core.Logic.{◌↔◌}
use native.Mathlib.Numerals.{one-add}
use native.Mathlib.Nat.{add-mul, mul_assoc, div-one, mod-lt, mod-one, mod-eq_of_lt, pow-succ', zero-lt-suc, suc_inj}
use native.Mathlib.Omega.{arith}
use borrow.Author.Tests.{eq-eqb, ne_eqb}
use lib.Arith.{digits_lt}
use lib.Dec.{eqb}
use lib.ListN.{length, take, drop, length-append, take-append-drop, drop_of_length-le}
use lib.Pow.{pow-add, mod-pow-add, shr-shr}
use lib.Seq.{take-append_seam, length-take-le}
use Rattle.frames.specs.Stream.{bit, number, digits}
use Rattle.frames.specs.Reading.{begins}

-- ---- bits make a number

pub bit_lt : (b : Bool) → bit b < 2
bit_lt true = omega arith
bit_lt false = omega arith

pub number_lt : (bs : List Bool) → number bs < 2 ^ length bs
unfolding number
number_lt [] = zero-lt-suc 0
number_lt (b ∷ bs) = rw pow-succ' (digits_lt (bit_lt b) (number_lt bs))

pub number_cons : (b : Bool) (bs : List Bool) → number (b ∷ bs) ≡ bit b * 2 ^ length bs + number bs
unfolding number
number_cons b bs = refl

pub number_append : (xs ys : List Bool) → number (xs ++ ys) ≡ number xs * 2 ^ length ys + number ys
unfolding number
number_append [] ys = omega arith
number_append (x ∷ xs) ys =
    rw (number_cons x (xs ++ ys), number_cons x xs, length-append, pow-add, number_append xs ys, add-mul, mul_assoc) (omega arith)

-- as many bits that make the same number are the same
pub number_inj : (xs ys : List Bool) → length xs ≡ length ys → number xs ≡ number ys → xs ≡ ys
unfolding number
number_inj [] [] n e = refl
number_inj [] (y ∷ ys) n e = absurd (omega arith)
number_inj (x ∷ xs) [] n e = absurd (omega arith)
number_inj (x ∷ xs) (y ∷ ys) n e =
    let m : length xs ≡ length ys = omega arith in
    go x y (rw (number_cons x xs, number_cons y ys, m) at e) (number_inj xs ys m)
  where
    go : (x y : Bool) → bit x * 2 ^ length ys + number xs ≡ bit y * 2 ^ length ys + number ys → (number xs ≡ number ys → xs ≡ ys) → x ∷ xs ≡ y ∷ ys
    go true true e f = ap (λ (t : List Bool). true ∷ t) (f (omega arith))
    go false false e f = ap (λ (t : List Bool). false ∷ t) (f (omega arith))
    go true false e f = absurd (omega (arith, number_lt ys))
    go false true e f = absurd (omega (arith, number_lt xs, ap (λ (k : ℕ). 2 ^ k) (suc_inj n)))

-- ---- a number makes bits

pub length_digits : (n v : ℕ) → length (digits n v) ≡ n
unfolding digits
length_digits zero v = refl
length_digits (suc n) v = ap suc (length_digits n v)

pub bit_back : (v : ℕ) → v < 2 → bit (eqb v 1) ≡ v
bit_back zero h = refl
bit_back (suc zero) h = refl
bit_back (suc (suc v)) h = absurd (omega arith)

-- the last bit is the lightest
pub digits_snoc : (k x : ℕ) → digits (suc k) x ≡ digits k (x / 2) ++ (eqb (x % 2) 1 ∷ [])
unfolding digits
digits_snoc zero x = rw (div-one x) refl
digits_snoc (suc k) x =
    let e : x / 2 ^ suc k ≡ x / 2 / 2 ^ k = ap (λ (j : ℕ). x / 2 ^ j) (sym (one-add k)) ∙ sym (shr-shr x 1 k) in
    rw e (ap (λ (t : List Bool). eqb (x / 2 / 2 ^ k % 2) 1 ∷ t) (digits_snoc k x))

number_mod : (n v : ℕ) → number (digits n v) ≡ v % 2 ^ n
unfolding number digits
number_mod zero v = sym (mod-one v)
number_mod (suc n) v =
    rw (number_cons _ (digits n v), length_digits, number_mod n v, bit_back (v / 2 ^ n % 2) (mod-lt _ (zero-lt-suc 1)), ← one-add n)
    (sym (mod-pow-add v 1 n))

pub number_digits : (n v : ℕ) → v < 2 ^ n → number (digits n v) ≡ v
number_digits n v h = number_mod n v ∙ mod-eq_of_lt h

pub digits_number : (bs : List Bool) → digits (length bs) (number bs) ≡ bs
digits_number bs = number_inj _ bs (length_digits _ _) (number_digits _ _ (number_lt bs))

-- ---- what begins with bits

pub begins_append : (xs s : List Bool) → begins xs (xs ++ s) ≡ true
unfolding begins
begins_append [] s = refl
begins_append (true ∷ xs) s = begins_append xs s
begins_append (false ∷ xs) s = begins_append xs s

pub begins_eq : (xs s : List Bool) → begins xs s ≡ true → s ≡ xs ++ drop (length xs) s
unfolding begins
begins_eq [] s e = refl
begins_eq (x ∷ xs) [] e = absurd (false≢true e)
begins_eq (true ∷ xs) (true ∷ s) e = ap (λ (t : List Bool). true ∷ t) (begins_eq xs s e)
begins_eq (false ∷ xs) (false ∷ s) e = ap (λ (t : List Bool). false ∷ t) (begins_eq xs s e)
begins_eq (true ∷ xs) (false ∷ s) e = absurd (false≢true e)
begins_eq (false ∷ xs) (true ∷ s) e = absurd (false≢true e)

pub begins_short : (xs s : List Bool) → length s < length xs → begins xs s ≡ false
unfolding begins
begins_short [] s h = absurd (omega arith)
begins_short (x ∷ xs) [] h = refl
begins_short (x ∷ xs) (b ∷ s) h = rw (begins_short xs s (omega arith)) (and-false (beq x b))

pub begins_number : (xs s : List Bool) → length xs ≤ length s → begins xs s ≡ eqb (number xs) (number (take (length xs) s))
begins_number xs s h = go (begins xs s) refl
  where
    go : (t : Bool) → begins xs s ≡ t → t ≡ eqb (number xs) (number (take (length xs) s))
    go true e = sym (eq-eqb _ _ (ap number (sym (ap (take (length xs)) (begins_eq xs s e) ∙ take-append_seam xs _))))
    go false e =
        sym (ne_eqb _ _
        (λ q. let same : xs ≡ take (length xs) s = number_inj xs _ (sym (length-take-le (length xs) s h)) q in
        let whole : xs ++ drop (length xs) s ≡ s = ap (λ (t : List Bool). t ++ drop (length xs) s) same ∙ take-append-drop (length xs) s in
        true≢false (sym (begins_append xs _) ∙ ap (begins xs) whole ∙ e)))

-- bits that begin with as many are those
pub begins_whole : (xs s : List Bool) → length xs ≡ length s → (begins xs s ≡ true) ↔ (xs ≡ s)
begins_whole xs s n = (
  λ e. sym (begins_eq xs s e ∙ ap (λ (t : List Bool). xs ++ t) (drop_of_length-le s {i = length xs} (omega arith)) ∙ append-nil xs),
  λ e. ap (begins xs) (sym (append-nil xs ∙ e)) ∙ begins_append xs [],
)
