-- One mark for each number: a number that is marked when it is met stands there a second time. The marks are bits of 64-bit words. Assumes nothing.
use Prim.Native.Nat.{ℕ, zero, suc, ◌+◌, ◌-◌, ◌/◌, ◌%◌, ◌^◌, ◌<◌}
use mathlib.Core.Bool.{Bool, true, false, ◌&&◌, ◌||◌, and-false}
use mathlib.Core.List.{List, [], ◌∷◌}
use mathlib.Core.Path.{◌≡◌, refl, sym, ap, ◌∙◌}
use native.Mathlib.Nat.{one-mul, zero-div, div_self, div-eq_of_lt, mod-lt}
use native.Mathlib.Omega.{arith}
use borrow.Author.Tests.{eq-eqb, ne_eqb, eqb-true, eqb-false, ltb-true, ltb-false}
use lib.Bits.{bit_or, or_shr, or_mod, or_zero_r, shifted_even}
use lib.Dec.{eqb, ltb}
use lib.ListN.{length, get_or, set, replicate}
use lib.Pow.{pow_pos, pow-lt, pow-add, shl-shr}
use lib.Seq.{get_or-set_same, get_or-set_other}
use Rattle.words.proofs.Tests.{by_test}
use Rattle.index.specs.Table.{is_used, holds, held_twice}

-- ---- a bit of a number

-- the two bits of two numbers give the bit of both
both : (v w k : ℕ) → bit_or v w / 2 ^ k % 2 ≡ bit_or (v / 2 ^ k % 2) (w / 2 ^ k % 2)
both v w k = ap (λ (n : ℕ). n % 2) (or_shr v w k) ∙ or_mod (v / 2 ^ k) (w / 2 ^ k) 1

with_one : (x : ℕ) → x < 2 → bit_or x 1 ≡ 1
with_one zero h = refl
with_one (suc zero) h = refl
with_one (suc (suc x)) h = absurd (omega arith)

-- 2 ^ k has its bit k, and no other
own_bit : (k : ℕ) → 2 ^ k / 2 ^ k % 2 ≡ 1
own_bit k = ap (λ (n : ℕ). n % 2) (div_self (pow_pos k))

no_other_bit : (k j : ℕ) → (k ≡ j → ⊥) → 2 ^ k / 2 ^ j % 2 ≡ 0
no_other_bit k j u =
    by_test (ltb k j)
    (λ e. ap (λ (n : ℕ). n % 2) (div-eq_of_lt (pow-lt (ltb-true k j e))))
    (λ e. above (omega (arith, ltb-false k j e)))
  where
    above : (g : j < k) → 2 ^ k / 2 ^ j % 2 ≡ 0
    above g =
        let e : k ≡ suc (k - j - 1) + j = omega arith in
        ap (λ (i : ℕ). 2 ^ i / 2 ^ j % 2) e
        ∙ ap (λ (n : ℕ). n / 2 ^ j % 2) (pow-add 2 (suc (k - j - 1)) j)
        ∙ ap (λ (n : ℕ). n % 2) (shl-shr (2 ^ suc (k - j - 1)) j)
        ∙ ap (λ (n : ℕ). n % 2) (sym (one-mul (2 ^ suc (k - j - 1))))
        ∙ shifted_even 1 (k - j - 1)

-- a bit that is set is one, and the others stay
set_here : (v k : ℕ) → bit_or v (2 ^ k) / 2 ^ k % 2 ≡ 1
set_here v k = both v (2 ^ k) k ∙ ap (bit_or (v / 2 ^ k % 2)) (own_bit k) ∙ with_one (v / 2 ^ k % 2) (mod-lt (v / 2 ^ k) (omega arith))

set_there : (v k j : ℕ) → (k ≡ j → ⊥) → bit_or v (2 ^ k) / 2 ^ j % 2 ≡ v / 2 ^ j % 2
set_there v k j u = both v (2 ^ k) j ∙ ap (bit_or (v / 2 ^ j % 2)) (no_other_bit k j u) ∙ or_zero_r (v / 2 ^ j % 2)

-- ---- the marks

-- number y is marked in such words
abbrev pub in_words : List ℕ → ℕ → Bool
in_words words y = eqb (get_or words (y / 64) 0 / 2 ^ (y % 64) % 2) 1

-- the words with the mark of n
abbrev pub marking : List ℕ → ℕ → List ℕ
marking words n = set words (n / 64) (bit_or (get_or words (n / 64) 0) (2 ^ (n % 64)))

-- marking n marks n, and no other number
pub marks_it : (marks : List ℕ) (n : ℕ) → n / 64 < length marks → (y : ℕ) → in_words (marking marks n) y ≡ (eqb n y || in_words marks y)
marks_it marks n h y =
    by_test (eqb n y)
    (λ e. rw (e, sym (eqb-true n y e)) (eq-eqb _ 1 (in_its_word (n % 64) ∙ set_here (get_or marks (n / 64) 0) (n % 64))))
    (λ e. rw e (ap (λ (v : ℕ). eqb v 1) (by_test (eqb (y / 64) (n / 64)) (beside (eqb-false n y e)) elsewhere)))
  where
    in_its_word : (j : ℕ) → get_or (marking marks n) (n / 64) 0 / 2 ^ j % 2 ≡ bit_or (get_or marks (n / 64) 0) (2 ^ (n % 64)) / 2 ^ j % 2
    in_its_word j = ap (λ (v : ℕ). v / 2 ^ j % 2) (get_or-set_same marks (n / 64) (bit_or (get_or marks (n / 64) 0) (2 ^ (n % 64))) 0 h)

    -- another number of the same word has another bit
    beside : (n ≡ y → ⊥) → eqb (y / 64) (n / 64) ≡ true → get_or (marking marks n) (y / 64) 0 / 2 ^ (y % 64) % 2 ≡ get_or marks (y / 64) 0 / 2 ^ (y % 64) % 2
    beside u e =
        let same : y / 64 ≡ n / 64 = eqb-true (y / 64) (n / 64) e in
        rw same (in_its_word (y % 64) ∙ set_there (get_or marks (n / 64) 0) (n % 64) (y % 64) (λ k. u (omega arith)))

    elsewhere : eqb (y / 64) (n / 64) ≡ false → get_or (marking marks n) (y / 64) 0 / 2 ^ (y % 64) % 2 ≡ get_or marks (y / 64) 0 / 2 ^ (y % 64) % 2
    elsewhere e =
        ap (λ (v : ℕ). v / 2 ^ (y % 64) % 2) (get_or-set_other marks (n / 64) (y / 64) (bit_or (get_or marks (n / 64) 0) (2 ^ (n % 64))) 0 (eqb-false (y / 64) (n / 64) e))

-- ---- a number met a second time

-- a used number of these is marked, or stands among them a second time
unfoldable pub again : (ℕ → Bool) → List ℕ → Bool
again P [] = false
again P (n ∷ ns) = (is_used n && P n) || again (λ y. (is_used n && eqb n y) || P y) ns

pub again_same : (P Q : ℕ → Bool) → ((y : ℕ) → P y ≡ Q y) → (ns : List ℕ) → again P ns ≡ again Q ns
unfolding again
again_same P Q h [] = refl
again_same P Q h (n ∷ ns) =
    rw (h n, again_same (λ y. (is_used n && eqb n y) || P y) (λ y. (is_used n && eqb n y) || Q y) (λ y. ap (λ (b : Bool). (is_used n && eqb n y) || b) (h y)) ns)

-- a used number of these is marked
any_marked : (ℕ → Bool) → List ℕ → Bool
any_marked P [] = false
any_marked P (n ∷ ns) = (is_used n && P n) || any_marked P ns

-- truth values, for the steps below
same_number : (u p held any : Bool) → ((u && ((u && true) || p)) || ((u && held) || any)) ≡ ((u && (true || held)) || ((u && p) || any))
same_number true p held any = refl
same_number false p held any = refl

swapped : (a b c : Bool) → (a || (b || c)) ≡ (b || (a || c))
swapped true true c = refl
swapped true false c = refl
swapped false b c = refl

other_number : (u w p held any : Bool) → ((w && ((u && false) || p)) || ((u && held) || any)) ≡ ((u && (false || held)) || ((w && p) || any))
other_number false w p held any = refl
other_number true w p held any = swapped (w && p) held any

regrouped : (p held any twice : Bool) → (p || ((held || any) || twice)) ≡ ((p || any) || (held || twice))
regrouped true held any twice = refl
regrouped false true true twice = refl
regrouped false true false twice = refl
regrouped false false any twice = refl

-- with the mark of n: one is marked, or n is among them
one_more : (P : ℕ → Bool) (n : ℕ) (ms : List ℕ) → any_marked (λ y. (is_used n && eqb n y) || P y) ms ≡ ((is_used n && holds n ms) || any_marked P ms)
unfolding holds any_marked
one_more P n [] = sym (ap (λ (b : Bool). b || false) (and-false (is_used n)))
one_more P n (m ∷ ms) =
    ap (λ (b : Bool). (is_used m && ((is_used n && eqb n m) || P m)) || b) (one_more P n ms)
    ∙ by_test (eqb m n)
    (λ e. rw (sym (eqb-true m n e), eq-eqb m m refl) (same_number (is_used m) (P m) (holds m ms) (any_marked P ms)))
    (λ e.
    rw
    (e, ne_eqb n m (λ same. eqb-false m n e (sym same)))
    (other_number (is_used n) (is_used m) (P m) (holds n ms) (any_marked P ms)))

again_is : (P : ℕ → Bool) (ns : List ℕ) → again P ns ≡ (any_marked P ns || held_twice ns)
unfolding held_twice again any_marked
again_is P [] = refl
again_is P (n ∷ ns) =
    ap (λ (b : Bool). (is_used n && P n) || b) (again_is (λ y. (is_used n && eqb n y) || P y) ns ∙ ap (λ (b : Bool). b || held_twice ns) (one_more P n ns))
    ∙ regrouped (is_used n && P n) (is_used n && holds n ns) (any_marked P ns) (held_twice ns)

none_marked : (ns : List ℕ) → any_marked (λ _. false) ns ≡ false
unfolding any_marked
none_marked [] = refl
none_marked (n ∷ ns) = rw (and-false (is_used n)) (none_marked ns)

-- with no mark at first, that is a number held twice
pub again_twice : (P : ℕ → Bool) (ns : List ℕ) → ((y : ℕ) → P y ≡ false) → again P ns ≡ held_twice ns
again_twice P ns none = again_same P (λ _. false) none ns ∙ again_is (λ _. false) ns ∙ ap (λ (b : Bool). b || held_twice ns) (none_marked ns)

-- before the first step nothing is marked
fresh : (k i : ℕ) → ◌≡◌ {A = ℕ} (get_or (replicate k 0) i 0) 0
fresh zero i = refl
fresh (suc k) zero = refl
fresh (suc k) (suc i) = fresh k i

pub none_yet : (k y : ℕ) → in_words (replicate k 0) y ≡ false
none_yet k y = ap (λ (v : ℕ). eqb (v / 2 ^ (y % 64) % 2) 1) (fresh k (y / 64)) ∙ ap (λ (v : ℕ). eqb (v % 2) 1) (zero-div (2 ^ (y % 64)))

-- ---- step by step, with the marks as a test of numbers

module _ (P : ℕ → Bool) (x : ℕ) (ns : List ℕ) where
  pub second_time : (x ≡ 0 → ⊥) → P x ≡ true → again P (x ∷ ns) ≡ true
  unfolding again
  second_time u e = rw (ne_eqb x 0 u, e)

  pub first_time : (Q : ℕ → Bool) → (x ≡ 0 → ⊥) → P x ≡ false → ((y : ℕ) → Q y ≡ (eqb x y || P y)) → again P (x ∷ ns) ≡ again Q ns
  unfolding again
  first_time Q u e now = rw (ne_eqb x 0 u, e) (again_same (λ y. eqb x y || P y) Q (λ y. sym (now y)) ns)

  pub passed : x ≡ 0 → again P (x ∷ ns) ≡ again P ns
  unfolding again
  passed e = rw (eq-eqb x 0 e)

pub met_none : (P : ℕ → Bool) → again P [] ≡ false
unfolding again
met_none P = refl
