-- The two forms of the altitude: in each, the two ways undo each other; their ranges and numbers. Assumes nothing.
use Prim.Native.Nat.{ℕ, zero, suc, ◌+◌, ◌-◌, ◌*◌, ◌/◌, ◌%◌, ◌≤◌, ◌<◌}
use mathlib.Core.Path.{◌≡◌, refl, ap, sym, subst, ◌∙◌}
use mathlib.Core.Bool.{Bool, true, false, cond}
use mathlib.Core.Logic.{◌↔◌}
use native.Mathlib.Nat.{zero-add}
use native.Mathlib.Omega.{arith}
use borrow.Author.Tests.{eq-eqb, ne_eqb, eqb-true, eqb-false, leb-true, le-leb, lt-ltb}
use lib.Dec.{eqb, leb, eqb-suc-zero}
use lib.IntN.{ℤ, pos, negsuc, ◌-ℤ◌}
use Rattle.rows.proofs.Claims.{differ}
use Rattle.words.proofs.Tests.{picked, passed, by_test}
use Rattle.reports.specs.declared.altitude.Form.{Form}
use Rattle.reports.specs.declared.altitude.Form.TheVariants as F
use Rattle.reports.specs.Altitude.{sign, magnitude, negative, signed, sign_magnitude, twos_complement, form_of, form_number, chosen}
use Rattle.reports.specs.Claims.{FormsSound, RangeOfEach, EveryPatternValid, NumbersOfForms}

-- ---- document 01's form: from an altitude to its bits and back

-- an altitude that has twelve bits is within the range
in_range : (b : Bool) (n : ℕ) → cond b n 4096 < 4096 → b ≡ true
in_range true n h = refl
in_range false n h = absurd (omega arith)

minus_back : (n : ℕ) → suc n ≤ 2047 → (sign (2048 + suc n) ≡ true) × (magnitude (2048 + suc n) ≡ suc n)
minus_back n h = (eq-eqb ((2048 + suc n) / 2048) 1 (omega arith), omega arith)

plus_back : (n : ℕ) → n ≤ 2047 → (sign (0 + n) ≡ false) × (magnitude (0 + n) ≡ n)
plus_back n h = (ne_eqb ((0 + n) / 2048) 1 (λ e. omega arith), omega arith)

back : (z : ℤ) → sign_magnitude.bits_of z < 4096
    → (sign_magnitude.refused (sign_magnitude.bits_of z) ≡ false) × (sign_magnitude.altitude (sign_magnitude.bits_of z) ≡ z)
back (pos n) h =
    let r = in_range (leb n 2047) _ h in
    let p = plus_back n (leb-true n 2047 r) in
    (rw r (simp p.0), rw r (simp (p.0, p.1)))
back (negsuc n) h =
    let r = in_range (leb (suc n) 2047) _ h in
    let p = minus_back n (leb-true (suc n) 2047 r) in
    (rw r (simp (p.0, p.1, eqb-suc-zero)), rw r (simp (p.0, p.1)))

-- ---- and from bits to their altitude and back

again : (n : ℕ) → n < 4096 → sign_magnitude.refused n ≡ false → sign_magnitude.bits_of (sign_magnitude.altitude n) ≡ n
again n l h = go (n / 2048) (n % 2048) (omega arith) (omega arith) (omega arith) h
  where
    go : (s m : ℕ) → s < 2 → m < 2048 → n ≡ s * 2048 + m → cond (eqb s 1) (cond (eqb m 0) true false) false ≡ false → sign_magnitude.bits_of (signed (eqb s 1) m) ≡ n
    go zero m a b e h = rw (le-leb m 2047 (omega arith)) (omega arith)
    go (suc zero) zero a b e h = absurd (let z : ◌≡◌ {A = ℕ} 0 1 = cc in omega arith)
    go (suc zero) (suc m) a b e h = rw (le-leb (suc m) 2047 (omega arith)) (omega arith)
    go (suc (suc s)) m a b e h = absurd (omega arith)

-- ---- two's complement: eleven bits, and -2048 where the first bit is one

weighed : (m : ℕ) → m < 2048 → pos m -ℤ pos 2048 ≡ negsuc (2048 - suc m)
weighed m h = picked _ _ (lt-ltb m 2048 h)

twos_back : (z : ℤ) → twos_complement.bits_of z < 4096
    → (twos_complement.refused (twos_complement.bits_of z) ≡ false) × (twos_complement.altitude (twos_complement.bits_of z) ≡ z)
twos_back (pos n) h =
    let r = in_range (leb n 2047) _ h in
    let l = leb-true n 2047 r in
    (refl, rw r (simp (ne_eqb (n / 2048) 1 (λ e. omega arith)) (ap pos (let e : n % 2048 ≡ n = omega arith in e))))
twos_back (negsuc n) h =
    let r = in_range (leb (suc n) 2048) _ h in
    let l = leb-true (suc n) 2048 r in
    (refl, rw r (simp (eq-eqb ((4096 - suc n) / 2048) 1 (omega arith)) (weighed ((4096 - suc n) % 2048) (omega arith) ∙ ap negsuc (let e : 2048 - suc ((4096 - suc n) % 2048) ≡ n = omega arith in e))))

twos_again : (n : ℕ) → n < 4096 → twos_complement.refused n ≡ false → twos_complement.bits_of (twos_complement.altitude n) ≡ n
twos_again n l h = by_test (sign n) minus plus
  where
    minus : sign n ≡ true → twos_complement.bits_of (twos_complement.altitude n) ≡ n
    minus s =
        let one = eqb-true (n / 2048) 1 s in
        ap twos_complement.bits_of (picked _ _ s ∙ weighed (n % 2048) (omega arith))
        ∙ picked _ _ (le-leb (suc (2048 - suc (n % 2048))) 2048 (omega arith))
        ∙ (let e : 4096 - suc (2048 - suc (n % 2048)) ≡ n = omega arith in e)

    plus : sign n ≡ false → twos_complement.bits_of (twos_complement.altitude n) ≡ n
    plus s =
        let other = eqb-false (n / 2048) 1 s in
        ap twos_complement.bits_of (passed _ _ s) ∙ picked _ _ (le-leb (n % 2048) 2047 (omega arith)) ∙ (let e : n % 2048 ≡ n = omega arith in e)

-- ---- both

pub forms_sound : FormsSound
forms_sound F.SignMagnitude = record { back = back; again = again }
forms_sound F.TwosComplement = record { back = twos_back; again = twos_again }

-- a number is below 4096 exactly where the test that picks it holds
within : (n m k : ℕ) → (n ≤ m → k < 4096) → (cond (leb n m) k 4096 < 4096) ↔ (n ≤ m)
within n m k h = (λ l. leb-true n m (in_range (leb n m) k l), λ l. subst (λ (x : ℕ). x < 4096) (sym (picked _ _ (le-leb n m l))) (h l))

pub range_of_each : RangeOfEach
range_of_each F.SignMagnitude (pos n) = within n 2047 _ (λ l. omega arith)
range_of_each F.SignMagnitude (negsuc n) = within (suc n) 2047 _ (λ l. omega arith)
range_of_each F.TwosComplement (pos n) = within n 2047 _ (λ l. omega arith)
range_of_each F.TwosComplement (negsuc n) = within (suc n) 2048 _ (λ l. omega arith)

pub every_pattern_valid : EveryPatternValid
every_pattern_valid = record { none_refused = λ n. refl; has_altitude = λ n h. twos_again n h refl }

pub numbers_of_forms : NumbersOfForms
numbers_of_forms = record { own = own; document = refl; any_other = λ n h. ap form_of (passed _ _ (ne_eqb n 0 (λ e. omega arith))) }
  where
    own : (form : Form) → chosen (form_number form) ≡ form_of form
    own F.SignMagnitude = refl
    own F.TwosComplement = refl

-- from zero on an altitude has the same bits in both
pub same_from_zero : (z : ℤ) → negative z ≡ false → twos_complement.bits_of z ≡ sign_magnitude.bits_of z
same_from_zero (pos n) e = ap (λ (k : ℕ). cond (leb n 2047) k 4096) (sym (zero-add n))
same_from_zero (negsuc n) e = differ e
