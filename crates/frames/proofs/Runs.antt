-- Runs: bits that are taken at once, none of which stands behind five ones. How the code finds one by the digits of a number, and what it does
-- to inserted zeros. Assumes nothing.
use Prim.Native.Nat.{ℕ, zero, suc, ◌+◌, ◌-◌, ◌*◌, ◌/◌, ◌%◌, ◌^◌, ◌≤◌, ◌<◌}
use mathlib.Core.Path.{◌≡◌, refl, sym, ap, ap₂, subst, ◌∙◌}
use mathlib.Core.Bool.{Bool, true, false, cond}
use mathlib.Core.List.{List, [], ◌∷◌, ◌++◌}
use native.Mathlib.Nat.{add_comm, add-mul-div_right, mul-le-mul_right, mul_assoc, mul-one, div-one, mod-lt, zero-lt-suc}
use native.Mathlib.Decide.{dec_lt}
use native.Mathlib.Numerals.{add-one}
use native.Mathlib.Omega.{arith}
use borrow.Author.Tests.{ne_eqb}
use lib.Bits.{bit_and, and_shr, and_mod, and_le_r, block_half, block_odd, shifted_half, shifted_even}
use lib.Count.{count_trailing_zeros, count_leading_zeros, leading_top}
use lib.Dec.{eqb}
use lib.ListN.{length, replicate}
use lib.Pow.{pow_pos, pow_mono, pow-add, high, mod-pow-add, shr-shr, shr_lt}
use Rattle.bits.specs.Bits.{bits_of}
use Rattle.bits.proofs.Laws.{whole, bits_of-lt, bits_of_join}
use Rattle.frames.specs.Stream.{bits_from, digits}
use Rattle.frames.specs.Zeros.{ones, with_zeros, zeros_out, zero_missing}
use Rattle.frames.specs.Steps.{fives_in, Passes, RunIs}
use Rattle.frames.proofs.Numbered.{digits_snoc}
use Rattle.frames.proofs.Chunks.{digits_of}

-- ---- what a run does to inserted zeros

pub run_out : (n o : ℕ) (xs s : List Bool) → Passes n xs o → zeros_out n (xs ++ s) ≡ xs ++ zeros_out o s
unfolding zeros_out
run_out n o [] s e = ap (λ (k : ℕ). zeros_out k s) e
run_out n o (b ∷ xs) s (f, r) = rw (ne_eqb n 5 f) (ap (λ (t : List Bool). b ∷ t) (run_out (ones n b) o xs s r))

pub run_missing : (n o : ℕ) (xs s : List Bool) → Passes n xs o → zero_missing n (xs ++ s) ≡ zero_missing o s
unfolding zero_missing
run_missing n o [] s e = ap (λ (k : ℕ). zero_missing k s) e
run_missing n o (b ∷ xs) s (f, r) = rw (ne_eqb n 5 f) (run_missing (ones n b) o xs s r)

-- where zeros are put in, one is waiting behind five ones
abbrev waiting : ℕ → List Bool → List Bool
waiting o s = cond (eqb o 5) (false ∷ with_zeros 0 s) (with_zeros o s)

run_waiting : (n o : ℕ) (xs s : List Bool) → Passes n xs o → waiting n (xs ++ s) ≡ xs ++ waiting o s
unfolding with_zeros
run_waiting n o [] s e = ap (λ (k : ℕ). waiting k s) e
run_waiting n o (b ∷ xs) s (f, r) = rw (ne_eqb n 5 f) (ap (λ (t : List Bool). b ∷ t) (run_waiting (ones n b) o xs s r))

waited : (o : ℕ) (s : List Bool) → o ≤ 5 → waiting o s ≡ replicate (o / 5) false ++ with_zeros (o % 5) s
waited zero s h = refl
waited (suc zero) s h = refl
waited (suc (suc zero)) s h = refl
waited (suc (suc (suc zero))) s h = refl
waited (suc (suc (suc (suc zero)))) s h = refl
waited (suc (suc (suc (suc (suc zero))))) s h = refl
waited (suc (suc (suc (suc (suc (suc o)))))) s h = absurd (omega arith)

pub run_in : (n o : ℕ) (xs s : List Bool) → Passes n xs o → n ≤ 4 → o ≤ 5 → with_zeros n (xs ++ s) ≡ xs ++ (replicate (o / 5) false ++ with_zeros (o % 5) s)
run_in n o xs s r h l =
    let e : waiting n (xs ++ s) ≡ with_zeros n (xs ++ s) = rw (ne_eqb n 5 (λ i. omega arith)) refl in
    sym e ∙ run_waiting n o xs s r ∙ ap (λ (t : List Bool). xs ++ t) (waited o s l)

-- the ones behind a run are among its bits and those in front
pub run_most : (n o : ℕ) (xs : List Bool) → Passes n xs o → o ≤ n + length xs
run_most n o [] e = omega arith
run_most n o (true ∷ xs) (f, r) = omega (arith, run_most (n + 1) o xs r)
run_most n o (false ∷ xs) (f, r) = omega (arith, run_most 0 o xs r)

-- a run of bits that were read
pub run_there : (b : List ℕ) (p n m x k o : ℕ) → m ≤ 64 → x ≡ bits_of b p m % 2 ^ 64 → RunIs n m x k o
    → (x / 2 ^ (m - k) ≡ bits_of b p k) × Passes n (bits_from b p k) o
run_there b p n m x k o h e r =
    let l = r.within in
    let w : m ≡ k + (m - k) = omega arith in
    let q : x / 2 ^ (m - k) ≡ bits_of b p k =
    ap (λ (z : ℕ). z / 2 ^ (m - k)) (e ∙ whole b p m h ∙ ap (bits_of b p) w ∙ bits_of_join b p k (m - k))
    ∙ high (bits_of b p k) (m - k) (bits_of-lt b (p + k) (m - k)) in
    (q, subst (λ (s : List Bool). Passes n s o) (ap (digits k) q ∙ digits_of b p k) r.passes)

-- ---- one bit more

passes_snoc : (n o : ℕ) (xs : List Bool) (b : Bool) → Passes n xs o → (o ≡ 5 → ⊥) → Passes n (xs ++ (b ∷ [])) (ones o b)
passes_snoc n o [] b e f = (λ h. f (sym e ∙ h), ap (λ (k : ℕ). ones k b) e)
passes_snoc n o (x ∷ xs) b (g, r) f = (g, passes_snoc (ones n x) o xs b r f)

-- ---- the digits behind four ones

shr_comm : (n j k : ℕ) → n / 2 ^ j / 2 ^ k ≡ n / 2 ^ k / 2 ^ j
shr_comm n j k = shr-shr n j k ∙ ap (λ (i : ℕ). n / 2 ^ i) (add_comm j k) ∙ sym (shr-shr n k j)

two_shr : (y k : ℕ) → bit_and y (y / 2) / 2 ^ k ≡ bit_and (y / 2 ^ k) (y / 2 ^ k / 2)
two_shr y k = and_shr y (y / 2) k ∙ ap (bit_and (y / 2 ^ k)) (shr_comm y 1 k)

pub fives_shr : (y k : ℕ) → fives_in y / 2 ^ k ≡ fives_in (y / 2 ^ k)
unfolding fives_in
fives_shr y k =
    let t = bit_and y (y / 2) in
    and_shr (bit_and t (t / 4)) (y / 16) k
    ∙ ap₂ bit_and (and_shr t (t / 4) k ∙ ap₂ bit_and (two_shr y k) (shr_comm t 2 k ∙ ap (λ (z : ℕ). z / 4) (two_shr y k))) (shr_comm y 4 k)

-- of two digits
both : (a b : ℕ) → a < 2 → b < 2 → (bit_and a b < 2) × (bit_and a b ≡ 1 → (a ≡ 1) × (b ≡ 1)) × (a ≡ 1 → b ≡ 1 → bit_and a b ≡ 1)
both zero b h l = (omega arith, λ e. absurd (omega arith), λ e. absurd (omega arith))
both (suc zero) zero h l = (omega arith, λ e. absurd (omega arith), λ e f. absurd (omega arith))
both (suc zero) (suc zero) h l = (omega arith, λ e. (refl, refl), λ e f. refl)
both (suc (suc a)) b h l = absurd (omega arith)
both (suc zero) (suc (suc b)) h l = absurd (omega arith)

low : (n : ℕ) → n % 2 < 2
low n = mod-lt n (zero-lt-suc 1)

fives_low : (y : ℕ) → fives_in y % 2 ≡ bit_and (bit_and (bit_and (y % 2) (y / 2 % 2)) (bit_and (y / 4 % 2) (y / 8 % 2))) (y / 16 % 2)
unfolding fives_in
fives_low y =
    let t = bit_and y (y / 2) in
    let a : t % 2 ≡ bit_and (y % 2) (y / 2 % 2) = and_mod y (y / 2) 1 in
    let b : t / 4 % 2 ≡ bit_and (y / 4 % 2) (y / 8 % 2) =
    ap (λ (z : ℕ). z % 2) (and_shr y (y / 2) 2) ∙ and_mod (y / 4) (y / 2 / 4) 1 ∙ ap (λ (z : ℕ). bit_and (y / 4 % 2) (z % 2)) (shr-shr y 1 2) in
    and_mod (bit_and t (t / 4)) (y / 16) 1 ∙ ap (λ (z : ℕ). bit_and z (y / 16 % 2)) (and_mod t (t / 4) 1 ∙ ap₂ bit_and a b)

-- the lowest of them tells the five lowest digits
pub fives_tell : (y : ℕ) → (fives_in y % 2 ≡ 1 → y % 32 ≡ 31) × (y % 32 ≡ 31 → fives_in y % 2 ≡ 1)
fives_tell y =
    let ab = both (y % 2) (y / 2 % 2) (low y) (low (y / 2)) in
    let cd = both (y / 4 % 2) (y / 8 % 2) (low (y / 4)) (low (y / 8)) in
    let abcd = both _ _ ab.0 cd.0 in
    let all = both _ (y / 16 % 2) abcd.0 (low (y / 16)) in
    let e = fives_low y in
    let parts : y % 32 ≡ y / 16 % 2 * 16 + (y / 8 % 2 * 8 + (y / 4 % 2 * 4 + (y / 2 % 2 * 2 + y % 2))) =
    mod-pow-add y 1 4 ∙ rw (mod-pow-add y 1 3, mod-pow-add y 1 2, mod-pow-add y 1 1) refl in (
      λ h. let five = all.1 (sym e ∙ h) in
          let four = abcd.1 five.0 in
          let p = ab.1 four.0 in
          let q = cd.1 four.1 in
          parts ∙ rw (five.1, q.1, q.0, p.1, p.0) refl,
      λ h. let l = low y in
          let l1 = low (y / 2) in
          let l2 = low (y / 4) in
          let l3 = low (y / 8) in
          let l4 = low (y / 16) in
          e ∙ all.2 (abcd.2 (ab.2 (omega arith) (omega arith)) (cd.2 (omega arith) (omega arith))) (omega arith),
    )

-- ---- a number that ends with so many ones

pub record Ends (y o : ℕ) : Type 0 where
  pub above : ℕ
  pub is : y + 1 ≡ (above * 2 + 1) * 2 ^ o

-- those are the zeros at the end of the next number
trail : (d a i : ℕ) → a % 2 ≡ 1 → i < d → count_trailing_zeros d (a * 2 ^ i) ≡ i
unfolding count_trailing_zeros
trail zero a i o h = absurd (omega arith)
trail (suc d) a zero o h = rw (mul-one a, o) refl
trail (suc d) a (suc i) o h = rw (shifted_even a i, shifted_half a i) (ap suc (trail d a i o (omega arith)))

pub ends_trail : {y o : ℕ} → Ends y o → o ≤ 4 → count_trailing_zeros 64 (y + 1) ≡ o
ends_trail {y} {o} e h = ap (count_trailing_zeros 64) e.is ∙ trail 64 (e.above * 2 + 1) o (omega arith) (omega arith)

-- a one more
ends_one : {y o : ℕ} → Ends (y / 2) o → y % 2 ≡ 1 → Ends y (o + 1)
ends_one {y} {o} e h =
    let a = e.above * 2 + 1 in
    let t : a * 2 ^ (o + 1) ≡ a * 2 ^ o * 2 = ap (λ (p : ℕ). a * p) (pow-add 2 o 1) ∙ sym (mul_assoc a (2 ^ o) 2) in
    record { above = e.above; is = omega (arith, e.is, h) ∙ sym t }

four : (o a z : ℕ) → o ≤ 4 → z + 1 ≡ (a * 2 + 1) * 2 ^ o → z % 16 ≡ 15 → o ≡ 4
four zero a z h e f = absurd (omega arith)
four (suc zero) a z h e f = absurd (omega arith)
four (suc (suc zero)) a z h e f = absurd (omega arith)
four (suc (suc (suc zero))) a z h e f = absurd (omega arith)
four (suc (suc (suc (suc zero)))) a z h e f = refl
four (suc (suc (suc (suc (suc o))))) a z h e f = absurd (omega arith)

-- ---- how the code finds a run

-- no digit behind four ones: all bits are one run
pub record Clear (n k x y : ℕ) : Type 0 where
  pub after : ℕ
  pub few : after ≤ 4
  pub passes : Passes n (digits k x) after
  pub ends : Ends y after

-- k bits of x with n ones in front of them
abbrev pub fronted : ℕ → ℕ → ℕ → ℕ
fronted n k x = (2 ^ n - 1) * 2 ^ k + x

-- without the last bit
half_fronted : (n k x y : ℕ) → y ≡ fronted n (suc k) x → (y / 2 ≡ fronted n k (x / 2)) × (y % 2 ≡ x % 2)
half_fronted n k x y e = (ap (λ (z : ℕ). z / 2) e ∙ block_half (2 ^ n - 1) k x, ap (λ (z : ℕ). z % 2) e ∙ block_odd (2 ^ n - 1) k x)

half_lt : (k x : ℕ) → x < 2 ^ suc k → x / 2 < 2 ^ k
half_lt k x h = shr_lt k 1 (rw add-one h)

-- with it
with_bit : (n k x o b : ℕ) → Passes n (digits k (x / 2)) o → o ≤ 4 → x % 2 ≡ b → Passes n (digits (suc k) x) (ones o (eqb b 1))
with_bit n k x o b r l e = rw (digits_snoc k x, e) (passes_snoc n o (digits k (x / 2)) (eqb b 1) r (λ h. omega arith))

pub clear : (n k x y : ℕ) → n ≤ 4 → x < 2 ^ k → y ≡ fronted n k x → fives_in y ≡ 0 → Clear n k x y
unfolding digits
clear n zero x y h l e f =
    record { after = n; few = h; passes = refl; ends = record { above = 0; is = omega (arith, e, l, pow_pos n) } }
clear n (suc k) x y h l e f =
    let g = half_fronted n k x y e in
    let r = clear n k (x / 2) (y / 2) h (half_lt k x l) g.0 (sym (fives_shr y 1) ∙ ap (λ (z : ℕ). z / 2) f) in
    go (x % 2) refl (low x) r g.1
  where
    go : (b : ℕ) → x % 2 ≡ b → b < 2 → Clear n k (x / 2) (y / 2) → y % 2 ≡ x % 2 → Clear n (suc k) x y
    go zero b i r o =
        record { after = 0; few = omega arith; passes = with_bit n k x r.after 0 r.passes r.few b; ends = record { above = y / 2; is = omega (arith, b, o) } }
    go (suc zero) b i r o =
        let t = ends_one r.ends (o ∙ b) in
        record { after = r.after + 1; few = fewer r.after r.few t; passes = with_bit n k x r.after 1 r.passes r.few b; ends = t }
      where
        fewer : (m : ℕ) → m ≤ 4 → Ends y (m + 1) → m + 1 ≤ 4
        fewer (suc (suc (suc (suc zero)))) u t = absurd (let z = (fives_tell y).1 (omega (arith, t.is)) in omega (arith, z, f))
        fewer zero u t = omega arith
        fewer (suc zero) u t = omega arith
        fewer (suc (suc zero)) u t = omega arith
        fewer (suc (suc (suc zero))) u t = omega arith
        fewer (suc (suc (suc (suc (suc m))))) u t = absurd (omega arith)
    go (suc (suc b)) q i r o = absurd (omega arith)

-- only the last: the run ends with the fifth one
pub fifth : (n k x y : ℕ) → n ≤ 4 → x < 2 ^ suc k → y ≡ fronted n (suc k) x → fives_in y ≡ 1 → Passes n (digits (suc k) x) 5
fifth n k x y h l e f =
    let g = half_fronted n k x y e in
    let r = clear n k (x / 2) (y / 2) h (half_lt k x l) g.0 (sym (fives_shr y 1) ∙ ap (λ (z : ℕ). z / 2) f) in
    let t = (fives_tell y).0 (ap (λ (z : ℕ). z % 2) f) in
    let q : r.after ≡ 4 = four r.after r.ends.above (y / 2) r.few r.ends.is (omega (arith, t)) in
    rw q at (with_bit n k x r.after 1 r.passes r.few (omega (arith, t, g.1)))

-- how large that number is
pub fronted_lt : (n m x : ℕ) → n ≤ 4 → x < 2 ^ m → fronted n m x < 16 * 2 ^ m
fronted_lt n m x h l =
    let w : 2 ^ n ≤ 16 = pow_mono h in
    let p : (2 ^ n - 1) * 2 ^ m ≤ 15 * 2 ^ m = mul-le-mul_right (2 ^ m) (omega arith) in
    omega arith

-- without the last j bits
less_fronted : (n k j x : ℕ) → fronted n (k + j) x / 2 ^ j ≡ fronted n k (x / 2 ^ j)
less_fronted n k j x =
    let a = (2 ^ n - 1) * 2 ^ k in
    let e : fronted n (k + j) x ≡ x + a * 2 ^ j =
    ap (λ (p : ℕ). (2 ^ n - 1) * p + x) (pow-add 2 k j) ∙ rw (sym (mul_assoc (2 ^ n - 1) (2 ^ k) (2 ^ j))) (omega arith) in
    ap (λ (z : ℕ). z / 2 ^ j) e ∙ add-mul-div_right x a (pow_pos j) ∙ omega arith

module _ (n m x y : ℕ) (few : n ≤ 4) (some : 0 < m) (bits : x < 2 ^ m) (is : y ≡ fronted n m x) where
  pub all_clear : fives_in y ≡ 0 → RunIs n m x m (count_trailing_zeros 64 (y + 1))
  all_clear f =
      let r = clear n m x y few bits is f in
      let e = ends_trail r.ends r.few in
      let z : m - m ≡ 0 = omega arith in
      record { some = some; within = omega arith; few = omega (arith, e, r.few); passes = rw (e, z, div-one x) r.passes }

  module _ (five : ℕ) (e : five ≡ fives_in y) (there : five ≡ 0 → ⊥) where
    under : five < 2 ^ m
    unfolding fives_in
    under = let t = bit_and y (y / 2) in omega (arith, e, and_le_r (bit_and t (t / 4)) (y / 16), is, fronted_lt n m x few bits)

    -- the place of its highest digit
    top : m ≤ 56 → (j : ℕ) × (count_leading_zeros 64 five + suc j ≡ 64) × (j < m) × (five / 2 ^ j ≡ 1)
    top h =
        let w : 2 ^ m ≤ 2 ^ 56 = pow_mono h in
        let t = leading_top 64 five (omega (arith, there)) (omega (arith, under)) in
        let j = t.0 in
        let lo : five - 2 ^ j < 2 ^ j = omega (arith, t.3, pow-add 2 j 1, add-one j) in
        let one : five ≡ 1 * 2 ^ j + (five - 2 ^ j) = omega (arith, t.2) in
        (j, t.1, below j (dec_lt j m) t.2, ap (λ (z : ℕ). z / 2 ^ j) one ∙ high 1 j lo)
      where
        below : (j : ℕ) → Dec (j < m) → 2 ^ j ≤ five → j < m
        below j (yes l) g = l
        below j (no l) g = absurd (let w : 2 ^ m ≤ 2 ^ j = pow_mono (omega (arith, l)) in omega (arith, under))

    pub found : m ≤ 56 → (63 ≤ m + count_leading_zeros 64 five) × RunIs n m x (m + count_leading_zeros 64 five - 63) 5
    found h =
        let t = top h in
        let j = t.0 in
        let d = m - suc j in
        let k : m + count_leading_zeros 64 five - 63 ≡ suc d = omega (arith, t.1, t.2) in
        let i : m - suc d ≡ j = omega (arith, t.2) in
        let w : m ≡ suc d + j = omega (arith, t.2) in
        let q : y / 2 ^ j ≡ fronted n (suc d) (x / 2 ^ j) = ap (λ (z : ℕ). z / 2 ^ j) (is ∙ ap (λ (a : ℕ). fronted n a x) w) ∙ less_fronted n (suc d) j x in
        let f : fives_in (y / 2 ^ j) ≡ 1 = sym (fives_shr y j) ∙ ap (λ (z : ℕ). z / 2 ^ j) (sym e) ∙ t.3 in
        let r = fifth n d (x / 2 ^ j) (y / 2 ^ j) few (shr_lt (suc d) j (rw w at bits)) q f in
        (omega (arith, t.1, t.2), rw k (record { some = omega arith; within = omega arith; few = omega arith; passes = rw i r }))
