-- Facts of the table's rows, each by one test that antt computes over all of them.
-- Assumes nothing.
use Rattle.std.proofs.Common.{◌≡◌, ℕ, ◌+◌, ◌-◌, ◌*◌, ◌%◌, ◌^◌, ◌<◌, ◌≤◌, Bool, true, false, cond, not, ◌&&◌, ◌||◌, T, eqb, leb, ◌⊎◌, List, length, refl, inl, inr, zero-le, mul-le-mul_left, arith, eqb→eq, leb→le, eq-eqb, ne_eqb, eqb-true, None, Option, Some}
use native.Mathlib.Decide.{ℕ_discrete}
use Rattle.std.specs.Option.{is_none}
use Rattle.fields.specs.declared.Row.{Row}
use Rattle.fields.specs.Table.{table, rows, row_at, widths, widths_at, counted, count_in, size_in}
use Rattle.fields.specs.Reading.{from_sensor, listed_as}
use Rattle.fields.specs.Writing.{text_length_by}
use Rattle.fields.proofs.Rows.{below_at, both_left, both_right, Fit, counted_fit}

true_of : (b : Bool) → T b → b ≡ true
true_of true t = refl
true_of false t = absurd t

false_of : (b : Bool) → T (not b) → b ≡ false
false_of true t = absurd t
false_of false t = refl

-- a field's type is not the relay's
pub no_relay : (i : ℕ) → i < 21 → eqb (row_at i).code 0x03 ≡ false
unfolding table rows row_at
no_relay i h = false_of _ (below_at (λ (j : ℕ). not (eqb (row_at j).code 0x03)) 21 tt i h)

-- at least 16 bits
pub base_least : (i : ℕ) → i < 22 → 16 ≤ (row_at i).base
unfolding table rows row_at
base_least i h = leb→le _ _ (below_at (λ (j : ℕ). leb 16 (row_at j).base) 22 tt i h)

-- an ELM's text begins at a byte
pub text_whole : (i : ℕ) → i < 22 → (row_at i).step ≡ 80 → (row_at i).base % 8 ≡ 0
unfolding table rows row_at
text_whole i h e =
    go (eqb (row_at i).step 80) (eq-eqb _ _ e) (below_at (λ (j : ℕ). not (eqb (row_at j).step 80) || eqb ((row_at j).base % 8) 0) 22 tt i h)
  where
    go : (b : Bool) → b ≡ true → T (not b || eqb ((row_at i).base % 8) 0) → (row_at i).base % 8 ≡ 0
    go true q t = eqb→eq _ _ t
    go false q t = absurd (let z : ◌≡◌ {A = ℕ} 0 1 = cc in omega arith)

-- what comes from the sensor has no list
from_no_list : (i : ℕ) → i < 22 → from_sensor (row_at i).way ≡ true → ((row_at i).step ≡ 80) ⊎ ((row_at i).step ≡ 0)
unfolding table rows row_at from_sensor
from_no_list i h e =
    go (from_sensor (row_at i).way) (eqb (row_at i).step 80) refl e
    (below_at (λ (j : ℕ). not (from_sensor (row_at j).way) || (eqb (row_at j).step 80 || eqb (row_at j).step 0)) 22 tt i h)
  where
    go : (b c : Bool) → eqb (row_at i).step 80 ≡ c → b ≡ true → T (not b || (c || eqb (row_at i).step 0)) → ((row_at i).step ≡ 80) ⊎ ((row_at i).step ≡ 0)
    go true true e q t = inl (eqb-true _ _ e)
    go true false e q t = inr (eqb→eq _ _ t)
    go false c e q t = absurd (let z : ◌≡◌ {A = ℕ} 0 1 = cc in omega arith)

-- a type of no steps counts none
abbrev uncounted : Row → Bool
uncounted r = eqb r.more 0 && (is_none r.first && (is_none r.second && is_none r.third))

no_steps : (i : ℕ) (vs : List ℕ) → i < 22 → (row_at i).step ≡ 0 → count_in (row_at i) vs ≡ 0
unfolding table rows row_at count_in
no_steps i vs h e =
    go (eqb (row_at i).step 0) (eq-eqb _ _ e) (below_at (λ (j : ℕ). not (eqb (row_at j).step 0) || uncounted (row_at j)) 22 tt i h)
  where
    nothing : (k : Option ℕ) → T (is_none k) → counted vs k ≡ 0
    nothing None t = refl
    nothing (Some k) t = absurd t

    go : (b : Bool) → b ≡ true → T (not b || uncounted (row_at i)) → count_in (row_at i) vs ≡ 0
    go true q t =
        let r = row_at i in
        let m = both_left (eqb r.more 0) _ t in
        let t1 = both_right (eqb r.more 0) (is_none r.first && (is_none r.second && is_none r.third)) t in
        let t2 = both_right (is_none r.first) (is_none r.second && is_none r.third) t1 in
        let x = nothing r.first (both_left (is_none r.first) (is_none r.second && is_none r.third) t1) in
        let y = nothing r.second (both_left (is_none r.second) (is_none r.third) t2) in
        let z = nothing r.third (both_right (is_none r.second) (is_none r.third) t2) in
        omega (arith, eqb→eq r.more 0 m)
    go false q t = absurd (let z : ◌≡◌ {A = ℕ} 0 1 = cc in omega arith)

-- entries are blocks or numbers of 24 bits
step_told : (i : ℕ) → i < 22 → ((row_at i).step ≡ 80) ⊎ (((row_at i).step ≡ 0) ⊎ (((row_at i).step ≡ 8) ⊎ ((row_at i).step ≡ 24)))
unfolding table rows row_at
step_told i h =
    go (eqb (row_at i).step 80) (eqb (row_at i).step 0) (eqb (row_at i).step 8) refl refl refl
    (below_at (λ (j : ℕ). eqb (row_at j).step 80 || (eqb (row_at j).step 0 || (eqb (row_at j).step 8 || eqb (row_at j).step 24))) 22 tt i h)
  where
    go : (a b c : Bool) → eqb (row_at i).step 80 ≡ a → eqb (row_at i).step 0 ≡ b → eqb (row_at i).step 8 ≡ c
        → T (a || (b || (c || eqb (row_at i).step 24))) → ((row_at i).step ≡ 80) ⊎ (((row_at i).step ≡ 0) ⊎ (((row_at i).step ≡ 8) ⊎ ((row_at i).step ≡ 24)))
    go true b c p q r t = inl (eqb-true _ _ p)
    go false true c p q r t = inr (inl (eqb-true _ _ q))
    go false false true p q r t = inr (inr (inl (eqb-true _ _ r)))
    go false false false p q r t = inr (inr (inr (eqb→eq _ _ t)))

-- so what is listed is one of these
pub entry_listed : (i : ℕ) (vs : List ℕ) → i < 22 → length vs ≡ 11 → 0 < listed_as (row_at i) vs → ((row_at i).step ≡ 8) ⊎ ((row_at i).step ≡ 24)
unfolding listed_as
entry_listed i vs h n m = go (step_told i h)
  where
    go : ((row_at i).step ≡ 80) ⊎ (((row_at i).step ≡ 0) ⊎ (((row_at i).step ≡ 8) ⊎ ((row_at i).step ≡ 24))) → ((row_at i).step ≡ 8) ⊎ ((row_at i).step ≡ 24)
    go (inl e) = absurd (let q : 0 < 0 = rw (eq-eqb (row_at i).step 80 e) at m in omega arith)
    go (inr (inl e)) = absurd (let c = no_steps i vs h e in let q : 0 < count_in (row_at i) vs = rw (ne_eqb (row_at i).step 80 (λ u. omega arith)) at m in omega arith)
    go (inr (inr e)) = e

-- and nothing of what comes from the sensor
pub none_listed : (i : ℕ) (vs : List ℕ) → i < 22 → length vs ≡ 11 → from_sensor (row_at i).way ≡ true → listed_as (row_at i) vs ≡ 0
unfolding listed_as
none_listed i vs h n f = go (from_no_list i h f)
  where
    go : ((row_at i).step ≡ 80) ⊎ ((row_at i).step ≡ 0) → listed_as (row_at i) vs ≡ 0
    go (inl e) = rw (eq-eqb (row_at i).step 80 e) refl
    go (inr e) = rw (ne_eqb (row_at i).step 80 (λ u. omega arith)) (no_steps i vs h e)

-- no field is longer than 1336 bits
abbrev most : Row → List ℕ → ℕ
most r ws = r.more + (2 ^ counted ws r.first - 1) + (2 ^ counted ws r.second - 1) + (2 ^ counted ws r.third - 1)

pub size_most : (i : ℕ) (vs : List ℕ) → i < 22 → Fit (widths_at i) vs → size_in (row_at i) vs ≤ 1400
unfolding table rows row_at widths widths_at size_in count_in
size_most i vs h f =
    let r = row_at i in
    let ws = widths_at i in
    let t = leb→le (r.base + r.step * most r ws) 1400 (below_at (λ (j : ℕ). leb ((row_at j).base + (row_at j).step * most (row_at j) (widths_at j)) 1400) 22 tt i h) in
    let x = counted_fit ws vs f r.first in
    let y = counted_fit ws vs f r.second in
    let z = counted_fit ws vs f r.third in
    omega (arith, mul-le-mul_left {m = count_in r vs} {n = most r ws} r.step (omega arith))

-- ---- all of a field's steps are entries or text

pub steps_told : (r : Row) (vs : List ℕ) → r.step * listed_as r vs + 8 * text_length_by r vs ≡ r.step * count_in r vs
unfolding listed_as text_length_by
steps_told r vs = go (eqb r.step 80) refl
  where
    go : (b : Bool) → eqb r.step 80 ≡ b → r.step * cond (eqb r.step 80) 0 (count_in r vs) + 8 * cond (eqb r.step 80) (10 * count_in r vs) 0 ≡ r.step * count_in r vs
    go true e = rw (e, eqb-true r.step 80 e) (omega arith)
    go false e = rw e (omega arith)

-- of all rows only the relay's has its code
pub below_relay : (i : ℕ) → i < 22 → eqb (row_at i).code 0x03 ≡ false → i < 21
unfolding table rows row_at
below_relay i h e = go (ℕ_discrete i 21)
  where
    go : Dec (i ≡ 21) → i < 21
    go (yes q) = absurd (let y : true ≡ false = (rw q at e) in let z : ◌≡◌ {A = ℕ} 0 1 = cc in omega arith)
    go (no f) = omega arith

-- no list has more than thirty entries
pub listed_most : (i : ℕ) (vs : List ℕ) → i < 22 → Fit (widths_at i) vs → listed_as (row_at i) vs ≤ 30
unfolding table rows row_at widths widths_at listed_as count_in
listed_most i vs h f = go (eqb (row_at i).step 80) (below_at (λ (j : ℕ). eqb (row_at j).step 80 || leb (most (row_at j) (widths_at j)) 30) 22 tt i h)
  where
    go : (b : Bool) → T (b || leb (most (row_at i) (widths_at i)) 30) → cond b 0 (count_in (row_at i) vs) ≤ 30
    go true t = zero-le
    go false t =
        let r = row_at i in
        let ws = widths_at i in
        let x = counted_fit ws vs f r.first in
        let y = counted_fit ws vs f r.second in
        let z = counted_fit ws vs f r.third in
        omega (arith, leb→le (most r ws) 30 t)
