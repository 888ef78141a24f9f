-- Laws of what the writer goes through one by one: the parts, the entries of a list and the bytes of a text.
-- Assumes nothing.
use mathlib.Core.Path.{◌≡◌, refl, ap, ◌∙◌}
use mathlib.Core.List.{List, [], ◌∷◌}
use mathlib.Core.Logic.{◌⊎◌, ⊎_elim}
use mathlib.Core.Bool.{Bool, true, false, ◌&&◌}
use Prim.Native.Nat.{ℕ, zero, suc, ◌+◌, ◌-◌, ◌*◌, ◌/◌, ◌≤◌, ◌<◌, ◌^◌}
use native.Mathlib.Decide.{dec_lt}
use native.Mathlib.Nat.{not-suc-le-zero, le_of_suc-le-suc, div-lt_iff_lt-mul, div-eq_of_lt, zero-lt-suc}
use lib.Pow.{pow_pos}
use native.Mathlib.Numerals.{add-one}
use native.Mathlib.Omega.{arith}
use lib.IntN.{ℤ, pos}
use lib.Dec.{ltb}
use lib.ListN.{length, get_or, drop, replicate}
use lib.Seq.{drop-cons}
use borrow.Author.Tests.{lt-ltb, le-ltb}
use Rattle.bits.specs.Bits.{put_bits}
use Rattle.fields.specs.Lists.{entry_bits, entries_bits, list_fits}
use Rattle.fields.specs.Writing.{put_all, fit_all}
use Rattle.fields.proofs.Entries.{next}
use Rattle.field_writer.specs.Lists.{entry_ok}

-- of the parts that are left the first is written first
pub put_all_step : (s : List ℕ) (a : ℕ) (ws vs : List ℕ) (w v : ℕ) → put_all s a (w ∷ ws) (v ∷ vs) ≡ put_all (put_bits s a w v) (a + w) ws vs
unfolding put_all
put_all_step s a ws vs w v = refl

pub put_all_none : (s : List ℕ) (a : ℕ) (ws vs : List ℕ) → (ws ≡ []) ⊎ (vs ≡ []) → put_all s a ws vs ≡ s
unfolding put_all
put_all_none s a [] vs e = refl
put_all_none s a (w ∷ ws) [] e = refl
put_all_none s a (w ∷ ws) (v ∷ vs) o = ⊎_elim (λ e. cc) (λ e. cc) o

pub same_step : (s : List ℕ) (a w n : ℕ) (vs : List ℕ) (k : ℕ) → k < n → k < length vs →
    put_all s (a + w * k) (replicate (n - k) w) (drop k vs)
    ≡ put_all (put_bits s (a + w * k) w (get_or vs k 0)) (a + w * (k + 1)) (replicate (n - (k + 1)) w) (drop (k + 1) vs)
unfolding put_all
same_step s a w n vs k h l =
    let e : n - k ≡ suc (n - (k + 1)) = omega arith in
    rw (e, drop-cons vs k 0 l, ← next a w k, add-one) refl

pub same_none : (s : List ℕ) (a w n k : ℕ) (vs : List ℕ) → n ≤ k → put_all s a (replicate (n - k) w) vs ≡ s
unfolding put_all
same_none s a w n k vs h =
    let e : n - k ≡ 0 = omega arith in
    rw e refl

pub entries_bits_at : (step n : ℕ) (l : List ℤ) (k : ℕ) → k < n → k < length l → get_or (entries_bits step n l) k 0 ≡ entry_bits step (get_or l k (pos 0))
unfolding entries_bits
entries_bits_at step zero l k h m = absurd (not-suc-le-zero h)
entries_bits_at step (suc n) [] k h m = absurd (not-suc-le-zero m)
entries_bits_at step (suc n) (z ∷ l) zero h m = refl
entries_bits_at step (suc n) (z ∷ l) (suc k) h m = entries_bits_at step n l k (le_of_suc-le-suc h) (le_of_suc-le-suc m)

-- the numbers from k on: the one at k, and the rest
list_fits_step : (step n : ℕ) (l : List ℤ) (k : ℕ) → k < length l →
    list_fits step (n - k) (drop k l) ≡ (entry_ok step n k (get_or l k (pos 0)) && list_fits step (n - (k + 1)) (drop (k + 1) l))
unfolding list_fits entry_ok
list_fits_step step n l k h = go (dec_lt k n)
  where
    go : Dec (k < n) → list_fits step (n - k) (drop k l) ≡ (entry_ok step n k (get_or l k (pos 0)) && list_fits step (n - (k + 1)) (drop (k + 1) l))
    go (yes m) =
        let e : n - k ≡ suc (n - (k + 1)) = omega arith in
        rw (e, drop-cons l k (pos 0) h, lt-ltb k n m, add-one) refl
    go (no m) =
        let e : n - k ≡ 0 = omega arith in
        let f : n - (k + 1) ≡ 0 = omega arith in
        rw (e, f, drop-cons l k (pos 0) h, le-ltb k n (omega arith), add-one) refl

pub list_fits_bad : (step n : ℕ) (l : List ℤ) (k : ℕ) → k < length l → entry_ok step n k (get_or l k (pos 0)) ≡ false → list_fits step (n - k) (drop k l) ≡ false
list_fits_bad step n l k h e = list_fits_step step n l k h ∙ ap (λ (b : Bool). b && list_fits step (n - (k + 1)) (drop (k + 1) l)) e

pub list_fits_good : (step n : ℕ) (l : List ℤ) (k : ℕ) → k < length l → entry_ok step n k (get_or l k (pos 0)) ≡ true →
    list_fits step (n - k) (drop k l) ≡ list_fits step (n - (k + 1)) (drop (k + 1) l)
list_fits_good step n l k h e = list_fits_step step n l k h ∙ ap (λ (b : Bool). b && list_fits step (n - (k + 1)) (drop (k + 1) l)) e

pub fit_all_good : (ws vs : List ℕ) (w v : ℕ) → v < 2 ^ w → fit_all (w ∷ ws) (v ∷ vs) ≡ fit_all ws vs
unfolding fit_all
fit_all_good ws vs w v l = ap (λ (b : Bool). b && fit_all ws vs) (lt-ltb _ _ l)

pub fit_all_bad : (ws vs : List ℕ) (w v : ℕ) → 2 ^ w ≤ v → fit_all (w ∷ ws) (v ∷ vs) ≡ false
unfolding fit_all
fit_all_bad ws vs w v l = ap (λ (b : Bool). b && fit_all ws vs) (le-ltb _ _ l)

pub fit_all_none : (ws vs : List ℕ) → (ws ≡ []) ⊎ (vs ≡ []) → fit_all ws vs ≡ true
unfolding fit_all
fit_all_none [] vs e = refl
fit_all_none (w ∷ ws) [] e = refl
fit_all_none (w ∷ ws) (v ∷ vs) o = ⊎_elim (λ e. cc) (λ e. cc) o

-- a number from which a shift leaves nothing is within the width
pub shifted_out : (x w : ℕ) → x / 2 ^ w ≡ 0 → x < 2 ^ w
shifted_out x w e = let h : x < 1 * 2 ^ w = (div-lt_iff_lt-mul (pow_pos w)).0 (rw e (zero-lt-suc 0)) in omega arith

pub shifted_in : (x w : ℕ) → (x / 2 ^ w ≡ 0 → ⊥) → 2 ^ w ≤ x
shifted_in x w ne = go (dec_lt x (2 ^ w))
  where
    go : Dec (x < 2 ^ w) → 2 ^ w ≤ x
    go (yes l) = absurd (ne (div-eq_of_lt l))
    go (no l) = omega arith
