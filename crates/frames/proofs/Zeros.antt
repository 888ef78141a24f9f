-- Inserted zeros: what was put in is taken out, what was taken out is put in again, and no flag stands in what was written. The claims TakenOut,
-- PutIn and NoFlagInside, each for any number of ones in front, up to five.
-- Assumes nothing.
use Prim.Native.Nat.{ℕ, zero, suc, ◌+◌, ◌≤◌, ◌<◌}
use mathlib.Core.Path.{◌≡◌, refl, ap}
use mathlib.Core.Bool.{Bool, true, false, cond}
use mathlib.Core.List.{List, [], ◌∷◌, ◌++◌}
use native.Mathlib.Omega.{arith}
use lib.Dec.{eqb}
use lib.ListN.{replicate}
use borrow.Author.Tests.{eqb-true, eqb-false, ne_eqb}
use Rattle.fields.proofs.Puts.{both_false}
use Rattle.frames.specs.Stream.{digits}
use Rattle.frames.specs.Zeros.{ones, with_zeros, zeros_out, zero_missing}
use Rattle.frames.specs.Frame.{flag}
use Rattle.frames.specs.Reading.{begins, up_to_flag}
use Rattle.frames.specs.Claims.{TakenOut, PutIn, NoFlagInside}
use Rattle.frames.proofs.Tests.{by_test}

-- what is written behind n ones, of which the last was just written: behind five a zero comes first
abbrev behind : ℕ → List Bool → List Bool
behind n s = cond (eqb n 5) (false ∷ with_zeros 0 s) (with_zeros n s)

-- behind fewer than five, one bit more makes at most five
ones_most : (n : ℕ) (b : Bool) → n ≤ 4 → ones n b ≤ 5
ones_most n true h = omega arith
ones_most n false h = omega arith

-- what holds behind five ones and behind fewer holds behind one bit more
one_more : (P : ℕ → List Bool → Type 0) (s : List Bool) → P 5 (false ∷ with_zeros 0 s) → ((k : ℕ) → k ≤ 4 → P k (with_zeros k s))
    → (n : ℕ) (b : Bool) → n ≤ 4 → P (ones n b) (behind (ones n b) s)
one_more P s five fewer n b h =
    let k = ones n b in
    by_test (eqb k 5) (λ e. rw (eqb-true k 5 e) five)
    (λ e. rw e (fewer k (let ne = eqb-false k 5 e in let most = ones_most n b h in omega arith)))

-- ---- taken out

Out : List Bool → ℕ → List Bool → Type 0
Out s n w = (zeros_out n w ≡ s) × (zero_missing n w ≡ false)

out : (n : ℕ) (s : List Bool) → n ≤ 4 → Out s n (with_zeros n s)
unfolding Out with_zeros zeros_out zero_missing
out n [] h = (refl, ne_eqb n 5 (λ e. omega arith))
out n (b ∷ s) h =
    let more = one_more (Out s) s (out 0 s (omega arith)) (λ k l. out k s l) n b h in
    rw (ne_eqb n 5 (λ e. omega arith)) (ap (λ (l : List Bool). b ∷ l) more.0, more.1)

pub taken_out : TakenOut
unfolding Out
taken_out s = out 0 s (omega arith)

-- ---- put in

again : (n : ℕ) (s : List Bool) → n ≤ 5 → zero_missing n s ≡ false → behind n (zeros_out n s) ≡ s
unfolding with_zeros zeros_out zero_missing
again n [] h e = rw e refl
again n (b ∷ s) h e =
    by_test (eqb n 5)
    (λ five.
    let m = both_false b (zero_missing 0 s) (rw five at e) in
    rw (five, m.0) (ap (λ (l : List Bool). false ∷ l) (again 0 s (omega arith) m.1)))
    (λ few.
    rw few
    (ap (λ (l : List Bool). b ∷ l)
    (again (ones n b) s (ones_most n b (let ne = eqb-false n 5 few in omega arith)) (rw few at e))))

pub put_in : PutIn
put_in s = again 0 s (omega arith)

-- ---- no flag

-- the end of a flag, when so many of its ones and its last zero are to come
abbrev needs : ℕ → List Bool
needs j = replicate j true ++ (false ∷ [])

-- more than five ones in a row are not written, nor are they where the flag begins
six_ones : (n j : ℕ) (s rest : List Bool) → n ≤ 5 → 5 < n + j → begins (needs j) (behind n s ++ (flag ++ rest)) ≡ false
unfolding with_zeros begins digits
six_ones n zero s rest h l = absurd (omega arith)
six_ones n (suc j) [] rest h l = by_test (eqb n 5) (λ e. rw e) (λ e. rw e)
six_ones n (suc j) (true ∷ s) rest h l =
    by_test (eqb n 5) (λ e. rw e) (λ e. rw e (six_ones (n + 1) j s rest (let ne = eqb-false n 5 e in omega arith) (omega arith)))
six_ones n (suc j) (false ∷ s) rest h l = by_test (eqb n 5) (λ e. rw e) (λ e. rw e)

-- so no flag begins with a bit that was written
no_flag : (n : ℕ) (b : Bool) (s rest : List Bool) → begins flag (b ∷ (behind (ones n b) s ++ (flag ++ rest))) ≡ false
unfolding begins digits
no_flag n true s rest = refl
no_flag n false s rest = six_ones 0 6 s rest (omega arith) (omega arith)

inside : (n : ℕ) (s rest : List Bool) → n ≤ 4 → up_to_flag (with_zeros n s ++ (flag ++ rest)) ≡ with_zeros n s
unfolding with_zeros up_to_flag
inside n [] rest h = unfold begins digits in refl
inside n (b ∷ s) rest h =
    rw (no_flag n b s rest)
    (ap (λ (l : List Bool). b ∷ l)
    (one_more (λ k w. up_to_flag (w ++ (flag ++ rest)) ≡ w) s
    (rw (no_flag 0 false s rest) (ap (λ (l : List Bool). false ∷ l) (inside 0 s rest (omega arith))))
    (λ k l. inside k s rest l) n b h))

pub no_flag_inside : NoFlagInside
no_flag_inside s rest = inside 0 s rest (omega arith)
