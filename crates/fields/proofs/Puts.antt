-- Laws of writing parts: parts behind parts, a list's entries, values that fit, and what stays.
-- Assumes nothing.
use Rattle.std.proofs.Common.{◌≡◌, ℕ, zero, suc, ◌+◌, ◌^◌, ◌≤◌, Bool, true, false, ◌&&◌, ◌||◌, ltb, List, [], ◌∷◌, ◌++◌, length, ℤ, refl, ap, ◌∙◌, le_of_suc-le-suc, not-suc-le-zero, add-zero, add_assoc, arith, ltb-true, eqb-true}
use Rattle.bits.specs.Bits.{put_bits}
use Rattle.bits.proofs.Laws.{length-put_bits}
use Rattle.fields.specs.declared.Record.{Record}
use Rattle.fields.specs.declared.Record.TheVariants.{Single, Relay}
use Rattle.fields.specs.Lists.{entries_bits, entry_fits, list_fits}
use Rattle.fields.specs.Writing.{put_all, fit_all, head_bits, sum_of}
use Rattle.fields.proofs.Rows.{Fit}

-- ---- parts

pub length-put_all : (s : List ℕ) (a : ℕ) (ws vs : List ℕ) → length (put_all s a ws vs) ≡ length s
unfolding put_all
length-put_all s a [] vs = refl
length-put_all s a (w ∷ ws) [] = refl
length-put_all s a (w ∷ ws) (v ∷ vs) = length-put_all (put_bits s a w v) (a + w) ws vs ∙ length-put_bits s a w v

-- parts behind parts
pub put_all_join : (s : List ℕ) (a : ℕ) (ws vs xs ys : List ℕ) → length ws ≡ length vs →
    put_all s a (ws ++ xs) (vs ++ ys) ≡ put_all (put_all s a ws vs) (a + sum_of ws) xs ys
unfolding put_all
put_all_join s a [] [] xs ys n = rw add-zero refl
put_all_join s a [] (v ∷ vs) xs ys n = absurd (omega arith)
put_all_join s a (w ∷ ws) [] xs ys n = absurd (omega arith)
put_all_join s a (w ∷ ws) (v ∷ vs) xs ys n =
    put_all_join (put_bits s a w v) (a + w) ws vs xs ys (omega arith)
    ∙ ap (λ (b : ℕ). put_all (put_all (put_bits s a w v) (a + w) ws vs) b xs ys) (add_assoc a w (sum_of ws))

-- ---- a list's entries

pub entries_bits-length : (step n : ℕ) (l : List ℤ) → n ≤ length l → length (entries_bits step n l) ≡ n
unfolding entries_bits
entries_bits-length step zero l h = refl
entries_bits-length step (suc n) [] h = absurd (not-suc-le-zero h)
entries_bits-length step (suc n) (z ∷ l) h = ap suc (entries_bits-length step n l (le_of_suc-le-suc h))

-- both sides of a test
pub both_true : (a b : Bool) → (a && b) ≡ true → (a ≡ true) × (b ≡ true)
both_true true b h = (refl, h)
both_true false b h = absurd (let z : ◌≡◌ {A = ℕ} 0 1 = cc in omega arith)

pub both_false : (a b : Bool) → (a || b) ≡ false → (a ≡ false) × (b ≡ false)
both_false true b h = absurd (let z : ◌≡◌ {A = ℕ} 0 1 = cc in omega arith)
both_false false b h = (refl, h)

-- a list that fits has room for its entries
pub list_fits_room : (step n : ℕ) (l : List ℤ) → list_fits step n l ≡ true → n ≤ length l
unfolding list_fits
list_fits_room step n [] h = omega (arith, eqb-true n 0 h)
list_fits_room step zero (z ∷ l) h = omega arith
list_fits_room step (suc n) (z ∷ l) h = let r = list_fits_room step n l (both_true (entry_fits step z) (list_fits step n l) h).1 in omega arith

-- ---- values that fit

pub fit_of : (ws vs : List ℕ) → length ws ≡ length vs → fit_all ws vs ≡ true → Fit ws vs
unfolding fit_all
fit_of [] [] n h = tt
fit_of [] (v ∷ vs) n h = absurd (omega arith)
fit_of (w ∷ ws) [] n h = absurd (omega arith)
fit_of (w ∷ ws) (v ∷ vs) n h =
    let b = both_true (ltb v (2 ^ w)) (fit_all ws vs) h in
    (ltb-true v (2 ^ w) b.0, fit_of ws vs (omega arith) b.1)

pub head_small : (r : Record) → head_bits r ≤ 16
head_small (Single f) = omega arith
head_small (Relay x f) = omega arith
