-- A record that the writer takes, written and read, gives the same record, list and text.
-- Assumes nothing.
use Rattle.std.proofs.Common.{◌≡◌, ℕ, zero, suc, ◌+◌, ◌*◌, ◌/◌, ◌%◌, ◌^◌, ◌<◌, ◌≤◌, Bool, true, false, not, eqb, ltb, ◌⊎◌, List, [], ◌∷◌, ◌++◌, length, take, drop, replicate, ℤ, pos, negsuc, nat_abs, sym, refl, ap, ◌∙◌, inl, inr, add-zero, add_assoc, arith, drop-cons, take_at, drop_at, ltb-true, le-ltb, eq-eqb, ne_eqb, eqb-true}
use Rattle.bits.specs.Bits.{bits_of, put_bits, Bytes}
use Rattle.bits.proofs.Laws.{bits_of-put_bits_other, byte_bits}
use Rattle.fields.specs.Table.{values_of}
use Rattle.fields.specs.Lists.{negative, block_of, block_bits, block_unused, entry_of, entry_bits, entry_fits, any_unused, entries_in, list_fits, entries_bits}
use Rattle.fields.specs.Writing.{sum_of}
use Rattle.fields.proofs.Rows.{Fit}
use Rattle.fields.proofs.Puts.{both_true}

-- ---- lists

pub append_inj : {A : Type 0} (x y x' y' : List A) → length x ≡ length y → x ++ x' ≡ y ++ y' → (x ≡ y) × (x' ≡ y')
append_inj x y x' y' n e = (
  sym (take_at x x' (length y) n) ∙ ap (take (length y)) e ∙ take_at y y' (length y) refl,
  sym (drop_at x x' (length y) n) ∙ ap (drop (length y)) e ∙ drop_at y y' (length y) refl,
)

pub values_of_join : (s : List ℕ) (a : ℕ) (ws xs : List ℕ) → values_of s a (ws ++ xs) ≡ values_of s a ws ++ values_of s (a + sum_of ws) xs
unfolding values_of
values_of_join s a [] xs = rw add-zero refl
values_of_join s a (w ∷ ws) xs = ap (λ (l : List ℕ). bits_of s a w ∷ l) (values_of_join s (a + w) ws xs ∙ rw add_assoc refl)

pub values_of_snoc : (s : List ℕ) (a : ℕ) (ws : List ℕ) (w : ℕ) → values_of s a (ws ++ (w ∷ [])) ≡ values_of s a ws ++ (bits_of s (a + sum_of ws) w ∷ [])
unfolding values_of
values_of_snoc s a ws w = values_of_join s a ws (w ∷ [])

pub values_of-length : (s : List ℕ) (a : ℕ) (ws : List ℕ) → length (values_of s a ws) ≡ length ws
unfolding values_of
values_of-length s a [] = refl
values_of-length s a (w ∷ ws) = ap suc (values_of-length s (a + w) ws)

pub sum_join : (ws xs : List ℕ) → sum_of (ws ++ xs) ≡ sum_of ws + sum_of xs
sum_join [] xs = omega arith
sum_join (w ∷ ws) xs = omega (arith, sum_join ws xs)

pub fit_join : (ws vs xs ys : List ℕ) → Fit ws vs → Fit xs ys → Fit (ws ++ xs) (vs ++ ys)
fit_join [] [] xs ys f g = g
fit_join [] (v ∷ vs) xs ys f g = absurd f
fit_join (w ∷ ws) [] xs ys f g = absurd f
fit_join (w ∷ ws) (v ∷ vs) xs ys f g = (f.0, fit_join ws vs xs ys f.1 g)

-- parts before a written field read as before
pub values_stay : (s : List ℕ) (n k v a : ℕ) (ws : List ℕ) → a + sum_of ws ≤ n → values_of (put_bits s n k v) a ws ≡ values_of s a ws
unfolding values_of
values_stay s n k v a [] h = refl
values_stay s n k v a (w ∷ ws) h = rw (bits_of-put_bits_other s n k v a w (inl (omega arith)), values_stay s n k v (a + w) ws (omega arith)) refl

-- bytes as parts of eight bits
pub values_bytes : (s : List ℕ) (j k : ℕ) → Bytes s → j + k ≤ length s → values_of s (j * 8) (replicate k 8) ≡ take k (drop j s)
unfolding values_of
values_bytes s j zero b h = refl
values_bytes s j (suc k) b h =
    let e : j * 8 + 8 ≡ suc j * 8 = omega arith in
    rw (drop-cons s j 0 (omega arith), byte_bits s j b, e, values_bytes s (suc j) k b (omega arith)) refl

pub bytes_fit : (t : List ℕ) → Bytes t → Fit (replicate (length t) 8) t
bytes_fit [] b = tt
bytes_fit (x ∷ t) b = (b.0, bytes_fit t b.1)

-- ---- entries

-- steps that are entries
abbrev pub Entry : ℕ → Type 0
Entry step = (step ≡ 8) ⊎ (step ≡ 24)

block_lt : (z : ℤ) → nat_abs z < 80 → block_bits z < 256
block_lt (pos n) h = omega arith
block_lt (negsuc n) h = omega arith

entry_lt : (step : ℕ) (z : ℤ) → Entry step → entry_fits step z ≡ true → entry_bits step z < 2 ^ step
unfolding entry_fits entry_bits
entry_lt step z (inl e) f = rw e (block_lt z (ltb-true (nat_abs z) 80 (rw e at f)))
entry_lt step z (inr e) f =
    rw e (ltb-true (nat_abs z) 16777216 (both_true (not (negative z)) (ltb (nat_abs z) 16777216) (rw e at f)).1)

pub entries_fit : (step n : ℕ) (l : List ℤ) → (0 < n → Entry step) → list_fits step n l ≡ true → Fit (replicate n step) (entries_bits step n l)
unfolding list_fits entries_bits
entries_fit step zero l e f = tt
entries_fit step (suc n) [] e f = absurd (let q = eqb-true (suc n) 0 f in omega arith)
entries_fit step (suc n) (z ∷ l) e f =
    let b = both_true (entry_fits step z) (list_fits step n l) f in
    (entry_lt step z (e (omega arith)) b.0, entries_fit step n l (λ h. e (omega arith)) b.1)

-- a number's bits give the number
digits : (x k q d n : ℕ) → x ≡ k * 16 + d → k % 8 ≡ q → d < 10 → q * 10 + d ≡ n → x / 16 % 8 * 10 + x % 16 ≡ n
digits x k q d n e m h s =
    let u : x / 16 ≡ k = omega arith in
    let v : x % 16 ≡ d = omega arith in
    rw (u, v, m) s

pub tens : (n : ℕ) → n / 10 * 10 + n % 10 ≡ n
tens n = omega arith

block_back : (z : ℤ) → nat_abs z < 80 → block_of (block_bits z) ≡ z
block_back (pos n) h =
    let x = 0 + n / 10 * 16 + n % 10 in
    let m = digits x (n / 10) (n / 10) (n % 10) n (omega arith) (omega arith) (omega arith) (tens n) in
    rw (ne_eqb (x / 128) 1 (λ e. omega arith), m) refl
block_back (negsuc n) h =
    let x = 128 + suc n / 10 * 16 + suc n % 10 in
    let m = digits x (8 + suc n / 10) (suc n / 10) (suc n % 10) (suc n) (omega arith) (omega arith) (omega arith) (tens (suc n)) in
    rw (eq-eqb (x / 128) 1 (omega arith), m) refl

entry_back : (step : ℕ) (z : ℤ) → entry_fits step z ≡ true → entry_of step (entry_bits step z) ≡ z
unfolding entry_fits entry_bits entry_of
entry_back step z f = go (eqb step 8) refl
  where
    plain : (z : ℤ) → not (negative z) ≡ true → pos (nat_abs z) ≡ z
    plain (pos n) h = refl
    plain (negsuc n) h = absurd (let q : ◌≡◌ {A = ℕ} 0 1 = cc in omega arith)

    go : (b : Bool) → eqb step 8 ≡ b → entry_of step (entry_bits step z) ≡ z
    go true e = rw e (block_back z (ltb-true (nat_abs z) 80 (rw e at f)))
    go false e = rw e (plain z (both_true (not (negative z)) (ltb (nat_abs z) 16777216) (rw e at f)).0)

zero_back : (z : ℤ) → nat_abs z ≡ 0 → pos 0 ≡ z
zero_back (pos n) h = ap pos (sym h)
zero_back (negsuc n) h = absurd (omega arith)

pub list_back : (step n : ℕ) (l : List ℤ) (room : ℕ) → length l ≡ room → list_fits step n l ≡ true → entries_in step room (entries_bits step n l) ≡ l
unfolding list_fits entries_bits entries_in
list_back step n [] zero h f = refl
list_back step n [] (suc room) h f = absurd (omega arith)
list_back step n (z ∷ l) zero h f = absurd (omega arith)
list_back step zero (z ∷ l) (suc room) h f =
    let b = both_true (eqb (nat_abs z) 0) (list_fits step zero l) f in
    rw (zero_back z (eqb-true (nat_abs z) 0 b.0), list_back step zero l room (omega arith) b.1) refl
list_back step (suc n) (z ∷ l) (suc room) h f =
    let b = both_true (entry_fits step z) (list_fits step n l) f in
    rw (entry_back step z b.0, list_back step n l room (omega arith) b.1) refl

-- a number's block is in use
pub used_back : (n : ℕ) (l : List ℤ) → list_fits 8 n l ≡ true → any_unused (entries_bits 8 n l) ≡ false
unfolding list_fits entries_bits any_unused entry_fits entry_bits
used_back zero l f = refl
used_back (suc n) [] f = refl
used_back (suc n) (z ∷ l) f =
    let b = both_true (ltb (nat_abs z) 80) (list_fits 8 n l) f in
    rw (one z (ltb-true (nat_abs z) 80 b.0)) (used_back n l b.1)
  where
    one : (z : ℤ) → nat_abs z < 80 → block_unused (block_bits z) ≡ false
    one (pos n) h =
        let x = 0 + n / 10 * 16 + n % 10 in
        rw (le-ltb 9 (x % 16) (omega arith), ne_eqb x 128 (λ e. omega arith)) refl
    one (negsuc n) h =
        let x = 128 + suc n / 10 * 16 + suc n % 10 in
        rw (le-ltb 9 (x % 16) (omega arith), ne_eqb x 128 (λ e. omega arith)) refl
