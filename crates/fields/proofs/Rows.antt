-- Laws of the table: what is looked up, row by row.
-- Assumes nothing.
use Rattle.std.proofs.Common.{◌≡◌, ℕ, zero, suc, ◌+◌, ◌-◌, ◌%◌, ◌^◌, ◌<◌, ◌≤◌, Bool, true, false, cond, not, ◌&&◌, ◌||◌, T, eqb, leb, List, [], ◌∷◌, length, get_or, refl, zero-le, lt_of_lt_of_le, le_of_suc-le-suc, not-suc-le-zero, arith, eqb→eq, leb→le, pow_mono, eq-eqb, ne_eqb, eqb-true, lit<, None, Option, Some}
use native.Mathlib.Decide.{ℕ_discrete}
use lib.ListN.{get_or-eq_default}
use Rattle.bits.proofs.Laws.{bits_of-lt}
use Rattle.fields.specs.declared.Row.{Row}
use Rattle.fields.specs.declared.Field.TheVariants.{ControllerAlert}
use Rattle.fields.specs.Table.{table, rows, no_row, row_at, widths, widths_at, rules, rules_at, place_from, values_of, has_fault, Quiet, counted, count_in, RowSmall}
use Rattle.fields.specs.Records.{fields_by, field_at}
use Rattle.fields.specs.Reading.{type_not_carried}

-- the number i is none of the first n, as the last arm of a `match` has it
abbrev NotBelow : ℕ → ℕ → Type 0
NotBelow i zero = Unit {0}
NotBelow i (suc n) = NotBelow i n × (i ≡ n → ⊥)

pub not_below : (i n : ℕ) → NotBelow i n → n ≤ i
not_below i zero t = zero-le
not_below i (suc n) t = next (not_below i n t.0) t.1
  where
    next : n ≤ i → (i ≡ n → ⊥) → suc n ≤ i
    next h ne = omega arith

-- of the first n + 1 numbers it is then the last
pub last_is : (i n : ℕ) → i < suc n → NotBelow i n → i ≡ n
last_is i n h t = last (not_below i n t)
  where
    last : n ≤ i → i ≡ n
    last l = omega arith

-- the last type stands at every place from 20 on
pub field_at_last : (at a b c d e f g h i j : ℕ) → 20 ≤ at → field_at at a b c d e f g h i j ≡ ControllerAlert a b c d e f g h i j
unfolding field_at
field_at_last at a b c d e f g h i j l = get_or-eq_default (fields_by a b c d e f g h i j) (ControllerAlert a b c d e f g h i j) l

-- a place that is found stands in the table, and holds the code
found_in : (c : ℕ) (rs : List Row) (a i : ℕ) → place_from c rs a ≡ Some i → i < a + length rs
unfolding place_from
found_in c [] a i e = let z : ◌≡◌ {A = ℕ} 0 1 = cc in omega arith
found_in c (r ∷ rs) a i e = go (eqb r.code c) (found_in c rs (a + 1) i) e
  where
    go : (t : Bool) → (place_from c rs (a + 1) ≡ Some i → i < a + 1 + length rs) → cond t (Some a) (place_from c rs (a + 1)) ≡ Some i → i < a + suc (length rs)
    go true h q = let z : a ≡ i = cc in omega arith
    go false h q = omega (arith, h q)

pub found_within : (c i : ℕ) → place_from c rows 0 ≡ Some i → i < 22
unfolding rows table
found_within c i e = found_in c rows 0 i e

-- ---- a test over all places, which antt computes

pub both_left : (a b : Bool) → T (a && b) → T a
both_left true b t = tt
both_left false b t = t

pub both_right : (a b : Bool) → T (a && b) → T b
both_right true b t = t
both_right false b t = absurd t

abbrev all_below : (ℕ → Bool) → ℕ → Bool
all_below p zero = true
all_below p (suc n) = p n && all_below p n

pub below_at : (p : ℕ → Bool) (n : ℕ) → T (all_below p n) → (i : ℕ) → i < n → T (p i)
below_at p zero t i h = absurd (not-suc-le-zero h)
below_at p (suc n) t i h = go (ℕ_discrete i n) (below_at p n (both_right (p n) (all_below p n) t) i)
  where
    go : Dec (i ≡ n) → (i < n → T (p i)) → T (p i)
    go (yes e) r = rw e (both_left (p n) (all_below p n) t)
    go (no f) r = r (omega arith)

-- widths that one number of 64 bits holds
abbrev narrow : List ℕ → Bool
narrow [] = true
narrow (w ∷ ws) = leb w 63 && narrow ws

narrow_at : (ws : List ℕ) → T (narrow ws) → (k : ℕ) → get_or ws k 0 ≤ 63
narrow_at [] t k = zero-le
narrow_at (w ∷ ws) t zero = leb→le w 63 (both_left (leb w 63) (narrow ws) t)
narrow_at (w ∷ ws) t (suc k) = narrow_at ws (both_right (leb w 63) (narrow ws) t) k

pub widths_narrow : (i : ℕ) → i < 22 → (k : ℕ) → get_or (widths_at i) k 0 ≤ 63
unfolding table widths widths_at
widths_narrow i h = narrow_at (widths_at i) (below_at (λ (j : ℕ). narrow (widths_at j)) 22 tt i h)

-- the first part is the type
pub first_width : (i : ℕ) → i < 22 → get_or (widths_at i) 0 0 ≡ 8
unfolding table widths widths_at
first_width i h = eqb→eq _ 8 (below_at (λ (j : ℕ). eqb (get_or (widths_at j) 0 0) 8) 22 tt i h)

-- widths that are no more once one is none
abbrev ended : List ℕ → Bool
ended [] = true
ended (w ∷ ws) = eqb w 0 && ended ws

abbrev tapers : List ℕ → Bool
tapers [] = true
tapers (w ∷ ws) = (not (eqb w 0) || ended ws) && tapers ws

ended_at : (ws : List ℕ) → T (ended ws) → (m : ℕ) → get_or ws m 0 ≡ 0
ended_at [] t m = refl
ended_at (w ∷ ws) t zero = eqb→eq w 0 (both_left (eqb w 0) (ended ws) t)
ended_at (w ∷ ws) t (suc m) = ended_at ws (both_right (eqb w 0) (ended ws) t) m

-- from the first that is none on
end_from : (w : ℕ) (ws : List ℕ) → w ≡ 0 → T (tapers (w ∷ ws)) → T (ended (w ∷ ws))
end_from w ws e t = go (eqb w 0) (eq-eqb w 0 e) (both_left (not (eqb w 0) || ended ws) (tapers ws) t)
  where
    go : (b : Bool) → b ≡ true → T (not b || ended ws) → T (b && ended ws)
    go true q t = t
    go false q t = absurd (let z : ◌≡◌ {A = ℕ} 0 1 = cc in omega arith)

tapers_at : (ws : List ℕ) → T (tapers ws) → (k m : ℕ) → k ≤ m → get_or ws k 0 ≡ 0 → get_or ws m 0 ≡ 0
tapers_at [] t k m h e = refl
tapers_at (w ∷ ws) t zero zero h e = e
tapers_at (w ∷ ws) t zero (suc m) h e = ended_at (w ∷ ws) (end_from w ws e t) (suc m)
tapers_at (w ∷ ws) t (suc k) zero h e = absurd (not-suc-le-zero h)
tapers_at (w ∷ ws) t (suc k) (suc m) h e = tapers_at ws (both_right (not (eqb w 0) || ended ws) (tapers ws) t) k m (le_of_suc-le-suc h) e

pub widths_taper : (i : ℕ) → i < 22 → (k m : ℕ) → k ≤ m → get_or (widths_at i) k 0 ≡ 0 → get_or (widths_at i) m 0 ≡ 0
unfolding table widths widths_at
widths_taper i h = tapers_at (widths_at i) (below_at (λ (j : ℕ). tapers (widths_at j)) 22 tt i h)

-- ---- the numbers of a row are small

abbrev counted_ok : Row → List ℕ → Bool
counted_ok r ws = leb (counted ws r.first) 4 && (leb (counted ws r.second) 4 && leb (counted ws r.third) 4)

abbrev row_ok : Row → List ℕ → Bool
row_ok r ws = (leb r.base 96 && (leb r.step 80 && leb r.more 1)) && counted_ok r ws

row-ok : (i : ℕ) → i < 22 → T (row_ok (row_at i) (widths_at i))
unfolding table rows row_at widths widths_at
row-ok i h = below_at (λ (j : ℕ). row_ok (row_at j) (widths_at j)) 22 tt i h

-- as many values as widths, each within its width
abbrev pub Fit : List ℕ → List ℕ → Type 0
Fit [] [] = Unit {0}
Fit [] (v ∷ vs) = ⊥
Fit (w ∷ ws) [] = ⊥
Fit (w ∷ ws) (v ∷ vs) = (v < 2 ^ w) × Fit ws vs

pub values_fit : (s : List ℕ) (a : ℕ) (ws : List ℕ) → Fit ws (values_of s a ws)
unfolding values_of
values_fit s a [] = tt
values_fit s a (w ∷ ws) = (bits_of-lt s a w, values_fit s (a + w) ws)

pub fit_at : (ws vs : List ℕ) → Fit ws vs → (k : ℕ) → get_or vs k 0 < 2 ^ get_or ws k 0
fit_at [] [] f k = omega arith
fit_at [] (v ∷ vs) f k = absurd f
fit_at (w ∷ ws) [] f k = absurd f
fit_at (w ∷ ws) (v ∷ vs) f zero = f.0
fit_at (w ∷ ws) (v ∷ vs) f (suc k) = fit_at ws vs f.1 k

pub counted_fit : (ws vs : List ℕ) → Fit ws vs → (k : Option ℕ) → counted vs k < 2 ^ counted ws k
counted_fit ws vs f None = lit< tt
counted_fit ws vs f (Some k) = fit_at ws vs f k

-- where a width is none the rule is that of a spare
abbrev spared : List ℕ → List ℕ → Bool
spared [] [] = true
spared [] (r ∷ rs) = false
spared (w ∷ ws) [] = false
spared (w ∷ ws) (r ∷ rs) = (not (eqb w 0) || eqb r 1) && spared ws rs

quiet_all : (ws rs vs : List ℕ) → T (ended ws) → T (spared ws rs) → Fit ws vs → (has_fault 1 rs vs ≡ false) × (has_fault 2 rs vs ≡ false)
unfolding has_fault
quiet_all [] [] vs t p f = (refl, refl)
quiet_all [] (r ∷ rs) vs t p f = absurd p
quiet_all (w ∷ ws) [] vs t p f = absurd p
quiet_all (w ∷ ws) (r ∷ rs) [] t p f = absurd f
quiet_all (w ∷ ws) (r ∷ rs) (v ∷ vs) t p f =
    let w0 : w ≡ 0 = eqb→eq w 0 (both_left (eqb w 0) (ended ws) t) in
    let r1 : r ≡ 1 = eqb→eq r 1 (rule_is (eqb w 0) (eq-eqb w 0 w0) (both_left (not (eqb w 0) || eqb r 1) (spared ws rs) p)) in
    let h = rw w0 at f.0 in
    let v0 : v ≡ 0 = omega arith in
    rw (r1, v0) (quiet_all ws rs vs (both_right (eqb w 0) (ended ws) t) (both_right (not (eqb w 0) || eqb r 1) (spared ws rs) p) f.1)
  where
    rule_is : (b : Bool) → b ≡ true → T (not b || eqb r 1) → T (eqb r 1)
    rule_is true q t = t
    rule_is false q t = absurd (let z : ◌≡◌ {A = ℕ} 0 1 = cc in omega arith)

quiet_at : (ws rs vs : List ℕ) → T (tapers ws) → T (spared ws rs) → Fit ws vs → Quiet ws rs vs
unfolding has_fault
quiet_at [] [] [] t p f zero e = (refl, refl)
quiet_at [] [] [] t p f (suc k) e = (refl, refl)
quiet_at [] [] (v ∷ vs) t p f k e = absurd f
quiet_at [] (r ∷ rs) vs t p f k e = absurd p
quiet_at (w ∷ ws) [] vs t p f k e = absurd p
quiet_at (w ∷ ws) (r ∷ rs) [] t p f k e = absurd f
quiet_at (w ∷ ws) (r ∷ rs) (v ∷ vs) t p f zero e = quiet_all (w ∷ ws) (r ∷ rs) (v ∷ vs) (end_from w ws e t) p f
quiet_at (w ∷ ws) (r ∷ rs) (v ∷ vs) t p f (suc k) e =
    quiet_at ws rs vs (both_right (not (eqb w 0) || ended ws) (tapers ws) t) (both_right (not (eqb w 0) || eqb r 1) (spared ws rs) p) f.1 k e

pub rest_quiet : (i : ℕ) (vs : List ℕ) → i < 22 → Fit (widths_at i) vs → Quiet (widths_at i) (rules_at i) vs
unfolding table widths widths_at rules rules_at
rest_quiet i vs h f =
    quiet_at (widths_at i) (rules_at i) vs (below_at (λ (j : ℕ). tapers (widths_at j)) 22 tt i h) (below_at (λ (j : ℕ). spared (widths_at j) (rules_at j)) 22 tt i h) f

pub row_small : (i : ℕ) (vs : List ℕ) → i < 22 → Fit (widths_at i) vs → RowSmall (row_at i) vs
row_small i vs h f =
    let r = row_at i in
    let ws = widths_at i in
    let t = row-ok i h in
    let p = both_left (leb r.base 96 && (leb r.step 80 && leb r.more 1)) (counted_ok r ws) t in
    let q = both_right (leb r.base 96 && (leb r.step 80 && leb r.more 1)) (counted_ok r ws) t in
    let p2 = both_right (leb r.base 96) (leb r.step 80 && leb r.more 1) p in
    let q2 = both_right (leb (counted ws r.first) 4) (leb (counted ws r.second) 4 && leb (counted ws r.third) 4) q in
    record {
      base = leb→le _ _ (both_left (leb r.base 96) (leb r.step 80 && leb r.more 1) p);
      step = leb→le _ _ (both_left (leb r.step 80) (leb r.more 1) p2);
      more = leb→le _ _ (both_right (leb r.step 80) (leb r.more 1) p2);
      first = small r.first (leb→le _ _ (both_left (leb (counted ws r.first) 4) (leb (counted ws r.second) 4 && leb (counted ws r.third) 4) q));
      second = small r.second (leb→le _ _ (both_left (leb (counted ws r.second) 4) (leb (counted ws r.third) 4) q2));
      third = small r.third (leb→le _ _ (both_right (leb (counted ws r.second) 4) (leb (counted ws r.third) 4) q2));
    }
  where
    small : (k : Option ℕ) → counted (widths_at i) k ≤ 4 → counted vs k < 16
    small k l = lt_of_lt_of_le (counted_fit (widths_at i) vs f k) (pow_mono l)

-- 46 steps at most
pub count_small : (r : Row) (vs : List ℕ) → RowSmall r vs → count_in r vs ≤ 46
unfolding count_in
count_small r vs s = omega arith

-- so modulo 2^64 it is itself
pub count_whole : (r : Row) (vs : List ℕ) → RowSmall r vs → count_in r vs % 2 ^ 64 ≡ count_in r vs
count_whole r vs s = let h = count_small r vs s in omega arith

pub row_base : (i : ℕ) → i < 22 → (row_at i).base ≤ 96
row_base i h =
    let r = row_at i in
    leb→le _ _
    (both_left (leb r.base 96) (leb r.step 80 && leb r.more 1)
    (both_left (leb r.base 96 && (leb r.step 80 && leb r.more 1)) (counted_ok r (widths_at i)) (row-ok i h)))

-- entries have at most 24 bits; an ELM's steps have 80
pub row_step : (i : ℕ) → i < 22 → ((row_at i).step ≡ 80 → ⊥) → (row_at i).step ≤ 24
unfolding table rows row_at
row_step i h ne = go (eqb (row_at i).step 80) (ne_eqb _ _ ne) (below_at (λ (j : ℕ). eqb (row_at j).step 80 || leb (row_at j).step 24) 22 tt i h)
  where
    go : (b : Bool) → b ≡ false → T (b || leb (row_at i).step 24) → (row_at i).step ≤ 24
    go true e t = absurd (let z : ◌≡◌ {A = ℕ} 0 1 = cc in omega arith)
    go false e t = leb→le _ _ t

-- the row that is found holds the code
found_code_from : (c : ℕ) (rs : List Row) (a i : ℕ) (d : Row) → place_from c rs a ≡ Some i → (a ≤ i) × ((get_or rs (i - a) d).code ≡ c)
unfolding place_from
found_code_from c [] a i d e = absurd (let z : ◌≡◌ {A = ℕ} 0 1 = cc in omega arith)
found_code_from c (r ∷ rs) a i d e = go (eqb r.code c) refl (found_code_from c rs (a + 1) i d) e
  where
    go : (t : Bool) → eqb r.code c ≡ t → (place_from c rs (a + 1) ≡ Some i → (a + 1 ≤ i) × ((get_or rs (i - (a + 1)) d).code ≡ c))
        → cond t (Some a) (place_from c rs (a + 1)) ≡ Some i → (a ≤ i) × ((get_or (r ∷ rs) (i - a) d).code ≡ c)
    go true q h z =
        let e : a ≡ i = cc in
        let n : i - a ≡ 0 = omega arith in
        (omega arith, rw n (eqb-true _ _ q))
    go false q h z =
        let k = h z in
        let n : i - a ≡ suc (i - (a + 1)) = omega arith in
        (omega arith, rw n k.1)

pub found_code : (c i : ℕ) → place_from c rows 0 ≡ Some i → (row_at i).code ≡ c
unfolding row_at
found_code c i e =
    let z : i - 0 ≡ i = omega arith in
    rw z at (found_code_from c rows 0 i no_row e).1

-- no type of the table is one that is not carried
pub carried : (i : ℕ) → i < 22 → type_not_carried (row_at i).code ≡ false
unfolding table rows row_at type_not_carried
carried i h = go (type_not_carried (row_at i).code) (below_at (λ (j : ℕ). not (type_not_carried (row_at j).code)) 22 tt i h)
  where
    go : (b : Bool) → T (not b) → b ≡ false
    go true t = absurd t
    go false t = refl
