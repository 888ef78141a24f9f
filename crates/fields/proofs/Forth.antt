-- A field that is accepted is the one that its record, list and text write.
-- Assumes nothing.
use Rattle.std.proofs.Common.{◌≡◌, ℕ, zero, suc, ◌+◌, ◌*◌, ◌/◌, ◌%◌, ◌^◌, ◌<◌, ◌≤◌, Bool, true, false, cond, not, ◌&&◌, eqb, ltb, leb, List, [], ◌∷◌, ◌++◌, length, get_or, drop, replicate, ℤ, pos, neg_ℤ, nat_abs, sym, refl, ap, ◌∙◌, subst, inl, inr, zero-le, add-zero, mul-zero, div-add-mod', zero-add, arith, length-drop, take_all, ltb-false, lt-ltb, eq-eqb, ne_eqb, eqb-true, None, Ok, Option, Some}
use native.Mathlib.Decide.{ℕ_discrete}
use lib.ListN.{length-replicate}
use lib.Seq.{drop-length}
use borrow.Author.Tests.{eqb-false, not-true, not-false}
use Rattle.rows.specs.Claims.{NoneHolds}
use Rattle.bits.specs.Bits.{bits_of, put_bits, Bytes}
use Rattle.fields.specs.Lists.{negative, block_of, block_bits, block_unused, entry_of, entry_bits, entry_fits, any_unused, entries_in, list_fits, entries_bits}
use Rattle.fields.specs.declared.Direction.{Direction}
use Rattle.fields.specs.declared.Direction.TheVariants.{ToSensor, FromSensor}
use Rattle.fields.specs.Table.{place_of, row_at, rules_at, widths_at, values_of, has_fault, count_in, size_in}
use Rattle.fields.specs.Reading.{from_sensor, same_way_as, type_of, values_at, opens, start_of, record_of, not_relayed, listed, listed_as, list_in, list_of, text_in, block_count, blocks_in, wrong_byte_count, bit_after_count, unknown_type, type_not_carried, wrong_direction, wrong_bit_count, spare_bit_set, value_not_in_use, sized_by, field_rows, read_rows}
use Rattle.fields.specs.declared.Record.{Record}
use Rattle.fields.specs.Records.{field_of, numbers_of}
use Rattle.fields.proofs.Puts.{both_true, both_false, put_all_join}
use Rattle.fields.proofs.Back.{values_back, first_eight, parts_write}
use Rattle.fields.proofs.Facts.{below_relay, listed_most, entry_listed, none_listed, text_whole}
use Rattle.fields.proofs.Taking.{head-sum, parts_sum, widths_length, widths_sum, sum_same}
use Rattle.bits.proofs.Laws.{bits_of-lt}
use Rattle.fields.specs.Writing.{field_in, numbers_in, text_length_by, takes_at, bits_at, widths_in, values_in, put_all, put_field, sum_of, head_bits, head_widths, head_values, head_fits, relays_at, fit_all, fill_of}
use Rattle.fields.proofs.Rows.{Fit, found_within, found_code, values_fit}
use Rattle.fields.proofs.Rounds.{Entry, values_of_join, values_of_snoc, values_of-length, values_bytes, sum_join}

-- ---- a block that is in use

in_use : (x : ℕ) → block_unused x ≡ false → (x % 16 ≤ 9) × (x ≡ 128 → ⊥)
in_use x h = let o = both_false (ltb 9 (x % 16)) (eqb x 128) h in (ltb-false 9 (x % 16) o.0, eqb-false x 128 o.1)

-- hundreds and thousands of a sum
parts_of : (q d : ℕ) → d ≤ 9 → ((q * 10 + d) / 10 ≡ q) × ((q * 10 + d) % 10 ≡ d)
parts_of q d h = (omega arith, omega arith)

minus : (m : ℕ) → 0 < m → (nat_abs (neg_ℤ (pos m)) ≡ m) × (negative (neg_ℤ (pos m)) ≡ true)
minus zero h = absurd (omega arith)
minus (suc m) h = (refl, refl)

compose : (x y q d c : ℕ) → x ≡ y * 16 + d → y ≡ c * 8 + q → x ≡ c * 128 + q * 16 + d
compose x y q d c e f = omega arith

eighths : (x : ℕ) → x / 16 / 8 ≡ x / 128
eighths x = omega arith

whole_block : (x : ℕ) → x ≡ x / 128 * 128 + x / 16 % 8 * 16 + x % 16
whole_block x =
    compose x (x / 16) (x / 16 % 8) (x % 16) (x / 128) (sym (div-add-mod' x 16)) (sym (div-add-mod' (x / 16) 8) ∙ ap (λ (k : ℕ). k * 8 + x / 16 % 8) (eighths x))

block_forth : (x : ℕ) → x < 256 → block_unused x ≡ false → (nat_abs (block_of x) < 80) × (block_bits (block_of x) ≡ x)
block_forth x l h = go (ℕ_discrete (x / 128) 1)
  where
    u : (x % 16 ≤ 9) × (x ≡ 128 → ⊥)
    u = in_use x h

    q : ℕ
    q = x / 16 % 8

    v : ℕ
    v = q * 10 + x % 16

    p : (v / 10 ≡ q) × (v % 10 ≡ x % 16)
    p = parts_of q (x % 16) u.0

    small : v < 80
    small = let a = u.0 in omega arith

    positive : (a b : ℕ) → (128 + a * 16 + b ≡ 128 → ⊥) → 0 < a * 10 + b
    positive zero zero f = absurd (f refl)
    positive zero (suc b) f = omega arith
    positive (suc a) b f = omega arith

    below : (k : ℕ) → (k ≡ 1 → ⊥) → k < 2 → k ≡ 0
    below zero f h = refl
    below (suc zero) f h = absurd (f refl)
    below (suc (suc k)) f h = absurd (omega arith)

    go : Dec (x / 128 ≡ 1) → (nat_abs (block_of x) < 80) × (block_bits (block_of x) ≡ x)
    go (yes e) =
        let a = u.0 in
        let s : x ≡ 128 + q * 16 + x % 16 = whole_block x ∙ ap (λ (k : ℕ). k * 128 + q * 16 + x % 16) e in
        let some : 0 < v = positive q (x % 16) (λ z. u.1 (s ∙ z)) in
        let m = minus v some in
        rw (eq-eqb (x / 128) 1 e, m.0, m.1, p.0, p.1) (small, sym s)
    go (no e) =
        let a = u.0 in
        let s : x ≡ 0 + q * 16 + x % 16 = whole_block x ∙ ap (λ (k : ℕ). k * 128 + q * 16 + x % 16) (below (x / 128) e (omega arith)) in
        rw (ne_eqb (x / 128) 1 e, p.0, p.1) (small, sym s)

-- ---- entries

-- entries that fit their bits and, if they are blocks, are in use
abbrev InUse : ℕ → List ℕ → Type 0
InUse step xs = Fit (replicate (length xs) step) xs × ((step ≡ 8) → any_unused xs ≡ false)

entry_forth : (step x : ℕ) → Entry step → x < 2 ^ step → (step ≡ 8 → block_unused x ≡ false) → (entry_fits step (entry_of step x) ≡ true) × (entry_bits step (entry_of step x) ≡ x)
unfolding entry_of entry_fits entry_bits
entry_forth step x (inl e) l u =
    let b = block_forth x (subst (λ (k : ℕ). x < 2 ^ k) e l) (u e) in
    rw e (lt-ltb _ 80 b.0, b.1)
entry_forth step x (inr e) l u = rw e (lt-ltb x 16777216 (subst (λ (k : ℕ). x < 2 ^ k) e l), refl)

list_forth : (step room : ℕ) (xs : List ℕ) → (0 < length xs → Entry step) → length xs ≤ room → InUse step xs
    → (list_fits step (length xs) (entries_in step room xs) ≡ true) × (entries_bits step (length xs) (entries_in step room xs) ≡ xs)
unfolding list_fits entries_in entries_bits any_unused
list_forth step zero [] e r f = (refl, refl)
list_forth step zero (x ∷ xs) e r f = absurd (omega arith)
list_forth step (suc room) [] e r f = ((list_forth step room [] e zero-le f).0, refl)
list_forth step (suc room) (x ∷ xs) e r f =
    let y = entry_forth step x (e (omega arith)) f.0.0 (λ q. (both_false (block_unused x) (any_unused xs) (f.1 q)).0) in
    let m = list_forth step room xs (λ h. e (omega arith)) (omega arith) (f.0.1, λ q. (both_false (block_unused x) (any_unused xs) (f.1 q)).1) in
    (rw y.0 m.0, rw (y.1, m.1) refl)

pub entries_length : (step room : ℕ) (xs : List ℕ) → length (entries_in step room xs) ≡ room
unfolding entries_in
entries_length step zero xs = refl
entries_length step (suc room) [] = ap suc (entries_length step room [])
entries_length step (suc room) (x ∷ xs) = ap suc (entries_length step room xs)

fit_all_of : (ws vs : List ℕ) → Fit ws vs → fit_all ws vs ≡ true
unfolding fit_all
fit_all_of [] [] f = refl
fit_all_of [] (v ∷ vs) f = absurd f
fit_all_of (w ∷ ws) [] f = absurd f
fit_all_of (w ∷ ws) (v ∷ vs) f = rw (lt-ltb v (2 ^ w) f.0) (fit_all_of ws vs f.1)

pub drop_bytes : (s : List ℕ) (j : ℕ) → Bytes s → Bytes (drop j s)
drop_bytes [] zero b = tt
drop_bytes [] (suc j) b = tt
drop_bytes (x ∷ s) zero b = b
drop_bytes (x ∷ s) (suc j) b = drop_bytes s j b.1

way_from : (v w : Direction) → same_way_as v w ≡ true → from_sensor w ≡ true → from_sensor v ≡ true
unfolding same_way_as from_sensor
way_from ToSensor ToSensor h q = q
way_from ToSensor FromSensor h q = absurd (let z : ◌≡◌ {A = ℕ} 0 1 = cc in omega arith)
way_from FromSensor w h q = refl

pub way_same : (v w : Direction) → same_way_as v w ≡ true → w ≡ v
unfolding same_way_as from_sensor
way_same ToSensor ToSensor h = refl
way_same ToSensor FromSensor h = absurd (let z : ◌≡◌ {A = ℕ} 0 1 = cc in omega arith)
way_same FromSensor ToSensor h = absurd (let z : ◌≡◌ {A = ℕ} 0 1 = cc in omega arith)
way_same FromSensor FromSensor h = refl

opens_told : (s : List ℕ) (n : ℕ) (w : Direction) → opens s n w ≡ true → (bits_of s 0 8 ≡ 3) × (from_sensor w ≡ true)
unfolding opens
opens_told s n w h =
    let q = both_true (eqb (bits_of s 0 8) 3) (from_sensor w && leb 24 n) h in
    (eqb-true _ _ q.0, (both_true (from_sensor w) (leb 24 n) q.1).0)

relayed_told : (t : ℕ) → not_relayed t 16 ≡ false → eqb t 0x62 ≡ false
unfolding not_relayed
relayed_told t h = (both_false (eqb t 0x03) (eqb t 0x62) h).1

relays_true : (s : List ℕ) (i : ℕ) → from_sensor (row_at i).way ≡ true → eqb (row_at i).code 0x62 ≡ false → relays_at i (bits_of s 8 8) ≡ true
unfolding relays_at
relays_true s i f c = rw (lt-ltb (bits_of s 8 8) 256 (bits_of-lt s 8 8), f, c) refl

-- ---- a field that is accepted

module _ (s : List ℕ) (n : ℕ) (w : Direction) (bytes : Bytes s) (none : NoneHolds (read_rows s n w)) where
  abbrev a : ℕ
  a = start_of s n w

  length_is : length s ≡ (n + 7) / 8
  unfolding wrong_byte_count
  length_is = eqb-true _ _ (not-false _ none.1.0)

  no_more : bits_of s n (fill_of n) ≡ 0
  unfolding bit_after_count
  no_more = eqb-true _ _ (not-false _ none.1.1.0)

  abbrev field : NoneHolds (field_rows s n a w)
  field = none.1.1.1

  -- the type has a row
  pub place : (i : ℕ) × (place_of (type_of s a) ≡ Some i)
  unfolding unknown_type
  place = go (place_of (type_of s a)) refl
    where
      go : (p : Option ℕ) → place_of (type_of s a) ≡ p → (i : ℕ) × (place_of (type_of s a) ≡ Some i)
      go (Some i) e = (i, e)
      go None e = absurd (let q : not (type_not_carried (type_of s a)) ≡ false = rw e at field.0 in let y = field.1.0 in let g = not-false (type_not_carried (type_of s a)) q in let z : ◌≡◌ {A = ℕ} 0 1 = cc in omega arith)

  module _ (i : ℕ) (here : place_of (type_of s a) ≡ Some i) where
    abbrev vals : List ℕ
    vals = values_at s a i

    abbrev r : Record
    r = record_of s n w

    in22 : i < 22
    in22 = found_within (type_of s a) i here

    code_is : (row_at i).code ≡ type_of s a
    code_is = found_code (type_of s a) i here

    pub way-is : same_way_as (row_at i).way w ≡ true
    unfolding wrong_direction
    way-is = not-false _ (rw here at field.1.1.0)

    sized-is : (eqb (row_at i).code 0x03 ≡ false) × (n ≡ a + size_in (row_at i) vals)
    unfolding wrong_bit_count sized_by
    sized-is =
        let q = both_true (not (eqb (row_at i).code 0x03)) (eqb n (a + size_in (row_at i) vals)) (not-false _ (rw here at field.1.1.1.1.0)) in
        (not-true _ q.0, eqb-true n (a + size_in (row_at i) vals) q.1)

    spare_is : has_fault 1 (rules_at i) vals ≡ false
    unfolding spare_bit_set
    spare_is = rw here at field.1.1.1.1.1.0

    used_is : (has_fault 2 (rules_at i) vals ≡ false) × (any_unused (blocks_in s a i) ≡ false)
    unfolding value_not_in_use
    used_is =
        both_false (has_fault 2 (rules_at i) vals) (any_unused (blocks_in s a i)) (rw here at field.1.1.1.1.1.1.0)

    low : i < 21
    low = below_relay i in22 sized-is.0

    back : numbers_of (field_of i vals) ≡ vals
    back = values_back s a i low (sym code_is) spare_is

    -- what stands before the field
    pub head_is : (field_in r ≡ field_of i vals) × (head_bits r ≡ a) × (head_fits i r ≡ true) × (values_of s 0 (head_widths r) ≡ head_values r) × (list_of s (Ok r) ≡ entries_in (row_at i).step 30 (values_of s (a + (row_at i).base) (replicate (listed i vals) (row_at i).step)))
    unfolding head_fits values_of entries_in list_in
    head_is = go (opens s n w) refl
      where
        go : (b : Bool) → opens s n w ≡ b → (field_in r ≡ field_of i vals) × (head_bits r ≡ a) × (head_fits i r ≡ true) × (values_of s 0 (head_widths r) ≡ head_values r) × (list_of s (Ok r) ≡ entries_in (row_at i).step 30 (values_of s (a + (row_at i).base) (replicate (listed i vals) (row_at i).step)))
        go true e =
            let h : place_of (type_of s 16) ≡ Some i = rw e at here in
            let o = opens_told s n w e in
            let f = way_from (row_at i).way w way-is o.1 in
            let g : not_relayed (type_of s 16) 16 ≡ false = rw e at field.1.1.1.0 in
            let c : (row_at i).code ≡ type_of s 16 = rw e at code_is in
            let k = relays_true s i f (rw c (relayed_told (type_of s 16) g)) in
            let z = none_listed i (values_at s 16 i) in22 (values_of-length s 16 (widths_at i) ∙ widths_length i in22) f in
            rw e (rw h refl, refl, k, rw o.0 refl, rw z refl)
        go false e =
            let h : place_of (type_of s 0) ≡ Some i = rw e at here in
            rw e (rw h refl, refl, refl, refl, rw (h, zero-add) refl)

    numbers : numbers_in r ≡ vals
    numbers = ap numbers_of head_is.0 ∙ back

    pub place_is : place_of (get_or (numbers_in r) 0 0) ≡ Some i
    place_is = ap (λ (x : List ℕ). place_of (get_or x 0 0)) numbers ∙ ap place_of (first_eight s a i low) ∙ here

    abbrev row : ℕ
    row = (row_at i).step

    abbrev m : ℕ
    m = listed i vals

    abbrev xs : List ℕ
    xs = values_of s (a + (row_at i).base) (replicate m row)

    abbrev t : List ℕ
    t = drop (text_in s a) s

    abbrev l : List ℤ
    l = list_of s (Ok r)

    fits : Fit (widths_at i) vals
    fits = values_fit s a (widths_at i)

    xs_length : length xs ≡ m
    xs_length = values_of-length s (a + (row_at i).base) (replicate m row) ∙ length-replicate m row

    blocks : row ≡ 8 → any_unused xs ≡ false
    unfolding listed_as block_count
    blocks e =
        let q : m ≡ count_in (row_at i) vals = ap (λ (b : Bool). cond b 0 (count_in (row_at i) vals)) (ne_eqb row 80 (λ u. omega arith)) in
        let b : any_unused (values_of s (a + (row_at i).base) (replicate (count_in (row_at i) vals) 8)) ≡ false = rw (eq-eqb row 8 e) at used_is.1 in
        ap (λ (c : ℕ). any_unused (values_of s (a + (row_at i).base) (replicate c row))) q ∙ ap (λ (k : ℕ). any_unused (values_of s (a + (row_at i).base) (replicate (count_in (row_at i) vals) k))) e ∙ b

    list_both : (list_fits row m l ≡ true) × (entries_bits row m l ≡ xs)
    list_both =
        let f = list_forth row 30 xs (λ h. entry_listed i vals in22 (values_of-length s a (widths_at i) ∙ widths_length i in22) (omega (arith, xs_length))) (omega (arith, xs_length, listed_most i vals in22 fits)) (rw xs_length (values_fit s (a + (row_at i).base) (replicate m row)), blocks) in
        rw head_is.4 (rw xs_length at f)

    -- ---- the text

    sizes : length s ≡ (a + ((row_at i).base + row * count_in (row_at i) vals) + 7) / 8
    unfolding size_in
    sizes = length_is ∙ ap (λ (x : ℕ). (x + 7) / 8) sized-is.1

    whole_start : a % 8 ≡ 0
    whole_start = go (opens s n w)
      where
        go : (b : Bool) → cond b 16 0 % 8 ≡ 0
        go true = refl
        go false = refl

    text_both : (length t ≡ text_length_by (row_at i) vals) × (values_of s (a + (row_at i).base + row * m) (replicate (length t) 8) ≡ t)
    unfolding text_in text_length_by listed_as values_of
    text_both = go (ℕ_discrete row 80)
      where
        go : Dec (row ≡ 80) → (length t ≡ text_length_by (row_at i) vals) × (values_of s (a + (row_at i).base + row * m) (replicate (length t) 8) ≡ t)
        go (yes e) =
            let j = (a + (row_at i).base) / 8 in
            let g = text_whole i in22 e in
            let ws = whole_start in
            let at : a + (row_at i).base ≡ j * 8 = omega arith in
            let b : text_in s a ≡ j = rw (here, eq-eqb row 80 e) refl in
            let c : length s ≡ (a + ((row_at i).base + 80 * count_in (row_at i) vals) + 7) / 8 = sizes ∙ ap (λ (k : ℕ). (a + ((row_at i).base + k * count_in (row_at i) vals) + 7) / 8) e in
            let d : length (drop j s) ≡ 10 * count_in (row_at i) vals = omega (arith, length-drop j s) in
            let z : m ≡ 0 = ap (λ (x : Bool). cond x 0 (count_in (row_at i) vals)) (eq-eqb row 80 e) in
            let p : a + (row_at i).base + row * m ≡ j * 8 = ap (λ (x : ℕ). a + (row_at i).base + row * x) z ∙ ap (λ (x : ℕ). a + (row_at i).base + x) (mul-zero row) ∙ add-zero _ ∙ at in (
              ap (λ (x : ℕ). length (drop x s)) b ∙ d ∙ sym (ap (λ (x : Bool). cond x (10 * count_in (row_at i) vals) 0) (eq-eqb row 80 e)),
              ap (λ (x : ℕ). values_of s (a + (row_at i).base + row * m) (replicate (length (drop x s)) 8)) b
                  ∙ ap (λ (x : ℕ). values_of s x (replicate (length (drop j s)) 8)) p
                  ∙ values_bytes s j (length (drop j s)) bytes (omega (arith, length-drop j s))
                  ∙ take_all (length (drop j s)) (drop j s) (omega arith)
                  ∙ ap (λ (x : ℕ). drop x s) (sym b),
            )
        go (no e) =
            let b : text_in s a ≡ length s = rw (here, ne_eqb row 80 e) refl in
            let d : t ≡ [] = ap (λ (x : ℕ). drop x s) b ∙ drop-length s in
            (ap length d ∙ sym (ap (λ (x : Bool). cond x (10 * count_in (row_at i) vals) 0) (ne_eqb row 80 e)), ap (λ (u : List ℕ). values_of s (a + (row_at i).base + row * m) (replicate (length u) 8)) d ∙ sym d)

    -- ---- the writer takes them, and gives the same bits and bytes

    pub takes_is : takes_at i r l (length t) ≡ true
    unfolding takes_at
    takes_is =
        rw (head_is.2, numbers, fit_all_of (widths_at i) vals fits, used_is.0, list_both.0, eq-eqb (length t) (text_length_by (row_at i) vals) text_both.0) refl

    pub bits_is : bits_at i r ≡ n
    bits_is = rw (head_is.1, numbers) (sym sized-is.1)

    abbrev widths_all : List ℕ
    widths_all = head_widths r ++ (widths_at i ++ (replicate m row ++ replicate (length t) 8))

    abbrev vals_all : List ℕ
    vals_all = head_values r ++ (vals ++ (xs ++ t))

    widths_all_is : widths_in i r t ≡ widths_all
    widths_all_is = ap (λ (v : List ℕ). head_widths r ++ (widths_at i ++ (replicate (listed i v) row ++ replicate (length t) 8))) numbers

    vals_all_is : values_in i r l t ≡ vals_all
    vals_all_is =
        ap (λ (v : List ℕ). head_values r ++ (v ++ (entries_bits row (listed i v) l ++ t))) numbers
        ∙ ap (λ (e : List ℕ). head_values r ++ (vals ++ (e ++ t))) list_both.1

    read_all : values_of s 0 widths_all ≡ vals_all
    read_all =
        let rest2 = replicate m row ++ replicate (length t) 8 in
        values_of_join s 0 (head_widths r) (widths_at i ++ rest2)
        ∙ ap (λ (x : List ℕ). x ++ values_of s (0 + sum_of (head_widths r)) (widths_at i ++ rest2)) head_is.3
        ∙ ap (λ (x : ℕ). head_values r ++ values_of s x (widths_at i ++ rest2)) (let q : 0 + sum_of (head_widths r) ≡ a = omega (arith, head-sum r, head_is.1) in q)
        ∙ ap (λ (x : List ℕ). head_values r ++ x) (values_of_join s a (widths_at i) rest2)
        ∙ ap (λ (x : ℕ). head_values r ++ (vals ++ values_of s (a + x) rest2)) (widths_sum i in22)
        ∙ ap (λ (x : List ℕ). head_values r ++ (vals ++ x)) (values_of_join s (a + (row_at i).base) (replicate m row) (replicate (length t) 8))
        ∙ ap (λ (x : ℕ). head_values r ++ (vals ++ (xs ++ values_of s (a + (row_at i).base + x) (replicate (length t) 8)))) (sum_same m row)
        ∙ ap (λ (x : List ℕ). head_values r ++ (vals ++ (xs ++ x))) text_both.1

    sum_all : sum_of widths_all ≡ n
    sum_all = parts_sum i r vals t in22 text_both.0 ∙ omega (arith, head_is.1, sized-is.1)

    pub bytes_is : put_field i r l t (replicate ((bits_at i r + 7) / 8) 0) ≡ s
    unfolding put_field put_all
    bytes_is =
        let k = fill_of n in
        let z = replicate {A = ℕ} (length s) 0 in
        let e : (bits_at i r + 7) / 8 ≡ length s = ap (λ (x : ℕ). (x + 7) / 8) bits_is ∙ sym length_is in
        let fill : 0 + sum_of widths_all ≡ n = omega (arith, sum_all) in
        let whole : sum_of (widths_all ++ (k ∷ [])) ≡ length s * 8 = sum_join widths_all (k ∷ []) ∙ omega (arith, sum_all, length_is) in
        let v : values_of s 0 (widths_all ++ (k ∷ [])) ≡ vals_all ++ (0 ∷ []) =
        values_of_snoc s 0 widths_all k ∙ ap (λ (x : List ℕ). x ++ (bits_of s (0 + sum_of widths_all) k ∷ [])) read_all ∙ ap (λ (x : ℕ). vals_all ++ (bits_of s x k ∷ [])) fill ∙ ap (λ (x : ℕ). vals_all ++ (x ∷ [])) no_more in
        ap (λ (x : ℕ). put_bits (put_all (replicate ((bits_at i r + 7) / 8) 0) 0 (widths_in i r t) (values_in i r l t)) x (fill_of x) 0) bits_is
        ∙ ap (λ (x : ℕ). put_bits (put_all (replicate x 0) 0 (widths_in i r t) (values_in i r l t)) n k 0) e
        ∙ ap (λ (x : List ℕ). put_bits (put_all z 0 x (values_in i r l t)) n k 0) widths_all_is
        ∙ ap (λ (x : List ℕ). put_bits (put_all z 0 widths_all x) n k 0) vals_all_is
        ∙ ap (λ (x : ℕ). put_bits (put_all z 0 widths_all vals_all) x k 0) (sym fill)
        ∙ sym (put_all_join z 0 widths_all vals_all (k ∷ []) (0 ∷ []) (sym (values_of-length s 0 widths_all) ∙ ap length read_all))
        ∙ ap (λ (x : List ℕ). put_all z 0 (widths_all ++ (k ∷ [])) x) (sym v)
        ∙ parts_write s (widths_all ++ (k ∷ [])) bytes whole
