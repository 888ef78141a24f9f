-- What it says of a record that the writer takes it; and how a field's parts are written one group after the other.
-- Assumes nothing.
use Rattle.std.proofs.Common.{◌≡◌, ℕ, zero, suc, ◌+◌, ◌*◌, ◌<◌, ◌≤◌, Bool, true, false, cond, not, eqb, List, ◌++◌, length, replicate, ℤ, sym, refl, ap, ◌∙◌, zero-le, mul-zero, mul-suc, arith, eqb→eq, eqb-true}
use lib.ListN.{length-replicate}
use borrow.Author.Tests.{not-true}
use Rattle.fields.specs.declared.Row.{Row}
use Rattle.fields.specs.declared.Field.{Field}
use Rattle.fields.specs.declared.Field.TheVariants as F
use Rattle.fields.specs.declared.Record.{Record}
use Rattle.fields.specs.declared.Record.TheVariants.{Single, Relay}
use Rattle.fields.specs.Table.{table, rows, row_at, widths, widths_at, rules_at, has_fault, count_in, size_in, RowSmall}
use Rattle.fields.specs.Records.{numbers_of}
use Rattle.fields.specs.Lists.{list_fits, entries_bits}
use Rattle.fields.specs.Reading.{listed}
use Rattle.fields.specs.Writing.{numbers_in, field_in, head_bits, head_widths, head_values, head_fits, fit_all, text_length, text_length_by, takes_at, widths_in, values_in, put_all, sum_of}
use Rattle.fields.proofs.Rows.{below_at, Fit, row_small, count_small}
use Rattle.fields.proofs.Facts.{steps_told}
use Rattle.fields.proofs.Rounds.{sum_join}
use Rattle.fields.proofs.Puts.{both_true, fit_of, put_all_join, entries_bits-length}

-- ---- lengths

pub numbers_length : (f : Field) → length (numbers_of f) ≡ 11
numbers_length (F.TacticalUplink a b c d e) = refl
numbers_length (F.ElmUplink a b c d f) = refl
numbers_length (F.DownlinkRequest a b c d e) = refl
numbers_length (F.IdRequest a b) = refl
numbers_length (F.CapabilityRequest a b) = refl
numbers_length (F.Cancellation a b c d) = refl
numbers_length (F.Test a) = refl
numbers_length (F.AltimeterCorrection b) = refl
numbers_length (F.AtcFailure a) = refl
numbers_length (F.SensorFailure a c) = refl
numbers_length (F.DabsControlState a b c) = refl
numbers_length (F.AtcrbsControlState a b) = refl
numbers_length (F.RejectionNotice a b c) = refl
numbers_length (F.DeliveryNotice a b c) = refl
numbers_length (F.TacticalDownlink a b) = refl
numbers_length (F.ElmDownlink a c) = refl
numbers_length (F.Utility a c) = refl
numbers_length (F.Capability a b c d) = refl
numbers_length (F.IdCode a c) = refl
numbers_length (F.TestResponse a) = refl
numbers_length (F.ControllerAlert a b c d e f g h i j) = refl

pub widths_length : (i : ℕ) → i < 22 → length (widths_at i) ≡ 11
unfolding table widths widths_at
widths_length i h = eqb→eq _ _ (below_at (λ (j : ℕ). eqb (length (widths_at j)) 11) 22 tt i h)

-- a type's parts have its base's bits
pub widths_sum : (i : ℕ) → i < 22 → sum_of (widths_at i) ≡ (row_at i).base
unfolding table rows row_at widths widths_at
widths_sum i h = eqb→eq _ _ (below_at (λ (j : ℕ). eqb (sum_of (widths_at j)) (row_at j).base) 22 tt i h)

pub sum_same : (n w : ℕ) → sum_of (replicate n w) ≡ w * n
sum_same zero w = sym (mul-zero w)
sum_same (suc n) w = rw mul-suc (omega (arith, sum_same n w))

-- ---- a record that is taken

pub record Taken (i : ℕ) (r : Record) (l : List ℤ) (t : ℕ) : Type 0 where
  pub head : head_fits i r ≡ true
  pub fits : fit_all (widths_at i) (numbers_in r) ≡ true
  pub used : has_fault 2 (rules_at i) (numbers_in r) ≡ false
  pub list : list_fits (row_at i).step (listed i (numbers_in r)) l ≡ true
  pub text : t ≡ text_length i (numbers_in r)

pub taken : (i : ℕ) (r : Record) (l : List ℤ) (t : ℕ) → takes_at i r l t ≡ true → Taken i r l t
unfolding takes_at
taken i r l t h =
    let a = both_true (head_fits i r) _ h in
    let b = both_true (fit_all (widths_at i) (numbers_in r)) _ a.1 in
    let c = both_true (not (has_fault 2 (rules_at i) (numbers_in r))) _ b.1 in
    let d = both_true (list_fits (row_at i).step (listed i (numbers_in r)) l) _ c.1 in
    record { head = a.0; fits = b.0; used = not-true _ c.0; list = d.0; text = eqb-true _ _ d.1 }

pub fit_numbers : (i : ℕ) (r : Record) → i < 22 → fit_all (widths_at i) (numbers_in r) ≡ true → Fit (widths_at i) (numbers_in r)
fit_numbers i r h f = fit_of (widths_at i) (numbers_in r) (widths_length i h ∙ sym (numbers_length (field_in r))) f

pub taken_small : (i : ℕ) (r : Record) → i < 22 → fit_all (widths_at i) (numbers_in r) ≡ true → RowSmall (row_at i) (numbers_in r)
taken_small i r h f = row_small i (numbers_in r) h (fit_numbers i r h f)

pub text_small : (r : Row) (vs : List ℕ) → RowSmall r vs → text_length_by r vs ≤ 460
unfolding text_length_by
text_small r vs s = go (eqb r.step 80)
  where
    go : (b : Bool) → cond b (10 * count_in r vs) 0 ≤ 460
    go true = omega (arith, count_small r vs s)
    go false = zero-le

-- ---- the groups of a field's parts

pub head_lengths : (r : Record) → length (head_widths r) ≡ length (head_values r)
head_lengths (Single f) = refl
head_lengths (Relay x f) = refl

pub head-sum : (r : Record) → sum_of (head_widths r) ≡ head_bits r
head-sum (Single f) = refl
head-sum (Relay x f) = refl

-- all its parts have the bits of the type and of its steps
pub parts_sum : (i : ℕ) (r : Record) (vs t : List ℕ) → i < 22 → length t ≡ text_length_by (row_at i) vs
    → sum_of (head_widths r ++ (widths_at i ++ (replicate (listed i vs) (row_at i).step ++ replicate (length t) 8))) ≡ head_bits r + size_in (row_at i) vs
unfolding size_in
parts_sum i r vs t h n =
    simp sum_join
    (omega (arith, head-sum r, widths_sum i h, sum_same (listed i vs) (row_at i).step, sum_same (length t) 8, steps_told (row_at i) vs))

pub groups : (i : ℕ) (r : Record) (l : List ℤ) (t : List ℕ) (s : List ℕ) → i < 22 → listed i (numbers_in r) ≤ length l →
    put_all s 0 (widths_in i r t) (values_in i r l t)
    ≡ put_all
    (put_all
    (put_all (put_all s 0 (head_widths r) (head_values r)) (head_bits r) (widths_at i) (numbers_in r))
    (head_bits r + (row_at i).base)
    (replicate (listed i (numbers_in r)) (row_at i).step)
    (entries_bits (row_at i).step (listed i (numbers_in r)) l))
    (head_bits r + (row_at i).base + (row_at i).step * listed i (numbers_in r))
    (replicate (length t) 8)
    t
groups i r l t s h m =
    let n = listed i (numbers_in r) in
    let w = (row_at i).step in
    let ws = widths_at i in
    let vs = numbers_in r in
    let es = entries_bits w n l in
    let s1 = put_all s 0 (head_widths r) (head_values r) in
    let a1 : 0 + sum_of (head_widths r) ≡ head_bits r = omega (arith, head-sum r) in
    let s2 = put_all s1 (head_bits r) ws vs in
    let a2 : head_bits r + sum_of ws ≡ head_bits r + (row_at i).base = ap (λ (x : ℕ). head_bits r + x) (widths_sum i h) in
    let a3 : head_bits r + (row_at i).base + sum_of (replicate n w) ≡ head_bits r + (row_at i).base + w * n = ap (λ (x : ℕ). head_bits r + (row_at i).base + x) (sum_same n w) in
    put_all_join s 0 (head_widths r) (head_values r) _ _ (head_lengths r)
    ∙ ap (λ (x : ℕ). put_all s1 x (ws ++ (replicate n w ++ replicate (length t) 8)) (vs ++ (es ++ t))) a1
    ∙ put_all_join s1 (head_bits r) ws vs _ _ (widths_length i h ∙ sym (numbers_length (field_in r)))
    ∙ ap (λ (x : ℕ). put_all s2 x (replicate n w ++ replicate (length t) 8) (es ++ t)) a2
    ∙ put_all_join s2 (head_bits r + (row_at i).base) (replicate n w) es _ _ (length-replicate n w ∙ sym (entries_bits-length w n l m))
    ∙ ap (λ (x : ℕ). put_all (put_all s2 (head_bits r + (row_at i).base) (replicate n w) es) x (replicate (length t) 8) t) a3
