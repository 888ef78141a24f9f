-- Laws of a record's items: how a search among the parts goes from one to the next, and how many of them are items. Assumes nothing.
use Rattle.std.specs.Prelude.{None, Option, Some}
use Rattle.std.specs.List.{filter, count_by}
use Rattle.std.proofs.lemmas.List.Sums.{length-filter}
use Prim.Native.Nat.{ℕ, zero, suc, ◌+◌, ◌*◌, ◌<◌}
use mathlib.Core.Path.{◌≡◌, refl, sym, ap, ◌∙◌}
use mathlib.Core.Bool.{Bool, true, false, cond, not, ◌&&◌}
use mathlib.Core.Logic.{◌⊎◌, ⊎_elim}
use mathlib.Core.List.{List, [], ◌∷◌}
use native.Mathlib.Omega.{arith}
use lib.Dec.{eqb, eqb→eq}
use lib.IntN.{ℤ, pos}
use lib.ListN.{length, get_or}
use borrow.Author.Tests.{eq-eqb, ne_eqb}
use Rattle.bits.specs.Bits.{bits_of}
use Rattle.pairs.specs.Pairs.{find_in, value_of}
use Rattle.fields.specs.declared.Field.{Field}
use Rattle.fields.specs.declared.Field.TheVariants as F
use Rattle.fields.specs.Records.{field_of, numbers_of}
use Rattle.fields.proofs.Rows.{below_at}
use Rattle.field_items.specs.Items.{item_table, items_at, tally_of, pairs_by}
use Rattle.field_items.specs.Given.{found_in, field_given, same_found, covers, signed_of, numbers_from}

-- ---- a search among parts

-- it is the one that is looked for
pub hit : (n k v : ℕ) (ks vs : List ℕ) → (n ≡ 0 → ⊥) → k ≡ n → find_in n (pairs_by (k ∷ ks) (v ∷ vs)) ≡ Some v
unfolding find_in pairs_by
hit n k v ks vs z e = rw (ne_eqb k 0 (λ q. z (sym e ∙ q)), eq-eqb k n e) refl

-- it is not
pub miss : (n k v : ℕ) (ks vs : List ℕ) → (k ≡ n → ⊥) → find_in n (pairs_by (k ∷ ks) (v ∷ vs)) ≡ find_in n (pairs_by ks vs)
unfolding find_in pairs_by
miss n k v ks vs e = go (eqb k 0)
  where
    go : (b : Bool) → find_in n (cond b (pairs_by ks vs) ((k, v) ∷ pairs_by ks vs)) ≡ find_in n (pairs_by ks vs)
    go true = refl
    go false = rw (ne_eqb k n e) refl

-- what is gathered covers these parts
pub covers_step : (t : List (Option ℕ)) (k v : ℕ) (ks vs : List ℕ) → covers t (pairs_by (k ∷ ks) (v ∷ vs)) ≡ (cond (eqb k 0) true (same_found (found_in t k) (Some v)) && covers t (pairs_by ks vs))
unfolding covers pairs_by
covers_step t k v ks vs = go (eqb k 0)
  where
    go : (b : Bool) → covers t (cond b (pairs_by ks vs) ((k, v) ∷ pairs_by ks vs)) ≡ (cond b true (same_found (found_in t k) (Some v)) && covers t (pairs_by ks vs))
    go true = refl
    go false = refl

-- where no item is left, or no value, no part is
pub no_parts : (ks vs : List ℕ) → (ks ≡ []) ⊎ (vs ≡ []) → pairs_by ks vs ≡ []
unfolding pairs_by
no_parts [] vs o = refl
no_parts (k ∷ ks) [] o = refl
no_parts (k ∷ ks) (v ∷ vs) o = ⊎_elim (λ e. cc) (λ e. cc) o

-- no item has the number 0
pub no_zero : (ks vs : List ℕ) → find_in 0 (pairs_by ks vs) ≡ None
unfolding find_in pairs_by
no_zero [] vs = refl
no_zero (k ∷ ks) [] = refl
no_zero (k ∷ ks) (v ∷ vs) = go (eqb k 0) refl (no_zero ks vs)
  where
    go : (b : Bool) → eqb k 0 ≡ b → find_in 0 (pairs_by ks vs) ≡ None → find_in 0 (cond b (pairs_by ks vs) ((k, v) ∷ pairs_by ks vs)) ≡ None
    go true e h = h
    go false e h = rw e h

-- ---- how many

-- as the iterator counts
pub tally_is : (ks : List ℕ) → count_by (λ k. not (eqb k 0)) ks ≡ tally_of ks
unfolding tally_of
tally_is ks = sym (length-filter (λ k. not (eqb k 0)) ks) ∙ kept ks
  where
    kept : (ks : List ℕ) → length (filter (λ k. not (eqb k 0)) ks) ≡ tally_of ks
    kept [] = refl
    kept (k ∷ ks) = go (eqb k 0) (kept ks)
      where
        go : (b : Bool) → length (filter (λ k. not (eqb k 0)) ks) ≡ tally_of ks → length (cond (not b) (k ∷ filter (λ k. not (eqb k 0)) ks) (filter (λ k. not (eqb k 0)) ks)) ≡ cond b 0 1 + tally_of ks
        go true h = omega (arith, h)
        go false h = omega (arith, h)

pub tally_pairs : (ks vs : List ℕ) → length ks ≡ length vs → length (pairs_by ks vs) ≡ tally_of ks
unfolding tally_of pairs_by
tally_pairs [] vs e = refl
tally_pairs (k ∷ ks) [] e = absurd (omega arith)
tally_pairs (k ∷ ks) (v ∷ vs) e = go (eqb k 0) (tally_pairs ks vs (omega arith))
  where
    go : (b : Bool) → length (pairs_by ks vs) ≡ tally_of ks → length (cond b (pairs_by ks vs) ((k, v) ∷ pairs_by ks vs)) ≡ cond b 0 1 + tally_of ks
    go true h = omega arith
    go false h = omega arith

-- eleven parts to a type
pub items_length : (i : ℕ) → i < 22 → length (items_at i) ≡ 11
unfolding item_table items_at
items_length i h = eqb→eq _ _ (below_at (λ (j : ℕ). eqb (length (items_at j)) 11) 22 tt i h)

-- a type has eight bits
pub type_small : (f : Field) → get_or (numbers_of f) 0 0 < 256
type_small (F.TacticalUplink a b c d e) = omega arith
type_small (F.ElmUplink a b c d f) = omega arith
type_small (F.DownlinkRequest a b c d e) = omega arith
type_small (F.IdRequest a b) = omega arith
type_small (F.CapabilityRequest a b) = omega arith
type_small (F.Cancellation a b c d) = omega arith
type_small (F.Test a) = omega arith
type_small (F.AltimeterCorrection b) = omega arith
type_small (F.AtcFailure a) = omega arith
type_small (F.SensorFailure a c) = omega arith
type_small (F.DabsControlState a b c) = omega arith
type_small (F.AtcrbsControlState a b) = omega arith
type_small (F.RejectionNotice a b c) = omega arith
type_small (F.DeliveryNotice a b c) = omega arith
type_small (F.TacticalDownlink a b) = omega arith
type_small (F.ElmDownlink a c) = omega arith
type_small (F.Utility a c) = omega arith
type_small (F.Capability a b c d) = omega arith
type_small (F.IdCode a c) = omega arith
type_small (F.TestResponse a) = omega arith
type_small (F.ControllerAlert a b c d e f g h i j) = omega arith

-- ---- the field, part by part

pub field_is : (t : List (Option ℕ)) (v ks : List ℕ) (i : ℕ) → ((k : ℕ) → k < 11 → get_or v k 0 ≡ value_of (found_in t (get_or ks k 0))) → ks ≡ items_at i → field_of i v ≡ field_given t i
unfolding field_given
field_is t v ks i h e =
    rw (← e, h 1 (omega arith), h 2 (omega arith), h 3 (omega arith), h 4 (omega arith), h 5 (omega arith), h 6 (omega arith), h 7 (omega arith), h 8 (omega arith), h 9 (omega arith), h 10 (omega arith)) refl

-- ---- the list, number by number

pub numbers_by : (s : List ℕ) (xs : List ℤ) (a n : ℕ) → length xs ≡ n → ((j : ℕ) → j < n → get_or xs j (pos 0) ≡ signed_of (bits_of s (a + 64 * j) 64)) → xs ≡ numbers_from s a n
unfolding numbers_from
numbers_by s [] a zero e h = refl
numbers_by s [] a (suc n) e h = absurd (omega arith)
numbers_by s (x ∷ xs) a zero e h = absurd (omega arith)
numbers_by s (x ∷ xs) a (suc n) e h =
    let p : a + 64 * 0 ≡ a = omega arith in
    let f : x ≡ signed_of (bits_of s a 64) = h 0 (omega arith) ∙ ap (λ (k : ℕ). signed_of (bits_of s k 64)) p in
    let r = numbers_by s xs (a + 64) n (omega arith) (λ j l. h (suc j) (omega arith) ∙ ap (λ (k : ℕ). signed_of (bits_of s k 64)) (omega arith)) in
    ap (λ (y : ℤ). y ∷ xs) f ∙ ap (λ (l : List ℤ). signed_of (bits_of s a 64) ∷ l) r
