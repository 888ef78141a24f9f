-- Every type's way, length and record by document 01's bit numbers are those that the table of types makes, computed over all rows at once; and
-- the entries of a list stand where the document has them. Assumes nothing.
use Prim.Native.Nat.{ℕ, zero, suc, ◌+◌, ◌-◌, ◌*◌, ◌<◌}
use native.Mathlib.Nat.{add-zero, zero-add, mul-zero, mul-suc}
use native.Mathlib.Omega.{arith}
use lib.Dec.{eqb}
use lib.IntN.{ℤ, pos}
use lib.ListN.{get_or, replicate}
use mathlib.Core.Path.{◌≡◌, refl, ap, ◌∙◌}
use mathlib.Core.Bool.{Bool, true, false, not, cond}
use mathlib.Core.List.{List, [], ◌∷◌, map}
use Rattle.bits.specs.Bits.{bits_of, bits}
use Rattle.bits.proofs.Laws.{bits_of-lt}
use Rattle.fields.specs.Lists.{block_of, entry_of, entries_in}
use Rattle.fields.specs.declared.Direction.{Direction}
use Rattle.fields.specs.declared.Direction.TheVariants.{ToSensor}
use Rattle.fields.specs.declared.Field.{Field}
use Rattle.fields.specs.Table.{table, rows, row_at, place_from, place_of, by_place, widths, widths_at, rules, rules_at, values_of, has_fault, count_in, size_in}
use Rattle.fields.specs.Records.{field_of, field_at}
use Rattle.fields.specs.Reading.{values_at, type_of, spare_bit_set, listed, listed_as, list_in}
use Rattle.claims.specs.Printed.{PrintedType, printed, AllMeant, AsPrinted, OnlyPrinted, EntriesAsPrinted, Rule, ruled, any_of, any_set, AllRuled, AllHaveRules, RulesAsPrinted}

-- what the table says of a field of a type
record Made : Type 0 where
  way : Direction
  total : ℕ
  means : Field

abbrev made : List ℕ → ℕ → ℕ → Made
made s a c = record {
  way = by_place ToSensor (λ i. (row_at i).way) (place_of c);
  total = by_place 0 (λ i. size_in (row_at i) (values_at s a i)) (place_of c);
  means = by_place (field_of 0 (values_at s a 0)) (λ i. field_of i (values_at s a i)) (place_of c);
}

abbrev said : PrintedType → Made
said x = record { way = x.way; total = x.total; means = x.means }

all_meant : (s : List ℕ) (a : ℕ) (xs : List PrintedType) → map (λ (x : PrintedType). made s a x.code) xs ≡ map said xs → AllMeant s a xs
all_meant s a [] e = tt
all_meant s a (x ∷ xs) e =
    let q : made s a x.code ≡ said x = cc in (
      λ h. let k : made s a (type_of s a) ≡ said x = ap (made s a) h ∙ q in
          (ap (λ (m : Made). m.way) k, ap (λ (m : Made). m.total) k, ap (λ (m : Made). m.means) k),
      all_meant s a xs (cc),
    )

pub as_printed : AsPrinted
unfolding table rows row_at place_from widths widths_at values_of count_in size_in field_at
as_printed s = (all_meant s 0 (printed (λ a b. bits s a b)) (simp (add-zero, zero-add)), all_meant s 16 (printed (λ a b. bits s (16 + a) (16 + b))) (simp (add-zero, zero-add)))

pub only_printed : OnlyPrinted
unfolding table rows
only_printed = refl

pub all_have_rules : AllHaveRules
all_have_rules = refl

-- ---- the lists

-- entry k of n of the same width, in a list that has room for it
entry-at : (step room : ℕ) (s : List ℕ) (a n k : ℕ) → k < n → k < room
    → get_or (entries_in step room (values_of s a (replicate n step))) k (pos 0) ≡ entry_of step (bits_of s (a + step * k) step)
unfolding entries_in values_of
entry-at step zero s a n k h m = absurd (omega arith)
entry-at step (suc room) s a zero k h m = absurd (omega arith)
entry-at step (suc room) s a (suc n) zero h m = ap (λ (x : ℕ). entry_of step (bits_of s x step)) (omega (arith, mul-zero step))
entry-at step (suc room) s a (suc n) (suc k) h m =
    entry-at step room s (a + step) n k (omega arith) (omega arith)
    ∙ ap (λ (x : ℕ). entry_of step (bits_of s x step)) (omega (arith, mul-suc step k))

-- the list that the table makes of a field of a type
abbrev list_made : List ℕ → ℕ → List ℤ
list_made s c =
    by_place (entries_in 0 30 []) (λ i. entries_in (row_at i).step 30 (values_of s (row_at i).base (replicate (listed i (values_at s 0 i)) (row_at i).step))) (place_of c)

list-made : (s : List ℕ) (c : ℕ) → type_of s 0 ≡ c → list_in s ≡ list_made s c
unfolding list_in
list-made s c e = ap (list_made s) e

-- an entry's bits, by the document's numbers
at_bits : (s : List ℕ) (w k : ℕ) → bits_of s (16 + w * k) w ≡ bits s (17 + w * k) (16 + w + w * k)
at_bits s w k =
    let a : 16 + w * k ≡ 17 + w * k - 1 = omega arith in
    let b : w ≡ 16 + w + w * k + 1 - (17 + w * k) = omega arith in
    λ i. bits_of s (a i) (b i)

pub entries_as_printed : (s : List ℕ) (k : ℕ) → EntriesAsPrinted s k
unfolding table rows row_at place_from widths widths_at values_of count_in listed_as entry_of
entries_as_printed s k = record {
  blocks = λ e h.
      entry (list-made s 0x9B e) ∙ entry-at 8 30 s 16 (listed 7 (values_at s 0 7)) k (omega arith) (omega (arith, bits_of-lt s 12 4))
      ∙ ap block_of (at_bits s 8 k);
  addresses = λ e h.
      entry (list-made s 0x9A e)
      ∙ entry-at 24 30 s 16 (listed 10 (values_at s 0 10)) k (omega arith) (omega (arith, bits_of-lt s 8 3, bits_of-lt s 11 3, bits_of-lt s 14 2))
      ∙ ap pos (at_bits s 24 k);
  identifiers = λ e h.
      entry (list-made s 0x96 e)
      ∙ entry-at 24 30 s 16 (listed 11 (values_at s 0 11)) k (omega arith) (omega (arith, bits_of-lt s 8 4, bits_of-lt s 12 4))
      ∙ ap pos (at_bits s 24 k);
}
  where
    entry : {x y : List ℤ} → x ≡ y → get_or x k (pos 0) ≡ get_or y k (pos 0)
    entry e = ap (λ (l : List ℤ). get_or l k (pos 0)) e

-- ---- the rules

-- what a fault is, of what is wrong with a part by its rule: 1 a spare bit, 2 a value
pub spare_1 : (b : Bool) → eqb (cond b 0 1) 1 ≡ not b
spare_1 true = refl
spare_1 false = refl

pub spare_2 : (b : Bool) → eqb (cond b 0 1) 2 ≡ false
spare_2 true = refl
spare_2 false = refl

pub value_1 : (b : Bool) → eqb (cond b 2 0) 1 ≡ false
value_1 true = refl
value_1 false = refl

pub value_2 : (b : Bool) → eqb (cond b 2 0) 2 ≡ b
value_2 true = refl
value_2 false = refl

other_1 : (b : Bool) → eqb (cond b 0 2) 1 ≡ false
other_1 true = refl
other_1 false = refl

other_2 : (b : Bool) → eqb (cond b 0 2) 2 ≡ not b
other_2 true = refl
other_2 false = refl

-- a part of no bits
pub no_bits : (s : List ℕ) (p : ℕ) → bits_of s p 0 ≡ 0
unfolding bits_of
no_bits s p = refl

record Ruled : Type 0 where
  spare : Bool
  unused : Bool

abbrev faults : List ℕ → ℕ → ℕ → Ruled
faults s a c = record {
  spare = by_place false (λ i. has_fault 1 (rules_at i) (values_at s a i)) (place_of c);
  unused = by_place false (λ i. has_fault 2 (rules_at i) (values_at s a i)) (place_of c);
}

abbrev ruling : Rule → Ruled
ruling x = record { spare = any_set x.spares; unused = any_of x.unused }

all_ruled : (s : List ℕ) (a : ℕ) (xs : List Rule) → map (λ (x : Rule). faults s a x.code) xs ≡ map ruling xs → AllRuled s a xs
unfolding spare_bit_set
all_ruled s a [] e = tt
all_ruled s a (x ∷ xs) e =
    let q : faults s a x.code ≡ ruling x = cc in (
      λ h. let k : faults s a (type_of s a) ≡ ruling x = ap (faults s a) h ∙ q in (ap (λ (m : Ruled). m.spare) k, ap (λ (m : Ruled). m.unused) k),
      all_ruled s a xs (cc),
    )

pub rules_as_printed : RulesAsPrinted
unfolding table rows place_from widths widths_at rules rules_at values_of has_fault
rules_as_printed s = (
  all_ruled s 0 (ruled (λ a b. bits s a b)) (simp (add-zero, zero-add, no_bits, spare_1, spare_2, value_1, value_2, other_1, other_2)),
  all_ruled s 16 (ruled (λ a b. bits s (16 + a) (16 + b))) (simp (add-zero, zero-add, no_bits, spare_1, spare_2, value_1, value_2, other_1, other_2)),
)
