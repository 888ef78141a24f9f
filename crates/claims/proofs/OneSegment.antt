-- The laws of document 02, Ticket 2. The row of type 42 is computed; a row with another code has the rules that it had. Assumes nothing.
use Rattle.std.specs.Prelude.{Err, None, Ok, Option, Result, Some}
use Prim.Native.Nat.{ℕ, zero, suc, ◌+◌, ◌-◌, ◌*◌, ◌/◌, ◌^◌}
use native.Mathlib.Nat.{add-zero}
use native.Mathlib.Omega.{arith}
use mathlib.Core.Path.{◌≡◌, refl, sym, ap, ◌∙◌}
use mathlib.Core.Bool.{Bool, true, false, not, cond, ◌&&◌, ◌||◌, and-true, and-false, or-true, or-false}
use mathlib.Core.List.{List, [], ◌∷◌, map}
use mathlib.Core.Logic.{◌⊎◌, inl, inr, ⊎_elim}
use lib.Dec.{eqb, ltb}
use lib.IntN.{ℤ}
use lib.ListN.{length, get_or, drop, length-drop}
use borrow.Author.Tests.{eqb-true, eq-eqb, ne_eqb}
use Rattle.bits.specs.Bits.{bits_of, bits}
use Rattle.rows.specs.Rows.{row, first_of}
use Rattle.refusals.specs.declared.FieldRefusal.TheVariants.{CountOutOfRange, WrongByteCount, BitAfterCount, UnknownType, TypeNotCarried, WrongDirection, NotRelayed, WrongBitCount, SpareBitSet, ValueNotInUse}
use Rattle.fields.specs.declared.Direction.{Direction}
use Rattle.fields.specs.declared.Direction.TheVariants.{ToSensor, FromSensor}
use Rattle.fields.specs.declared.Field.{Field}
use Rattle.fields.specs.declared.Field.TheVariants.{ElmUplink, ElmDownlink}
use Rattle.fields.specs.declared.Field.TheVariants as F
use Rattle.fields.specs.declared.Record.{Record}
use Rattle.fields.specs.declared.Record.TheVariants.{Single, Relay}
use Rattle.fields.specs.Table.{Known, table, rows, no_row, row_at, widths, widths_at, rules, rules_at, rows_of, part_rules, no_parts, place_from, place_of, by_place, values_of, has_fault, count_in, size_in}
use Rattle.fields.specs.Lists.{any_unused, list_fits}
use Rattle.fields.specs.Records.{field_of, field_at, numbers_of}
use Rattle.fields.specs.Writing.{field_in, numbers_in, head_bits, fit_all, text_length_by, text_length, relays_at, head_fits, takes_at, takes, bits_in, put_in, written_of, left_as, left_of}
use Rattle.fields.specs.Reading.{from_sensor, same_way_as, count_out_of_range, wrong_byte_count, bit_after_count, wrong_bit_count, opens, start_of, record_in, record_of, answer_of, listed_as, listed, text_in, text_place, text_of, type_of, values_at, unknown_type, type_not_carried, wrong_direction, not_relayed, sized_by, sized, spare_bit_set, block_count, blocks_in, value_not_in_use}
use Rattle.fields.proofs.Puts.{both_true}
use Rattle.fields.proofs.Rows.{found_code}
use Rattle.claims.specs.OneSegment.{formerly, former_table, former_rules_at, former_spare_bit_set, former_value_not_in_use, former_answer, former_takes_at, former_takes, former_written, RowsAndWidthsStay, has_length0, one_segment_at, one_segment, BareRead, RelayedRead, CountStays, SparesStay, UplinkRead, NotInUseBefore, OthersReadAsBefore, OneSegmentRead, record_has_length0, one_segment_fits, sensor_fits, one_segment_in, BareWritten, RelayedWritten, UplinkWritten, TakenBefore, OthersWrittenAsBefore, OneSegmentWritten}
use Rattle.claims.proofs.Printed.{no_bits, spare_1, spare_2, value_1, value_2}
use Rattle.refusals.specs.declared.FieldRefusal.{FieldRefusal}

-- a test is not both
differ : {X : Type 0} → false ≡ true → X
differ e = absurd (let z : ◌≡◌ {A = ℕ} 0 1 = cc in omega arith)

-- ---- the other types

pub rows_and_widths_stay : RowsAndWidthsStay
unfolding table rows widths former_table
rows_and_widths_stay = (refl, refl)

-- a row with another code has the rules that it had
same_rules : (ks : List Known) (i : ℕ) → eqb (get_or (rows_of ks) i no_row).code 0x42 ≡ false → get_or (part_rules (map formerly ks)) i no_parts ≡ get_or (part_rules ks) i no_parts
same_rules [] i e = refl
same_rules (k ∷ ks) zero e = rw e refl
same_rules (k ∷ ks) (suc i) e = same_rules ks i e

-- what is said of a type by its rules is what was said
same_at : {X : Type 0} (x : X) (f : ℕ → List ℕ → X) (c : ℕ) → eqb c 0x42 ≡ false
    → by_place x (λ i. f i (former_rules_at i)) (place_of c) ≡ by_place x (λ i. f i (rules_at i)) (place_of c)
unfolding former_rules_at former_table rules_at rules row_at rows
same_at x f c e = go (place_of c) refl
  where
    go : (p : Option ℕ) → place_of c ≡ p → by_place x (λ i. f i (former_rules_at i)) p ≡ by_place x (λ i. f i (rules_at i)) p
    go None q = refl
    go (Some i) q = ap (f i) (same_rules table i (ap (λ (m : ℕ). eqb m 0x42) (found_code c i q) ∙ e))

-- ---- type 42

-- all that is said of a field of a type, by its code c
record Told : Type 0 where
  unknown : Bool
  not_carried : Bool
  other_way : Bool
  not-relayed : Bool
  other_count : Bool
  spare_set : Bool
  unused : Bool
  spare_was_set : Bool
  was_unused : Bool
  means : Field

abbrev told : List ℕ → ℕ → ℕ → Direction → ℕ → Told
told s n a w c = record {
  unknown = unknown_type c;
  not_carried = type_not_carried c;
  other_way = wrong_direction c w;
  not-relayed = not_relayed c a;
  other_count = by_place false (λ i. not (sized s n a i)) (place_of c);
  spare_set = by_place false (λ i. has_fault 1 (rules_at i) (values_at s a i)) (place_of c);
  unused = by_place false (λ i. has_fault 2 (rules_at i) (values_at s a i) || any_unused (blocks_in s a i)) (place_of c);
  spare_was_set = by_place false (λ i. has_fault 1 (former_rules_at i) (values_at s a i)) (place_of c);
  was_unused = by_place false (λ i. has_fault 2 (former_rules_at i) (values_at s a i) || any_unused (blocks_in s a i)) (place_of c);
  means = by_place (field_of 0 (values_at s a 0)) (λ i. field_of i (values_at s a i)) (place_of c);
}

-- bits 33-36, spare, and 37-40, Length, where the widths of the parts before them have them, and by the document's numbers
abbrev spares : List ℕ → ℕ → ℕ
spares s a = bits_of s (a + 8 + 24) 4

abbrev length_in : List ℕ → ℕ → ℕ
length_in s a = bits_of s (a + 8 + 24 + 4) 4

part_is : (s : List ℕ) (a b k w : ℕ) → b ≡ a + k → bits_of s b w ≡ bits s (a + suc k) (a + (k + w))
part_is s a b k w e =
    let p : b ≡ a + suc k - 1 = omega arith in
    let q : w ≡ a + (k + w) + 1 - (a + suc k) = omega arith in
    λ i. bits_of s (p i) (q i)

spares_are : (s : List ℕ) (a : ℕ) → spares s a ≡ bits s (a + 33) (a + 36)
spares_are s a = part_is s a (a + 8 + 24) 32 4 (omega arith)

length_is : (s : List ℕ) (a : ℕ) → length_in s a ≡ bits s (a + 37) (a + 40)
length_is s a = part_is s a (a + 8 + 24 + 4) 36 4 (omega arith)

-- what is told of an ELM from the aircraft, by these tests: it comes from the sensor, its count fits, its spare bits are zero, its Length is 0
abbrev elm_by : Bool → Bool → Bool → Bool → Field → Told
elm_by from fits spare nil f = record {
  unknown = false;
  not_carried = false;
  other_way = not from;
  not-relayed = false;
  other_count = not fits;
  spare_set = not spare;
  unused = false;
  spare_was_set = not spare;
  was_unused = nil;
  means = f;
}

abbrev elm : List ℕ → ℕ → ℕ → Direction → Told
elm s n a w =
    elm_by (from_sensor w) (eqb n (a + (40 + 80 * (1 + length_in s a)))) (eqb (spares s a) 0) (eqb (length_in s a) 0) (ElmDownlink (bits_of s (a + 8) 24) (length_in s a))

of_42 : (s : List ℕ) (n a : ℕ) (w : Direction) → told s n a w 0x42 ≡ elm s n a w
unfolding unknown_type type_not_carried wrong_direction same_way_as not_relayed sized_by table rows row_at place_from widths widths_at rules rules_at former_table former_rules_at values_of has_fault count_in size_in block_count any_unused field_at
of_42 s n a w = simp (add-zero, and-false, or-false, no_bits, spare_1, spare_2, value_1, value_2)

-- told of a field whose type is 42
told_42 : (s : List ℕ) (n a : ℕ) (w : Direction) → eqb (type_of s a) 0x42 ≡ true → told s n a w (type_of s a) ≡ elm s n a w
told_42 s n a w e = ap (told s n a w) (eqb-true (type_of s a) 0x42 e) ∙ of_42 s n a w

pub not_in_use_before : NotInUseBefore
unfolding former_spare_bit_set former_value_not_in_use spare_bit_set value_not_in_use has_length0
not_in_use_before s a = go (eqb (type_of s a) 0x42) refl
  where
    go : (b : Bool) → eqb (type_of s a) 0x42 ≡ b
        → (former_spare_bit_set s a ≡ spare_bit_set s a) × (former_value_not_in_use s a ≡ (value_not_in_use s a || (b && eqb (bits s (a + 37) (a + 40)) 0)))
        × ((value_not_in_use s a && (b && eqb (bits s (a + 37) (a + 40)) 0)) ≡ false)
    go false e = (
      same_at false (λ i rs. has_fault 1 rs (values_at s a i)) (type_of s a) e,
      same_at false (λ i rs. has_fault 2 rs (values_at s a i) || any_unused (blocks_in s a i)) (type_of s a) e ∙ sym (or-false (value_not_in_use s a)),
      and-false (value_not_in_use s a),
    )
    go true e =
        let k = told_42 s 0 a ToSensor e in
        let unused : value_not_in_use s a ≡ false = ap (λ (x : Told). x.unused) k in (
          ap (λ (x : Told). x.spare_was_set) k ∙ sym (ap (λ (x : Told). x.spare_set) k),
          rw unused (ap (λ (x : Told). x.was_unused) k ∙ ap (λ (m : ℕ). eqb m 0) (length_is s a)),
          rw unused refl,
        )

-- ---- the reader

-- the rows, by the tests of count and bytes and by what is told of the field: as they are, and as they were
abbrev telling : Bool → Bool → Bool → Told → Bool → Bool → Result Record FieldRefusal → Result Record FieldRefusal
telling range bytes after t spare unused x =
    first_of
    (row range (Err CountOutOfRange)
    ∷ row bytes (Err WrongByteCount)
    ∷ row after (Err BitAfterCount)
    ∷ row t.unknown (Err UnknownType)
    ∷ row t.not_carried (Err TypeNotCarried)
    ∷ row t.other_way (Err WrongDirection)
    ∷ row t.not-relayed (Err NotRelayed)
    ∷ row t.other_count (Err WrongBitCount)
    ∷ row spare (Err SpareBitSet)
    ∷ row unused (Err ValueNotInUse)
    ∷ [])
    x

abbrev now : Bool → Bool → Bool → Result Record FieldRefusal → Told → Result Record FieldRefusal
now range bytes after x t = telling range bytes after t t.spare_set t.unused x

abbrev was : Bool → Bool → Bool → Result Record FieldRefusal → Told → Result Record FieldRefusal
was range bytes after x t = telling range bytes after t t.spare_was_set t.was_unused x

now_told : (s : List ℕ) (n : ℕ) (w : Direction)
    → answer_of s n w
    ≡ now (count_out_of_range n) (wrong_byte_count s n) (bit_after_count s n) (Ok (record_of s n w)) (told s n (start_of s n w) w (type_of s (start_of s n w)))
unfolding answer_of wrong_bit_count spare_bit_set value_not_in_use
now_told s n w = refl

was_told : (s : List ℕ) (n : ℕ) (w : Direction)
    → former_answer s n w
    ≡ was (count_out_of_range n) (wrong_byte_count s n) (bit_after_count s n) (Ok (record_of s n w)) (told s n (start_of s n w) w (type_of s (start_of s n w)))
unfolding former_answer wrong_bit_count former_spare_bit_set former_value_not_in_use
was_told s n w = refl

-- what is told of type 42 with Length 0
abbrev zero_told : List ℕ → ℕ → ℕ → Direction → Told
zero_told s n a w = elm_by (from_sensor w) (eqb n (a + 120)) (eqb (bits s (a + 33) (a + 36)) 0) true (ElmDownlink (bits_of s (a + 8) 24) 0)

zero-told : (s : List ℕ) (n a : ℕ) (w : Direction) → has_length0 s a ≡ true → told s n a w (type_of s a) ≡ zero_told s n a w
unfolding has_length0
zero-told s n a w z =
    let k = both_true (eqb (type_of s a) 0x42) (eqb (bits s (a + 37) (a + 40)) 0) z in
    let nil : length_in s a ≡ 0 = length_is s a ∙ eqb-true _ 0 k.1 in
    let spare = spares_are s a in
    told_42 s n a w k.0
    ∙ (λ i. elm_by (from_sensor w) (eqb n (a + (40 + 80 * (1 + nil i)))) (eqb (spare i) 0) (eqb (nil i) 0) (ElmDownlink (bits_of s (a + 8) 24) (nil i)))

-- so the answers, by their rows
with_0 : (s : List ℕ) (n : ℕ) (w : Direction) → has_length0 s (start_of s n w) ≡ true
    → (former_answer s n w ≡ was (count_out_of_range n) (wrong_byte_count s n) (bit_after_count s n) (Ok (record_of s n w)) (zero_told s n (start_of s n w) w))
    × (answer_of s n w ≡ now (count_out_of_range n) (wrong_byte_count s n) (bit_after_count s n) (Ok (record_of s n w)) (zero_told s n (start_of s n w) w))
with_0 s n w z =
    let t = zero-told s n (start_of s n w) w z in (
      was_told s n w ∙ ap (was (count_out_of_range n) (wrong_byte_count s n) (bit_after_count s n) (Ok (record_of s n w))) t,
      now_told s n w ∙ ap (now (count_out_of_range n) (wrong_byte_count s n) (bit_after_count s n) (Ok (record_of s n w))) t,
    )

-- an answer as it was and as it is, by whether the field is the case
abbrev Split : Bool → Result Record FieldRefusal → Result Record FieldRefusal → Result Record FieldRefusal → Type 0
Split test before present x = (test ≡ false → present ≡ before) × (test ≡ true → (before ≡ Err ValueNotInUse) × (present ≡ x))

-- the last row held, and holds no more
core : (bytes from spare : Bool) (f : Field) (x : Result Record FieldRefusal)
    → Split (not bytes && (from && spare)) (was false bytes false x (elm_by from true spare true f)) (now false bytes false x (elm_by from true spare true f)) x
core true from spare f x = (λ e. refl, λ e. differ e)
core false false spare f x = (λ e. refl, λ e. differ e)
core false true false f x = (λ e. refl, λ e. differ e)
core false true true f x = (λ e. differ (sym e), λ e. (refl, refl))

-- where the count does not fit, a row before it answers; where it fits, it is in range and fills its bytes
whole : (range bytes after from fits spare : Bool) (f : Field) (x : Result Record FieldRefusal) → (fits ≡ true → (range ≡ false) × (after ≡ false))
    → Split (fits && (not bytes && (from && spare))) (was range bytes after x (elm_by from fits spare true f)) (now range bytes after x (elm_by from fits spare true f)) x
whole range bytes after from false spare f x h = (λ e. refl, λ e. differ e)
whole range bytes after from true spare f x h = rw ((h refl).0, (h refl).1) (core bytes from spare f x)

-- 120 bits, or 136, are neither too few nor too many, and fill their bytes
counted : (s : List ℕ) (n : ℕ) (w : Direction) → eqb n (start_of s n w + 120) ≡ true → (count_out_of_range n ≡ false) × (bit_after_count s n ≡ false)
unfolding count_out_of_range bit_after_count
counted s n w e = go (opens s n w) (eqb-true n _ e)
  where
    go : (b : Bool) → n ≡ cond b 16 0 + 120 → (count_out_of_range n ≡ false) × (bit_after_count s n ≡ false)
    go true q = rw q (refl, rw (no_bits s 136) refl)
    go false q = rw q (refl, rw (no_bits s 120) refl)

-- type and Length are not: no row moved
reads_same : (s : List ℕ) (n : ℕ) (w : Direction) → has_length0 s (start_of s n w) ≡ false → answer_of s n w ≡ former_answer s n w
unfolding answer_of former_answer
reads_same s n w e =
    let a = start_of s n w in
    let v = not_in_use_before s a in
    let u : former_value_not_in_use s a ≡ value_not_in_use s a = v.1 ∙ ap (λ (b : Bool). value_not_in_use s a || b) e ∙ or-false (value_not_in_use s a) in
    rw (v.0, u) refl

-- they are: the last row did
reads : (s : List ℕ) (n : ℕ) (w : Direction) → Split (one_segment s n w) (former_answer s n w) (answer_of s n w) (Ok (record_of s n w))
unfolding one_segment_at
reads s n w = go (has_length0 s a) refl
  where
    a : ℕ
    a = start_of s n w

    go : (z : Bool) → has_length0 s a ≡ z
        → Split (z && (eqb n (a + 120) && (not (wrong_byte_count s n) && (from_sensor w && eqb (bits s (a + 33) (a + 36)) 0)))) (former_answer s n w) (answer_of s n w) (Ok (record_of s n w))
    go false e = (λ q. reads_same s n w e, λ q. differ q)
    go true e =
        let k = with_0 s n w e in
        rw (k.0, k.1)
        (whole (count_out_of_range n) (wrong_byte_count s n) (bit_after_count s n) (from_sensor w) (eqb n (a + 120)) (eqb (bits s (a + 33) (a + 36)) 0)
        (ElmDownlink (bits_of s (a + 8) 24) 0) (Ok (record_of s n w)) (counted s n w))

pub others_read_as_before : OthersReadAsBefore
others_read_as_before s n w = (reads s n w).0

pub one_segment_read : OneSegmentRead
one_segment_read s n w = (reads s n w).1

-- ---- as it is read

pub count_stays : CountStays
unfolding from_sensor
count_stays s n none z ne =
    let a = start_of s n FromSensor in
    (with_0 s n FromSensor z).1 ∙ rw (none.0, none.1.0, none.1.1.0, ne_eqb n (a + 120) ne) refl

pub spares_stay : SparesStay
unfolding from_sensor
spares_stay s n none z count ne =
    let a = start_of s n FromSensor in
    (with_0 s n FromSensor z).1
    ∙ rw (none.0, none.1.0, none.1.1.0, eq-eqb n (a + 120) count, ne_eqb (bits s (a + 33) (a + 36)) 0 ne) refl

-- a field of type 42 with Length 0 that begins behind the first a bits is the case
is_one : (s : List ℕ) (n a : ℕ) → start_of s n FromSensor ≡ a → n ≡ a + 120 → wrong_byte_count s n ≡ false
    → type_of s a ≡ 0x42 → bits s (a + 33) (a + 36) ≡ 0 → bits s (a + 37) (a + 40) ≡ 0 → one_segment s n FromSensor ≡ true
unfolding one_segment_at has_length0 from_sensor
is_one s n a at count bytes type spare nil = rw (at, type, nil, eq-eqb n (a + 120) count, bytes, spare) refl

-- its record and the place of its text
its_record : (s : List ℕ) (a : ℕ) → type_of s a ≡ 0x42 → record_in s a ≡ ElmDownlink (bits_of s (a + 8) 24) (bits s (a + 37) (a + 40))
its_record s a e = ap (λ (x : Told). x.means) (told_42 s 0 a ToSensor (eq-eqb _ _ e)) ∙ ap (ElmDownlink (bits_of s (a + 8) 24)) (length_is s a)

its_text : (s : List ℕ) (a : ℕ) → type_of s a ≡ 0x42 → text_in s a ≡ (a + 40) / 8
unfolding text_in table rows row_at place_from
its_text s a e = ap (λ (c : ℕ). by_place (length s) (λ i. cond (eqb (row_at i).step 80) ((a + (row_at i).base) / 8) (length s)) (place_of c)) e

-- it is accepted, as the record that its bits make, and its text stands behind its first 40 bits
one_read : (s : List ℕ) (n a : ℕ) (r : Record) → one_segment s n FromSensor ≡ true → type_of s a ≡ 0x42 → record_of s n FromSensor ≡ r
    → text_place s (Ok r) ≡ text_in s a → (answer_of s n FromSensor ≡ Ok r) × (text_of s n FromSensor ≡ drop ((a + 40) / 8) s)
unfolding text_of
one_read s n a r one type means place =
    let answer = (one_segment_read s n FromSensor one).1 ∙ ap Ok means in
    (answer, ap (λ (x : Result Record FieldRefusal). drop (text_place s x) s) answer ∙ ap (λ (k : ℕ). drop k s) (place ∙ its_text s a type))

pub bare_read : BareRead
unfolding opens wrong_byte_count
bare_read s long type spare nil =
    let shut : opens s 120 FromSensor ≡ false = rw type refl in
    let one = is_one s 120 0 (ap (λ (b : Bool). cond b 16 0) shut) refl (rw long refl) type spare nil in
    let means = ap Single (its_record s 0 type ∙ ap (ElmDownlink (bits s 9 32)) nil) in
    let k = one_read s 120 0 (Single (ElmDownlink (bits s 9 32) 0)) one type (rw shut means) refl in
    (k.0, k.1, omega (arith, long, length-drop 5 s))

pub relayed_read : RelayedRead
unfolding opens from_sensor wrong_byte_count
relayed_read s long type inner spare nil =
    let opened : opens s 136 FromSensor ≡ true = rw type refl in
    let one = is_one s 136 16 (ap (λ (b : Bool). cond b 16 0) opened) refl (rw long refl) inner spare nil in
    let means = ap (Relay (bits s 9 16)) (its_record s 16 inner ∙ ap (ElmDownlink (bits s 25 48)) nil) in
    let k = one_read s 136 16 (Relay (bits s 9 16) (ElmDownlink (bits s 25 48) 0)) one inner (rw opened means) refl in
    (k.0, k.1, omega (arith, long, length-drop 7 s))

-- ---- type 22

-- what is told of 128 bits of type 22 with Length 0
uplink_told : (s : List ℕ) → bits s 41 44 ≡ 0 → bits s 45 48 ≡ 0
    → ((told s 128 0 ToSensor 0x22).other_way ≡ false) × ((told s 128 0 ToSensor 0x22).other_count ≡ false)
    × ((told s 128 0 ToSensor 0x22).spare_set ≡ false)
    × ((told s 128 0 ToSensor 0x22).unused ≡ true)
unfolding wrong_direction same_way_as from_sensor sized_by table rows row_at place_from widths widths_at rules rules_at values_of has_fault count_in size_in block_count any_unused
uplink_told s spare nil = (
  refl,
  rw nil refl,
  rw (spare, nil) (simp (no_bits, value_1)),
  rw (spare, nil) (simp (value_2, or-true)),
)

pub uplink_read : UplinkRead
unfolding opens wrong_byte_count count_out_of_range bit_after_count unknown_type type_not_carried not_relayed table rows place_from
uplink_read s long type spare nil =
    let shut : opens s 128 ToSensor ≡ false = rw type refl in
    let k = uplink_told s spare nil in
    now_told s 128 ToSensor
    ∙ rw (shut, type, long, no_bits s 128, k.0, k.1, k.2, k.3) refl

-- ---- the writer

-- a record is of type 42, or of another
of_field : (f : Field) → (eqb (get_or (numbers_of f) 0 0) 0x42 ≡ false) ⊎ ((a : ℕ) × (c : ℕ) × (f ≡ ElmDownlink a c))
of_field (F.TacticalUplink a b c d e) = inl refl
of_field (F.ElmUplink a b c d f) = inl refl
of_field (F.DownlinkRequest a b c d e) = inl refl
of_field (F.IdRequest a b) = inl refl
of_field (F.CapabilityRequest a b) = inl refl
of_field (F.Cancellation a b c d) = inl refl
of_field (F.Test a) = inl refl
of_field (F.AltimeterCorrection b) = inl refl
of_field (F.AtcFailure a) = inl refl
of_field (F.SensorFailure a c) = inl refl
of_field (F.DabsControlState a b c) = inl refl
of_field (F.AtcrbsControlState a b) = inl refl
of_field (F.RejectionNotice a b c) = inl refl
of_field (F.DeliveryNotice a b c) = inl refl
of_field (F.TacticalDownlink a b) = inl refl
of_field (F.ElmDownlink a c) = inr (a, c, refl)
of_field (F.Utility a c) = inl refl
of_field (F.Capability a b c d) = inl refl
of_field (F.IdCode a c) = inl refl
of_field (F.TestResponse a) = inl refl
of_field (F.ControllerAlert a b c d e f g h i j) = inl refl

last : (a b c d : Bool) → (a && (b && (c && d))) ≡ ((a && (b && d)) && c)
last true true true d = sym (and-true d)
last true true false d = sym (and-false d)
last true false c d = refl
last false b c d = refl

-- of type 42: its Length, c, was the difference
taken_elm : (r : Record) (l : List ℤ) (t : List ℕ) (a c : ℕ) → field_in r ≡ ElmDownlink a c → former_takes r l t ≡ (takes r l t && not (eqb c 0))
unfolding former_takes takes former_takes_at takes_at table rows row_at place_from widths widths_at rules rules_at former_table former_rules_at has_fault
taken_elm r l t a c e =
    let vs = numbers_of (ElmDownlink a c) in
    rw e
    (simp (value_2, or-false)
    (last (head_fits 15 r) (fit_all (widths_at 15) vs) (not (eqb c 0)) (list_fits (row_at 15).step (listed 15 vs) l && eqb (length t) (text_length 15 vs))))

pub taken_before : TakenBefore
unfolding record_has_length0 former_takes takes former_takes_at takes_at
taken_before r l t = ⊎_elim other elm_taken (of_field (field_in r))
  where
    other : eqb (get_or (numbers_in r) 0 0) 0x42 ≡ false → former_takes r l t ≡ (takes r l t && not (record_has_length0 r))
    other e =
        same_at false
        (λ i rs.
        head_fits i r
        && (fit_all (widths_at i) (numbers_in r)
        && (not (has_fault 2 rs (numbers_in r))
        && (list_fits (row_at i).step (listed i (numbers_in r)) l && eqb (length t) (text_length i (numbers_in r))))))
        (get_or (numbers_in r) 0 0)
        e
        ∙ rw e (sym (and-true (takes r l t)))

    elm_taken : (a : ℕ) × (c : ℕ) × (field_in r ≡ ElmDownlink a c) → former_takes r l t ≡ (takes r l t && not (record_has_length0 r))
    elm_taken k =
        taken_elm r l t k.0 k.1 k.2
        ∙ ap (λ (f : Field). takes r l t && not (eqb (get_or (numbers_of f) 0 0) 0x42 && eqb (get_or (numbers_of f) 3 0) 0)) (sym k.2)

-- a record of type 42 with Length 0
zero_elm : (r : Record) → record_has_length0 r ≡ true → (a : ℕ) × (field_in r ≡ ElmDownlink a 0)
unfolding record_has_length0
zero_elm r z = ⊎_elim (λ e. differ (rw e at z)) is_elm (of_field (field_in r))
  where
    is_elm : (a : ℕ) × (c : ℕ) × (field_in r ≡ ElmDownlink a c) → (a : ℕ) × (field_in r ≡ ElmDownlink a 0)
    is_elm k = (k.0, k.2 ∙ ap (ElmDownlink k.0) (eqb-true k.1 0 (rw k.2 at z)))

-- its bits
elm_bits : (r : Record) (a : ℕ) → field_in r ≡ ElmDownlink a 0 → bits_in r ≡ head_bits r + 120
unfolding bits_in table rows row_at place_from count_in size_in
elm_bits r a e = rw e refl

-- what the writer takes of it
head-fits : (r : Record) → head_fits 15 r ≡ sensor_fits r
unfolding head_fits relays_at from_sensor table rows row_at
head-fits (Single f) = refl
head-fits (Relay sensor f) = and-true (ltb sensor (2 ^ 8))

elm_takes : (r : Record) (address : ℕ) (l : List ℤ) (t : List ℕ) → field_in r ≡ ElmDownlink address 0 → takes r l t ≡ (sensor_fits r && one_segment_fits address l t)
unfolding takes takes_at fit_all table rows row_at place_from widths widths_at rules rules_at has_fault count_in listed_as text_length_by
elm_takes r address l t e =
    rw e (ap (λ (b : Bool). head_fits 15 r && (b && (list_fits 80 0 l && eqb (length t) 10))) (and-true (ltb address (2 ^ 24)))
    ∙ ap (λ (b : Bool). b && one_segment_fits address l t) (head-fits r))

pub bare_written : BareWritten
unfolding written_of
bare_written address l t s =
    let r = Single (ElmDownlink address 0) in
    rw (elm_takes r address l t refl, elm_bits r address refl) refl

pub relayed_written : RelayedWritten
unfolding written_of
relayed_written sensor address l t s =
    let r = Relay sensor (ElmDownlink address 0) in
    rw (elm_takes r address l t refl, elm_bits r address refl) refl

-- nothing of type 22 with Length 0
uplink_unused : (address number priority exp : ℕ) → has_fault 2 (rules_at 1) (numbers_of (ElmUplink address number priority exp 0)) ≡ true
unfolding table rules rules_at has_fault
uplink_unused address number priority exp = simp (value_2, or-true)

uplink_takes : (r : Record) (address number priority exp : ℕ) (l : List ℤ) (t : List ℕ) → field_in r ≡ ElmUplink address number priority exp 0 → takes r l t ≡ false
unfolding takes takes_at table rows place_from
uplink_takes r address number priority exp l t e =
    let vs = numbers_of (ElmUplink address number priority exp 0) in
    rw e (rw (uplink_unused address number priority exp) (ap (λ (b : Bool). head_fits 1 r && b) (and-false (fit_all (widths_at 1) vs)) ∙ and-false (head_fits 1 r)))

pub uplink_written : UplinkWritten
unfolding written_of
uplink_written r address number priority exp l t s e = rw (uplink_takes r address number priority exp l t e) refl

-- such a record is taken exactly where all of it fits
zero_takes : (r : Record) (l : List ℤ) (t : List ℕ) → (record_has_length0 r && takes r l t) ≡ one_segment_in r l t
zero_takes r l t = go (record_has_length0 r) refl
  where
    go : (b : Bool) → record_has_length0 r ≡ b → (b && takes r l t) ≡ (b && (sensor_fits r && one_segment_fits (get_or (numbers_in r) 1 0) l t))
    go false e = refl
    go true e =
        let k = zero_elm r e in
        elm_takes r k.0 l t k.1 ∙ ap (λ (f : Field). sensor_fits r && one_segment_fits (get_or (numbers_of f) 1 0) l t) (sym k.1)

pub one_segment_written : OneSegmentWritten
unfolding written_of former_written
one_segment_written r l t s e =
    let k = both_true (record_has_length0 r) (takes r l t) (zero_takes r l t ∙ e) in
    let before : former_takes r l t ≡ false = taken_before r l t ∙ rw (k.0, k.1) refl in
    let f = zero_elm r k.0 in
    (rw before refl, rw before refl, rw (k.1, ← elm_bits r f.0 f.1) refl)

pub others_written_as_before : OthersWrittenAsBefore
unfolding written_of left_of former_written
others_written_as_before r l t s e =
    let same : takes r l t ≡ former_takes r l t = sym (taken_before r l t ∙ go (takes r l t) (record_has_length0 r) (zero_takes r l t ∙ e)) in
    let answer : written_of r l t s ≡ former_written r l t s = rw same refl in
    (answer, ap (λ (w : Result ℕ FieldRefusal). left_as w s (put_in r l t s)) answer)
  where
    go : (b z : Bool) → (z && b) ≡ false → (b && not z) ≡ b
    go true true q = differ (sym q)
    go true false q = refl
    go false z q = refl
