-- Document 02, Ticket 2, "One-segment ELM from the aircraft": what is answered for type 42 with Length 0, and that every other answer is the one
-- before. The rule before the ticket stands here only for these claims: no promise and no code uses it. Definitions and statements;
-- proofs/OneSegment.antt proves them.
use Rattle.std.specs.Prelude.{ℕ, ◌+◌, ◌^◌, ◌≡◌, List, [], ◌∷◌, ◌++◌, map, Bool, true, false, not, cond, ◌&&◌, ◌||◌, eqb, ltb, ℤ, length, get_or, take, drop, Err, Ok, Result, Some}
use Rattle.rows.specs.Rows.{Row, row, first_of}
use Rattle.rows.specs.Claims.{NoneHolds}
use Rattle.bits.specs.Bits.{bits}
use Rattle.refusals.specs.declared.FieldRefusal.TheVariants.{WrongBitCount, SpareBitSet, ValueNotInUse, NotWritable, NoRoom}
use Rattle.fields.specs.declared.Direction.{Direction}
use Rattle.fields.specs.declared.Direction.TheVariants.{ToSensor, FromSensor}
use Rattle.fields.specs.declared.Field.TheVariants.{ElmUplink, ElmDownlink}
use Rattle.fields.specs.declared.Record.{Record}
use Rattle.fields.specs.declared.Record.TheVariants.{Single, Relay}
use Rattle.fields.specs.Table.{Known, known, none, any, spare, not_zero, table, rows, widths, rows_of, part_widths, part_rules, no_parts, place_of, by_place, row_at, widths_at, has_fault}
use Rattle.fields.specs.Lists.{any_unused, list_fits}
use Rattle.fields.specs.Reading.{from_sensor, wrong_byte_count, type_of, values_at, spare_bit_set, blocks_in, value_not_in_use, start_of, count_rows, read_rows, record_of, answer_of, text_of, listed}
use Rattle.fields.specs.Writing.{field_in, numbers_in, head_bits, fit_all, text_length, head_fits, takes, bits_in, no_room, put_in, written_of, left_as, left_of}
use Rattle.refusals.specs.declared.FieldRefusal.{FieldRefusal}

-- ---- the rule before

-- the row of type 42 as it was: a Length of 0 was not in use
abbrev former_row : Known
former_row = known 0x42 FromSensor 40 80 1 (Some 3) none none (any 24 ∷ spare 4 ∷ not_zero 4 ∷ [])

abbrev pub formerly : Known → Known
formerly k = cond (eqb k.row.code 0x42) former_row k

-- the table as it was: today's, with the former row of type 42. Every other row is today's; Printed.antt says by bit numbers what it is
unfoldable pub former_table : List Known
former_table = map formerly table

-- the row of type 42 kept its code, way, size and widths: no row and no width of the table is another
abbrev pub RowsAndWidthsStay : Type 0
RowsAndWidthsStay = (rows_of former_table ≡ rows) × (part_widths former_table ≡ widths)

-- the former rules of the type at a place
unfoldable pub former_rules_at : ℕ → List ℕ
former_rules_at i = get_or (part_rules former_table) i no_parts

-- 27 and 28 as they were
unfoldable pub former_spare_bit_set : List ℕ → ℕ → Bool
former_spare_bit_set s a = by_place false (λ i. has_fault 1 (former_rules_at i) (values_at s a i)) (place_of (type_of s a))

unfoldable pub former_value_not_in_use : List ℕ → ℕ → Bool
former_value_not_in_use s a =
    by_place false (λ i. has_fault 2 (former_rules_at i) (values_at s a i) || any_unused (blocks_in s a i)) (place_of (type_of s a))

-- the reader as it was: the rows of 20 21 22 23 24 25 29 26, in this order, are today's
abbrev pub former_rows : List ℕ → ℕ → Direction → List (Row (Result Record FieldRefusal))
former_rows s n w =
    take 8 (read_rows s n w)
    ++ (row (former_spare_bit_set s (start_of s n w)) (Err SpareBitSet) ∷ row (former_value_not_in_use s (start_of s n w)) (Err ValueNotInUse) ∷ [])

unfoldable pub former_answer : List ℕ → ℕ → Direction → Result Record FieldRefusal
former_answer s n w = first_of (former_rows s n w) (Ok (record_of s n w))

-- the writer as it was
unfoldable pub former_takes_at : ℕ → Record → List ℤ → ℕ → Bool
former_takes_at i r l t =
    head_fits i r
    && (fit_all (widths_at i) (numbers_in r)
    && (not (has_fault 2 (former_rules_at i) (numbers_in r))
    && (list_fits (row_at i).step (listed i (numbers_in r)) l && eqb t (text_length i (numbers_in r)))))

unfoldable pub former_takes : Record → List ℤ → List ℕ → Bool
former_takes r l t = by_place false (λ i. former_takes_at i r l (length t)) (place_of (get_or (numbers_in r) 0 0))

abbrev pub former_writer_rows : Record → List ℤ → List ℕ → List ℕ → List (Row (Result ℕ FieldRefusal))
former_writer_rows r l t s = row (not (former_takes r l t)) (Err NotWritable) ∷ row (no_room r s) (Err NoRoom) ∷ []

unfoldable pub former_written : Record → List ℤ → List ℕ → List ℕ → Result ℕ FieldRefusal
former_written r l t s = first_of (former_writer_rows r l t s) (Ok (bits_in r))

-- what the writer left
abbrev pub former_left : Record → List ℤ → List ℕ → List ℕ → List ℕ
former_left r l t s = left_as (former_written r l t s) s (put_in r l t s)

-- ---- reading

-- the field behind the first a bits has type 42, and its Length, bits 37-40, is 0. Inside a relay a is 16, else 0. Bits past the end count as 0,
-- so a field that is too short may be among these; it is 26
unfoldable pub has_length0 : List ℕ → ℕ → Bool
has_length0 s a = eqb (type_of s a) 0x42 && eqb (bits s (a + 37) (a + 40)) 0

-- and it is one segment, with nothing wrong. Behind the first a bits it has 120 (26 asks this), the bytes are those of the count (21), it comes from
-- the sensor (25), and its spare bits 33-36 are zero (27)
unfoldable pub one_segment_at : List ℕ → ℕ → ℕ → Direction → Bool
one_segment_at s n a w = has_length0 s a && (eqb n (a + 120) && (not (wrong_byte_count s n) && (from_sensor w && eqb (bits s (a + 33) (a + 36)) 0)))

-- bare, or inside a relay
abbrev pub one_segment : List ℕ → ℕ → Direction → Bool
one_segment s n w = one_segment_at s n (start_of s n w) w

-- 120 bits, alone: accepted, with a text of 10 bytes behind the first 5
abbrev pub BareRead : Type 0
BareRead =
    (s : List ℕ) → length s ≡ 15 → bits s 1 8 ≡ 0x42 → bits s 33 36 ≡ 0 → bits s 37 40 ≡ 0
    → (answer_of s 120 FromSensor ≡ Ok (Single (ElmDownlink (bits s 9 32) 0))) × (text_of s 120 FromSensor ≡ drop 5 s) × (length (drop 5 s) ≡ 10)

-- 136 bits, inside a relay, whose own 16 stand before it: accepted, with a text of 10 bytes behind the first 7
abbrev pub RelayedRead : Type 0
RelayedRead =
    (s : List ℕ) → length s ≡ 17 → bits s 1 8 ≡ 0x03 → bits s 17 24 ≡ 0x42 → bits s 49 52 ≡ 0 → bits s 53 56 ≡ 0
    → (answer_of s 136 FromSensor ≡ Ok (Relay (bits s 9 16) (ElmDownlink (bits s 25 48) 0)))
    × (text_of s 136 FromSensor ≡ drop 7 s)
    × (length (drop 7 s) ≡ 10)

-- another count is still 26, and a spare bit that is one is still 27. 20, 21 and 22 are tested first, as before
abbrev pub CountStays : Type 0
CountStays =
    (s : List ℕ) (n : ℕ) → NoneHolds (count_rows s n) → has_length0 s (start_of s n FromSensor) ≡ true
    → (n ≡ start_of s n FromSensor + 120 → ⊥) → answer_of s n FromSensor ≡ Err WrongBitCount

abbrev pub SparesStay : Type 0
SparesStay =
    (s : List ℕ) (n : ℕ) → NoneHolds (count_rows s n) → has_length0 s (start_of s n FromSensor) ≡ true
    → n ≡ start_of s n FromSensor + 120 → (bits s (start_of s n FromSensor + 33) (start_of s n FromSensor + 36) ≡ 0 → ⊥)
    → answer_of s n FromSensor ≡ Err SpareBitSet

-- type 22 keeps its minimum: with a Length, bits 45-48, of 0 its 128 bits are 28
abbrev pub UplinkRead : Type 0
UplinkRead =
    (s : List ℕ) → length s ≡ 16 → bits s 1 8 ≡ 0x22 → bits s 41 44 ≡ 0 → bits s 45 48 ≡ 0 → answer_of s 128 ToSensor ≡ Err ValueNotInUse

-- the condition of 27 is what it was. That of 28 was today's, or type 42 with Length 0; for these today's does not hold
abbrev pub NotInUseBefore : Type 0
NotInUseBefore =
    (s : List ℕ) (a : ℕ) → (former_spare_bit_set s a ≡ spare_bit_set s a)
    × (former_value_not_in_use s a ≡ (value_not_in_use s a || has_length0 s a))
    × ((value_not_in_use s a && has_length0 s a) ≡ false)

-- one segment got 28, and is accepted now
abbrev pub OneSegmentRead : Type 0
OneSegmentRead =
    (s : List ℕ) (n : ℕ) (w : Direction) → one_segment s n w ≡ true
    → (former_answer s n w ≡ Err ValueNotInUse) × (answer_of s n w ≡ Ok (record_of s n w))

-- every other field gets the answer that it got
abbrev pub OthersReadAsBefore : Type 0
OthersReadAsBefore = (s : List ℕ) (n : ℕ) (w : Direction) → one_segment s n w ≡ false → answer_of s n w ≡ former_answer s n w

-- ---- writing

-- the record, or the one inside a relay, has type 42, and its Length, part 3, is 0
unfoldable pub record_has_length0 : Record → Bool
record_has_length0 r = eqb (get_or (numbers_in r) 0 0) 0x42 && eqb (get_or (numbers_in r) 3 0) 0

-- the address fits 24 bits, every number of the list is zero, and the text has 10 bytes
abbrev pub one_segment_fits : ℕ → List ℤ → List ℕ → Bool
one_segment_fits address l t = ltb address (2 ^ 24) && (list_fits 80 0 l && eqb (length t) 10)

-- the sensor of a relay fits 8 bits
abbrev pub sensor_fits : Record → Bool
sensor_fits (Single f) = true
sensor_fits (Relay sensor f) = ltb sensor (2 ^ 8)

-- a record of one segment, bare or in a relay, of which everything fits: the sensor, the address (part 1), the list and the text
abbrev pub one_segment_in : Record → List ℤ → List ℕ → Bool
one_segment_in r l t = record_has_length0 r && (sensor_fits r && one_segment_fits (get_or (numbers_in r) 1 0) l t)

-- alone: 30 where it does not fit, 31 under 15 bytes of room, else it is written, 120 bits
abbrev pub BareWritten : Type 0
BareWritten =
    (address : ℕ) (l : List ℤ) (t s : List ℕ)
    → written_of (Single (ElmDownlink address 0)) l t s
    ≡ first_of (row (not (one_segment_fits address l t)) (Err NotWritable) ∷ row (ltb (length s) 15) (Err NoRoom) ∷ []) (Ok 120)

-- inside a relay: 30 also where the sensor does not fit, 31 under 17 bytes of room, else 136 bits
abbrev pub RelayedWritten : Type 0
RelayedWritten =
    (sensor address : ℕ) (l : List ℤ) (t s : List ℕ)
    → written_of (Relay sensor (ElmDownlink address 0)) l t s
    ≡ first_of
    (row (not (ltb sensor (2 ^ 8) && one_segment_fits address l t)) (Err NotWritable) ∷ row (ltb (length s) 17) (Err NoRoom) ∷ [])
    (Ok 136)

-- type 22 keeps its minimum: with Length 0 it is 30, whatever its other parts, its list, its text and the room; in a relay it is 30 in any case
abbrev pub UplinkWritten : Type 0
UplinkWritten =
    (r : Record) (address number priority exp : ℕ) (l : List ℤ) (t s : List ℕ) → field_in r ≡ ElmUplink address number priority exp 0
    → written_of r l t s ≡ Err NotWritable

-- the writer took what it takes now, but no record of type 42 with Length 0
abbrev pub TakenBefore : Type 0
TakenBefore = (r : Record) (l : List ℤ) (t : List ℕ) → former_takes r l t ≡ (takes r l t && not (record_has_length0 r))

-- one segment got 30, and nothing was written. Now it is written; without room it is 31
abbrev pub OneSegmentWritten : Type 0
OneSegmentWritten =
    (r : Record) (l : List ℤ) (t s : List ℕ) → one_segment_in r l t ≡ true
    → (former_written r l t s ≡ Err NotWritable) × (former_left r l t s ≡ s)
    × (written_of r l t s ≡ first_of (row (no_room r s) (Err NoRoom) ∷ []) (Ok (head_bits r + 120)))

-- every other record gets the answer that it got, and leaves the same bytes
abbrev pub OthersWrittenAsBefore : Type 0
OthersWrittenAsBefore =
    (r : Record) (l : List ℤ) (t s : List ℕ) → one_segment_in r l t ≡ false
    → (written_of r l t s ≡ former_written r l t s) × (left_of r l t s ≡ former_left r l t s)
