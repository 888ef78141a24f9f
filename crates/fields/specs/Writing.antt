-- What writing a field does (document 01, "Link data fields"): each refusal's condition over the record, its list, its text and the lent bytes,
-- of which the first row that holds answers, else how many bits; and what the lent bytes then hold. The writer is given no direction: the type
-- tells it. Definitions only.
use Rattle.std.specs.Prelude.{ℕ, ◌+◌, ◌-◌, ◌*◌, ◌/◌, ◌%◌, ◌^◌, Bool, true, false, cond, not, ◌&&◌, List, [], ◌∷◌, ◌++◌, length, replicate, ℤ, ◌==◌, nat_lt, slice_index, Err, Ok, Result}
use Rattle.rows.specs.Rows.{Row, row, first_of}
use Rattle.bits.specs.Bits.{put_bits}
use Rattle.refusals.specs.declared.FieldRefusal.{FieldRefusal}
use Rattle.refusals.specs.declared.FieldRefusal.TheVariants.{NotWritable, NoRoom}
use Rattle.fields.specs.declared.Direction.{Direction}
use Rattle.fields.specs.declared.Direction.TheVariants.{ToSensor}
use Rattle.fields.specs.declared.Row as table
use Rattle.fields.specs.declared.Field.{Field}
use Rattle.fields.specs.declared.Record.{Record}
use Rattle.fields.specs.declared.Record.TheVariants.{Single, Relay}
use Rattle.fields.specs.Table.{place_of, by_place, row_at, widths_at, rules_at, has_fault, count_in, size_in}
use Rattle.fields.specs.Records.{numbers_of}
use Rattle.fields.specs.Lists.{list_fits, entries_bits}
use Rattle.fields.specs.Reading.{from_sensor, listed, number_of}

-- ---- a record

-- the field inside a relay, or the field
abbrev pub field_in : Record → Field
field_in (Single f) = f
field_in (Relay x f) = f

-- the values of its parts, the type first
abbrev pub numbers_in : Record → List ℕ
numbers_in r = numbers_of (field_in r)

-- what stands before it: a relay's type 03 and its sensor
abbrev pub head_bits : Record → ℕ
head_bits (Single f) = 0
head_bits (Relay x f) = 16

abbrev pub head_widths : Record → List ℕ
head_widths (Single f) = []
head_widths (Relay x f) = 8 ∷ 8 ∷ []

abbrev pub head_values : Record → List ℕ
head_values (Single f) = []
head_values (Relay x f) = 0x03 ∷ x ∷ []

-- ---- 30

-- no value is too large for its part
unfoldable pub fit_all : List ℕ → List ℕ → Bool
fit_all [] vs = true
fit_all (w ∷ ws) [] = true
fit_all (w ∷ ws) (v ∷ vs) = nat_lt v (2 ^ w) && fit_all ws vs

-- how many bytes of text go with a record of the type at place i
unfoldable pub text_length_by : table.Row → List ℕ → ℕ
text_length_by r vs = cond (r.step == 80) (10 * count_in r vs) 0

abbrev pub text_length : ℕ → List ℕ → ℕ
text_length i vs = text_length_by (row_at i) vs

-- a relay's sensor has 8 bits, and its inner record is from the sensor and not 62 (03 is no field's record)
unfoldable pub relays_at : ℕ → ℕ → Bool
relays_at i x = nat_lt x 256 && (from_sensor (row_at i).way && not ((row_at i).code == 0x62))

unfoldable pub head_fits : ℕ → Record → Bool
head_fits i (Single f) = true
head_fits i (Relay x f) = relays_at i x

-- the writer takes a record of the type at place i, its list and its text: no value is too large or not in use, no list entry is, none past
-- the count is other than zero, and the text is as long as the record says
unfoldable pub takes_at : ℕ → Record → List ℤ → ℕ → Bool
takes_at i r l t =
    head_fits i r
    && (fit_all (widths_at i) (numbers_in r)
    && (not (has_fault 2 (rules_at i) (numbers_in r))
    && (list_fits (row_at i).step (listed i (numbers_in r)) l && t == text_length i (numbers_in r))))

unfoldable pub takes : Record → List ℤ → List ℕ → Bool
takes r l t = by_place false (λ i. takes_at i r l (length t)) (place_of (slice_index (numbers_in r) 0))

-- No record's type is without a row (the claim `RecordBack`): what the definitions below and `takes` say where `place_of` finds none is never asked.

-- ---- what is written

-- the bits of a record of the type at place i
abbrev pub bits_at : ℕ → Record → ℕ
bits_at i r = head_bits r + size_in (row_at i) (numbers_in r)

-- the bits of a record
unfoldable pub bits_in : Record → ℕ
bits_in r = by_place 0 (λ i. bits_at i r) (place_of (slice_index (numbers_in r) 0))

-- all its parts: a relay's head, the type's parts, the list's entries, the text's bytes
abbrev pub widths_in : ℕ → Record → List ℕ → List ℕ
widths_in i r t = head_widths r ++ (widths_at i ++ (replicate (listed i (numbers_in r)) (row_at i).step ++ replicate (length t) 8))

abbrev pub values_in : ℕ → Record → List ℤ → List ℕ → List ℕ
values_in i r l t = head_values r ++ (numbers_in r ++ (entries_bits (row_at i).step (listed i (numbers_in r)) l ++ t))

-- the bytes with parts of these widths and values written behind the first a bits
unfoldable pub put_all : List ℕ → ℕ → List ℕ → List ℕ → List ℕ
put_all s a [] vs = s
put_all s a (w ∷ ws) [] = s
put_all s a (w ∷ ws) (v ∷ vs) = put_all (put_bits s a w v) (a + w) ws vs

-- how many bits parts have together
abbrev pub sum_of : List ℕ → ℕ
sum_of [] = 0
sum_of (w ∷ ws) = w + sum_of ws

-- how many bits of its last byte a field of n bits leaves
abbrev pub fill_of : ℕ → ℕ
fill_of n = (8 - n % 8) % 8

-- the parts, and zeros to the end of the started byte
unfoldable pub put_field : ℕ → Record → List ℤ → List ℕ → List ℕ → List ℕ
put_field i r l t s = put_bits (put_all s 0 (widths_in i r t) (values_in i r l t)) (bits_at i r) (fill_of (bits_at i r)) 0

-- the lent bytes with a record's field in them
unfoldable pub put_in : Record → List ℤ → List ℕ → List ℕ → List ℕ
put_in r l t s = by_place s (λ i. put_field i r l t s) (place_of (slice_index (numbers_in r) 0))

-- ---- the writer

-- 31: no room
abbrev pub no_room : Record → List ℕ → Bool
no_room r s = nat_lt (length s) ((bits_in r + 7) / 8)

abbrev pub writer_rows : Record → List ℤ → List ℕ → List ℕ → List (Row (Result ℕ FieldRefusal))
writer_rows r l t s = row (not (takes r l t)) (Err NotWritable) ∷ row (no_room r s) (Err NoRoom) ∷ []

-- else the bit count
unfoldable pub written_of : Record → List ℤ → List ℕ → List ℕ → Result ℕ FieldRefusal
written_of r l t s = first_of (writer_rows r l t s) (Ok (bits_in r))

-- the lent bytes after an answer: `put`, which has the field in them, or untouched where it is refused
abbrev pub left_as : Result ℕ FieldRefusal → List ℕ → List ℕ → List ℕ
left_as (Ok n) s put = put
left_as (Err q) s put = s

unfoldable pub left_of : Record → List ℤ → List ℕ → List ℕ → List ℕ
left_of r l t s = left_as (written_of r l t s) s (put_in r l t s)

-- ---- a record's field: its direction, and its bytes, as they are written over zeros that are just long enough

unfoldable pub way_in : Record → Direction
way_in r = by_place ToSensor (λ i. (row_at i).way) (place_of (slice_index (numbers_in r) 0))

unfoldable pub bytes_in : Record → List ℤ → List ℕ → List ℕ
bytes_in r l t = put_in r l t (replicate ((bits_in r + 7) / 8) 0)

-- ---- the number of an answer: 0, or the refusal's

abbrev pub written_number : Result ℕ FieldRefusal → ℕ
written_number = number_of
