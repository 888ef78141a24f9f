-- What reading a field answers (document 01, "Link data fields"): each refusal's condition over the bytes, the count and the direction; the
-- first row that holds, in the document's order, answers. Definitions only.
use Rattle.std.specs.Prelude.{ℕ, ◌+◌, ◌-◌, ◌/◌, ◌%◌, Bool, true, false, cond, not, ◌&&◌, ◌||◌, List, [], ◌∷◌, ◌++◌, length, drop, replicate, ℤ, ◌==◌, nat_le, nat_lt, Err, Ok, Result}
use Rattle.rows.specs.Rows.{Row, row, first_of}
use Rattle.bits.specs.Bits.{bits_of, bits}
use Rattle.refusals.specs.declared.FieldRefusal.{FieldRefusal}
use Rattle.refusals.specs.declared.FieldRefusal.TheVariants.{CountOutOfRange, WrongByteCount, BitAfterCount, UnknownType, TypeNotCarried, WrongDirection, NotRelayed, WrongBitCount, SpareBitSet, ValueNotInUse}
use Rattle.refusals.specs.Numbers.{field_number}
use Rattle.fields.specs.declared.Direction.{Direction}
use Rattle.fields.specs.declared.Direction.TheVariants.{ToSensor, FromSensor}
use Rattle.fields.specs.declared.Row as table
use Rattle.fields.specs.declared.Field.{Field}
use Rattle.fields.specs.declared.Record.{Record}
use Rattle.fields.specs.declared.Record.TheVariants.{Single, Relay}
use Rattle.fields.specs.declared.Found.{Found}
use Rattle.fields.specs.Table.{place_of, by_place, row_at, widths_at, rules_at, values_of, has_fault, count_in, size_in}
use Rattle.fields.specs.Records.{field_of}
use Rattle.fields.specs.Lists.{any_unused, entries_in}

-- ---- directions

unfoldable pub from_sensor : Direction → Bool
from_sensor ToSensor = false
from_sensor FromSensor = true

unfoldable pub same_way_as : Direction → Direction → Bool
same_way_as ToSensor w = not (from_sensor w)
same_way_as FromSensor w = from_sensor w

-- the way that C names by a number: 0 is to the sensor, any other from it
abbrev pub way_numbered : ℕ → Direction
way_numbered k = cond (k == 0) ToSensor FromSensor

-- and back
abbrev pub way_number : Direction → ℕ
way_number ToSensor = 0
way_number FromSensor = 1

-- ---- the count and the bytes

-- 20: count under 8 or over 2008
unfoldable pub count_out_of_range : ℕ → Bool
count_out_of_range n = nat_lt n 8 || nat_lt 2008 n

-- 21: bytes are not count/8 rounded up
unfoldable pub wrong_byte_count : List ℕ → ℕ → Bool
wrong_byte_count s n = not (length s == (n + 7) / 8)

-- 22: a bit after the count is one
unfoldable pub bit_after_count : List ℕ → ℕ → Bool
bit_after_count s n = not (bits_of s n ((8 - n % 8) % 8) == 0)

-- ---- a field that begins behind the first a bits: a is 16 inside a relay, else 0

-- its type
abbrev pub type_of : List ℕ → ℕ → ℕ
type_of s a = bits_of s a 8

-- the values of its parts, if it is of the type at place i
abbrev pub values_at : List ℕ → ℕ → ℕ → List ℕ
values_at s a i = values_of s a (widths_at i)

-- 24: type 64, 9C, C1, C2, or 80 to 8F but 83
unfoldable pub type_not_carried : ℕ → Bool
type_not_carried t = cond (t == 0x83) false (t / 16 == 8 || (t == 0x64 || (t == 0x9C || (t == 0xC1 || t == 0xC2))))

-- 23: type not in Table 5-1 (80 to 8F count as in it)
unfoldable pub unknown_type : ℕ → Bool
unknown_type t = by_place (not (type_not_carried t)) (λ i. false) (place_of t)

-- 25: the other way's type
unfoldable pub wrong_direction : ℕ → Direction → Bool
wrong_direction t w = by_place false (λ i. not (same_way_as (row_at i).way w)) (place_of t)

-- 29: inner type 03 or 62
unfoldable pub not_relayed : ℕ → ℕ → Bool
not_relayed t a = a == 16 && (t == 0x03 || t == 0x62)

-- the count is the layout's. A relay that can be opened is told by its inner field; one that is too short has no layout
unfoldable pub sized_by : ℕ → ℕ → table.Row → List ℕ → Bool
sized_by n a r vs = not (r.code == 0x03) && n == a + size_in r vs

abbrev pub sized : List ℕ → ℕ → ℕ → ℕ → Bool
sized s n a i = sized_by n a (row_at i) (values_at s a i)

-- 26: count not the layout's, or too short to tell; relay under 24 bits
unfoldable pub wrong_bit_count : List ℕ → ℕ → ℕ → Bool
wrong_bit_count s n a = by_place false (λ i. not (sized s n a i)) (place_of (type_of s a))

-- 27: spare bit one
unfoldable pub spare_bit_set : List ℕ → ℕ → Bool
spare_bit_set s a = by_place false (λ i. has_fault 1 (rules_at i) (values_at s a i)) (place_of (type_of s a))

-- the blocks of an altimeter field
unfoldable pub block_count : table.Row → List ℕ → ℕ
block_count r vs = cond (r.step == 8) (count_in r vs) 0

abbrev pub blocks_by : List ℕ → ℕ → table.Row → List ℕ → List ℕ
blocks_by s a r vs = values_of s (a + r.base) (replicate (block_count r vs) 8)

abbrev pub blocks_in : List ℕ → ℕ → ℕ → List ℕ
blocks_in s a i = blocks_by s a (row_at i) (values_at s a i)

-- 28: a value not in use
unfoldable pub value_not_in_use : List ℕ → ℕ → Bool
value_not_in_use s a = by_place false (λ i. has_fault 2 (rules_at i) (values_at s a i) || any_unused (blocks_in s a i)) (place_of (type_of s a))

-- ---- the reader

-- "a relay of at least 24 bits that comes from the sensor": 23 to 28 speak of its inner field
unfoldable pub opens : List ℕ → ℕ → Direction → Bool
opens s n w = type_of s 0 == 0x03 && (from_sensor w && nat_le 24 n)

-- how many bits stand before the field that 23 to 28 speak of
abbrev pub start_of : List ℕ → ℕ → Direction → ℕ
start_of s n w = cond (opens s n w) 16 0

-- the rows of the count and the bytes
abbrev pub count_rows : List ℕ → ℕ → List (Row (Result Record FieldRefusal))
count_rows s n =
    row (count_out_of_range n) (Err CountOutOfRange)
    ∷ row (wrong_byte_count s n) (Err WrongByteCount)
    ∷ row (bit_after_count s n) (Err BitAfterCount)
    ∷ []

-- those of a field that begins behind the first a bits
abbrev pub field_rows : List ℕ → ℕ → ℕ → Direction → List (Row (Result Record FieldRefusal))
field_rows s n a w =
    row (unknown_type (type_of s a)) (Err UnknownType)
    ∷ row (type_not_carried (type_of s a)) (Err TypeNotCarried)
    ∷ row (wrong_direction (type_of s a) w) (Err WrongDirection)
    ∷ row (not_relayed (type_of s a) a) (Err NotRelayed)
    ∷ row (wrong_bit_count s n a) (Err WrongBitCount)
    ∷ row (spare_bit_set s a) (Err SpareBitSet)
    ∷ row (value_not_in_use s a) (Err ValueNotInUse)
    ∷ []

-- "In that order."
abbrev pub read_rows : List ℕ → ℕ → Direction → List (Row (Result Record FieldRefusal))
read_rows s n w = count_rows s n ++ field_rows s n (start_of s n w) w

-- the record of a field that begins behind the first a bits, which has a row; where it has none, 23 or 24 answers, and this is not asked
abbrev pub record_in : List ℕ → ℕ → Field
record_in s a = by_place (field_of 0 (values_at s a 0)) (λ i. field_of i (values_at s a i)) (place_of (type_of s a))

-- a relay's record is the sensor, bits 9 to 16, and the inner record
abbrev pub record_of : List ℕ → ℕ → Direction → Record
record_of s n w = cond (opens s n w) (Relay (bits s 9 16) (record_in s 16)) (Single (record_in s 0))

unfoldable pub answer_of : List ℕ → ℕ → Direction → Result Record FieldRefusal
answer_of s n w = first_of (read_rows s n w) (Ok (record_of s n w))

-- ---- the list beside the record

-- how many entries a list has: an ELM's steps are text and no entries
unfoldable pub listed_as : table.Row → List ℕ → ℕ
listed_as r vs = cond (r.step == 80) 0 (count_in r vs)

abbrev pub listed : ℕ → List ℕ → ℕ
listed i vs = listed_as (row_at i) vs

unfoldable pub list_in : List ℕ → List ℤ
list_in s =
    by_place (entries_in 0 30 [])
    (λ i. entries_in (row_at i).step 30 (values_of s (row_at i).base (replicate (listed i (values_at s 0 i)) (row_at i).step)))
    (place_of (type_of s 0))

-- no relayed type has a list
abbrev pub list_of : List ℕ → Result Record FieldRefusal → List ℤ
list_of s (Ok (Single f)) = list_in s
list_of s (Ok (Relay x f)) = entries_in 0 30 []
list_of s (Err r) = entries_in 0 30 []

unfoldable pub read_field : List ℕ → ℕ → Direction → Found
read_field s n w = record { answer = answer_of s n w; list = list_of s (answer_of s n w) }

-- ---- the text

-- the place of an ELM's text, in bytes, in a field that begins behind the first a bits; the end where there is none
unfoldable pub text_in : List ℕ → ℕ → ℕ
text_in s a = by_place (length s) (λ i. cond ((row_at i).step == 80) ((a + (row_at i).base) / 8) (length s)) (place_of (type_of s a))

abbrev pub text_place : List ℕ → Result Record FieldRefusal → ℕ
text_place s (Ok (Single f)) = text_in s 0
text_place s (Ok (Relay x f)) = text_in s 16
text_place s (Err r) = length s

-- it runs to the field's end
unfoldable pub text_of : List ℕ → ℕ → Direction → List ℕ
text_of s n w = drop (text_place s (answer_of s n w)) s

-- ---- the number of an answer: 0, or the refusal's

abbrev pub number_of : {T : Type 0} → Result T FieldRefusal → ℕ
number_of (Ok x) = 0
number_of (Err r) = field_number r

abbrev pub answer_number : Result Record FieldRefusal → ℕ
answer_number = number_of
