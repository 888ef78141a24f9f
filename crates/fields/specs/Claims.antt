-- What is claimed of link data fields. Statements only; proofs/Claims.antt and Exactly.antt prove them.
use Rattle.std.specs.Prelude.{◌≡◌, ℕ, ◌+◌, ◌*◌, ◌/◌, ◌<◌, ◌≤◌, true, false, ◌↔◌, List, length, replicate, ℤ, ◌≢◌, slice_index, Err, None, Ok, Some}
use Rattle.rows.specs.Claims.{FirstIs, NoneHolds}
use Rattle.bits.specs.Bits.{bits_of, Bytes}
use Rattle.refusals.specs.declared.FieldRefusal.{FieldRefusal}
use Rattle.fields.specs.declared.Direction.{Direction}
use Rattle.fields.specs.declared.Field.{Field}
use Rattle.fields.specs.declared.Record.{Record}
use Rattle.fields.specs.Table.{place_of, row_at, rules_at, values_of, has_fault}
use Rattle.fields.specs.Records.{field_of, numbers_of}
use Rattle.fields.specs.Reading.{values_at, read_rows, record_of, answer_of, read_field, text_of}
use Rattle.fields.specs.Writing.{fit_all, sum_of, put_all, takes, bits_in, way_in, bytes_in, writer_rows, written_of, left_of}

-- ---- each refusal exactly under its condition

-- 20 to 29, over the bytes, the count and the direction: given exactly where its row is the first that holds
abbrev pub RefusedExactly : Type 0
RefusedExactly = (s : List ℕ) (n : ℕ) (w : Direction) (r : FieldRefusal) → (answer_of s n w ≡ Err r) ↔ FirstIs (read_rows s n w) (Err r)

-- a field is accepted exactly where no row holds, as the record that its bits make
abbrev pub AcceptedExactly : Type 0
AcceptedExactly =
    (s : List ℕ) (n : ℕ) (w : Direction) (x : Record) → (answer_of s n w ≡ Ok x) ↔ (NoneHolds (read_rows s n w) × (record_of s n w ≡ x))

-- 30 and 31, over the record, its list, its text and the lent bytes
abbrev pub WriterRefuses : Type 0
WriterRefuses =
    (r : Record) (l : List ℤ) (t s : List ℕ) (q : FieldRefusal) → (written_of r l t s ≡ Err q) ↔ FirstIs (writer_rows r l t s) (Err q)

-- a bit count is answered exactly where neither holds, and it is the record's
abbrev pub WrittenExactly : Type 0
WrittenExactly =
    (r : Record) (l : List ℤ) (t s : List ℕ) (n : ℕ) → (written_of r l t s ≡ Ok n) ↔ (NoneHolds (writer_rows r l t s) × (bits_in r ≡ n))

-- a refused write leaves the bytes as they were
abbrev pub RefusedUntouched : Type 0
RefusedUntouched = (r : Record) (l : List ℤ) (t s : List ℕ) (x : FieldRefusal) → written_of r l t s ≡ Err x → left_of r l t s ≡ s

-- ---- demand 2

-- values that fit their widths, written as parts, read back
abbrev pub PartsRead : Type 0
PartsRead = (s ws vs : List ℕ) → sum_of ws ≤ length s * 8 → fit_all ws vs ≡ true → length ws ≡ length vs → values_of (put_all s 0 ws vs) 0 ws ≡ vs

-- the parts of whole bytes, read and written over zeros, give the bytes
abbrev pub PartsWrite : Type 0
PartsWrite = (s ws : List ℕ) → Bytes s → sum_of ws ≡ length s * 8 → put_all (replicate (length s) 0) 0 ws (values_of s 0 ws) ≡ s

-- a record's parts make the record again, by the row of its type
abbrev pub RecordBack : Type 0
RecordBack =
    (f : Field) → (place_of (slice_index (numbers_of f) 0) ≢ None) × ((i : ℕ) → place_of (slice_index (numbers_of f) 0) ≡ Some i → field_of i (numbers_of f) ≡ f)

-- values that were read at a type's place, with no spare bit one and the type's code first, are those of the record that they make
abbrev pub NumbersBack : Type 0
NumbersBack =
    (s : List ℕ) (a i : ℕ) → i < 21 → bits_of s a 8 ≡ (row_at i).code → has_fault 1 (rules_at i) (values_at s a i) ≡ false
    → numbers_of (field_of i (values_at s a i)) ≡ values_at s a i

-- of the records that the writer takes, one that is written and read gives the same record, list and text: the relay included
abbrev pub WrittenReads : Type 0
WrittenReads =
    (r : Record) (l : List ℤ) (t : List ℕ) → takes r l t ≡ true → length l ≡ 30 → Bytes t
    → (read_field (bytes_in r l t) (bits_in r) (way_in r) ≡ record { answer = Ok r; list = l }) × (text_of (bytes_in r l t) (bits_in r) (way_in r) ≡ t)

-- and what the writer leaves in a lent buffer of just that length is those bytes
abbrev pub WrittenBytes : Type 0
WrittenBytes =
    (r : Record) (l : List ℤ) (t : List ℕ) → takes r l t ≡ true → left_of r l t (replicate ((bits_in r + 7) / 8) 0) ≡ bytes_in r l t

-- demand 2 for link data fields: a field is read as a record, a list and a text exactly when its bytes, its count and its direction are those
-- that are written for them, and the writer takes them. The list is thirty numbers, and the text is bytes
abbrev pub FieldsMean : Type 0
FieldsMean =
    (s : List ℕ) (n : ℕ) (w : Direction) (r : Record) (l : List ℤ) (t : List ℕ) → Bytes s
    → ((read_field s n w ≡ record { answer = Ok r; list = l }) × (text_of s n w ≡ t))
    ↔ ((s ≡ bytes_in r l t) × (n ≡ bits_in r) × (w ≡ way_in r) × (takes r l t ≡ true) × (length l ≡ 30) × Bytes t)
