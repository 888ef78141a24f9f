-- What the private functions of the reader answer: parts of the rows of specs/Reading.antt of `fields`, and for a type that has a row the
-- steps as the code goes. proofs/Order.antt shows that together they are what Reading.antt says. Definitions only; no promise of a public
-- function names them.
use Rattle.std.specs.Prelude.{ℕ, List, [], ◌∷◌, cond, not, ◌||◌, Err, Ok, Result, ⊤}
use Rattle.rows.specs.Rows.{row, first_of, each}
use Rattle.refusals.specs.declared.FieldRefusal.{FieldRefusal}
use Rattle.refusals.specs.declared.FieldRefusal.TheVariants.{UnknownType, TypeNotCarried, WrongDirection, NotRelayed, WrongBitCount, SpareBitSet, ValueNotInUse}
use Rattle.fields.specs.declared.Direction.{Direction}
use Rattle.fields.specs.declared.Row as table
use Rattle.fields.specs.declared.Field.{Field}
use Rattle.fields.specs.declared.Record.{Record}
use Rattle.fields.specs.declared.Record.TheVariants.{Single, Relay}
use Rattle.fields.specs.Table.{row_at, rules_at, has_fault}
use Rattle.fields.specs.Records.{field_of}
use Rattle.fields.specs.Lists.{any_unused}
use Rattle.fields.specs.Reading.{same_way_as, values_at, type_not_carried, not_relayed, sized, blocks_by, start_of, count_rows, field_rows, record_in, record_of}
use Rattle.fields.specs.Writing.{field_in}

-- ---- the count and the bytes

abbrev pub passed : Result Record FieldRefusal → Result ⊤ FieldRefusal
passed (Ok r) = Ok tt
passed (Err r) = Err r

unfoldable pub outer_of : List ℕ → ℕ → Result ⊤ FieldRefusal
outer_of s n = first_of (each passed (count_rows s n)) (Ok tt)

-- the answer, where x is that to a field whose count and bytes nothing is said against
abbrev pub unless_refused : Result Record FieldRefusal → Result ⊤ FieldRefusal → Result Record FieldRefusal
unless_refused x (Ok tt) = x
unless_refused x (Err r) = Err r

-- ---- a field, or that inside a relay

abbrev pub as_plain : Result Record FieldRefusal → Result Field FieldRefusal
as_plain (Ok r) = Ok (field_in r)
as_plain (Err r) = Err r

unfoldable pub plain_of : List ℕ → ℕ → ℕ → Direction → Result Field FieldRefusal
plain_of s n a w = first_of (each as_plain (field_rows s n a w)) (Ok (record_in s a))

-- a type that has no row in the table
abbrev pub unknown_of : ℕ → FieldRefusal
unknown_of t = cond (type_not_carried t) TypeNotCarried UnknownType

-- one whose row stands at place i, from 27 on
unfoldable pub judged_by : List ℕ → ℕ → ℕ → table.Row → List ℕ → Result Field FieldRefusal
judged_by s a i r vs =
    first_of
    (row (has_fault 1 (rules_at i) vs) (Err SpareBitSet)
    ∷ row (has_fault 2 (rules_at i) vs || any_unused (blocks_by s a r vs)) (Err ValueNotInUse)
    ∷ [])
    (Ok (field_of i vs))

-- and from 25 on
unfoldable pub row_read : List ℕ → ℕ → ℕ → Direction → ℕ → Result Field FieldRefusal
row_read s n a w i =
    first_of
    (row (not (same_way_as (row_at i).way w)) (Err WrongDirection)
    ∷ row (not_relayed (row_at i).code a) (Err NotRelayed)
    ∷ row (not (sized s n a i)) (Err WrongBitCount)
    ∷ [])
    (judged_by s a i (row_at i) (values_at s a i))

-- ---- its record

-- the record that is made of a field that was read
abbrev pub handed : (Field → Record) → Result Field FieldRefusal → Result Record FieldRefusal
handed k (Ok f) = Ok (k f)
handed k (Err r) = Err r

abbrev pub answered : Result Field FieldRefusal → Result Record FieldRefusal
answered = handed Single

abbrev pub relayed : ℕ → Result Field FieldRefusal → Result Record FieldRefusal
relayed sensor = handed (Relay sensor)

-- a field whose count and bytes nothing is said against
unfoldable pub opened_of : List ℕ → ℕ → Direction → Result Record FieldRefusal
opened_of s n w = first_of (field_rows s n (start_of s n w) w) (Ok (record_of s n w))
