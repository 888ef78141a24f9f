-- The rows as the code asks them, step by step, give what the document's rows give. Assumes nothing.
use Rattle.std.specs.Prelude.{Err, None, Ok, Result, Some, ⊤}
use mathlib.Core.Path.{◌≡◌, refl}
use mathlib.Core.List.{List}
use mathlib.Core.Bool.{Bool, true, false, cond, not}
use Prim.Native.Nat.{ℕ}
use denote.Enum.Bare.{sameb}
use Rattle.rows.specs.Rows.{first_of, each}
use Rattle.rows.proofs.Claims.{each_of}
use Rattle.bits.specs.Bits.{bits}
use Rattle.refusals.specs.declared.FieldRefusal.TheVariants.{UnknownType, TypeNotCarried}
use Rattle.fields.specs.declared.Direction.{Direction}
use Rattle.fields.specs.declared.Direction.TheVariants.{ToSensor, FromSensor}
use Rattle.fields.specs.contracts.Direction.{the_type}
use Rattle.fields.specs.declared.Field.{Field}
use Rattle.fields.specs.declared.Record.{Record}
use Rattle.fields.specs.declared.Record.TheVariants.{Single, Relay}
use Rattle.fields.specs.Table.{place_of}
use Rattle.fields.specs.Reading.{from_sensor, same_way_as, type_of, type_not_carried, unknown_type, wrong_direction, wrong_bit_count, spare_bit_set, value_not_in_use, count_rows, field_rows, record_in, opens, answer_of}
use Rattle.fields.proofs.Rows.{found_within, found_code, carried}
use Rattle.field_reader.specs.Steps.{passed, outer_of, unless_refused, as_plain, plain_of, unknown_of, judged_by, row_read, handed, answered, relayed, opened_of}
use Rattle.refusals.specs.declared.FieldRefusal.{FieldRefusal}

-- the count and the bytes first, then the field
pub outer_first : (s : List ℕ) (n : ℕ) (w : Direction) → answer_of s n w ≡ unless_refused (opened_of s n w) (outer_of s n)
unfolding answer_of outer_of opened_of
outer_first s n w = each_of (Result ⊤ FieldRefusal) (Result Record FieldRefusal) (unless_refused (opened_of s n w)) (each passed (count_rows s n)) (Ok tt)

module _ (s : List ℕ) (n a : ℕ) (w : Direction) where
  -- the field before its record is made
  field_first : (k : Field → Record) → first_of (field_rows s n a w) (Ok (k (record_in s a))) ≡ handed k (plain_of s n a w)
  unfolding plain_of
  field_first k = each_of (Result Field FieldRefusal) (Result Record FieldRefusal) (handed k) (each as_plain (field_rows s n a w)) (Ok (record_in s a))

  -- a type with no row is 23 or 24
  pub unplaced : place_of (type_of s a) ≡ None → plain_of s n a w ≡ Err (unknown_of (type_of s a))
  unfolding plain_of unknown_type
  unplaced e = rw e (go (type_not_carried (type_of s a)) _)
    where
      go : (u : Bool) (rest : Result Field FieldRefusal) → cond (not u) (Err UnknownType) (cond u (Err TypeNotCarried) rest) ≡ Err (cond u TypeNotCarried UnknownType)
      go true rest = refl
      go false rest = refl

  -- one with a row is neither
  pub placed : (i : ℕ) → place_of (type_of s a) ≡ Some i → plain_of s n a w ≡ row_read s n a w i
  unfolding plain_of unknown_type wrong_direction wrong_bit_count spare_bit_set value_not_in_use row_read judged_by
  placed i e =
      let c = found_code (type_of s a) i e in
      let u : type_not_carried (type_of s a) ≡ false = rw (← c) (carried i (found_within (type_of s a) i e)) in
      rw (e, u, ← c) refl

-- a relay's inner field, or the field itself
pub opened_relay : (s : List ℕ) (n : ℕ) (w : Direction) → opens s n w ≡ true → opened_of s n w ≡ relayed (bits s 9 16) (plain_of s n 16 w)
unfolding opened_of
opened_relay s n w e = rw e (field_first s n 16 w (Relay (bits s 9 16)))

pub opened_field : (s : List ℕ) (n : ℕ) (w : Direction) → opens s n w ≡ false → opened_of s n w ≡ answered (plain_of s n 0 w)
unfolding opened_of
opened_field s n w e = rw e (field_first s n 0 w Single)

-- two ways are equal as the table's way and the field's are
pub same_is : (a w : Direction) → sameb the_type a w ≡ same_way_as a w
unfolding same_way_as from_sensor
same_is ToSensor ToSensor = refl
same_is ToSensor FromSensor = refl
same_is FromSensor ToSensor = refl
same_is FromSensor FromSensor = refl
