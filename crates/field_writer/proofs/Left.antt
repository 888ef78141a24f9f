-- What is answered and left by the place of a record's type is what is answered and left. Assumes nothing.
use Rattle.std.specs.Prelude.{Err, None, Ok, Result, Some}
use mathlib.Core.Path.{◌≡◌, refl, ap}
use mathlib.Core.List.{List}
use mathlib.Core.Bool.{true}
use Prim.Native.Nat.{ℕ, ◌<◌}
use lib.IntN.{ℤ}
use lib.ListN.{length, get_or}
use borrow.Author.Tests.{not-false}
use Rattle.rows.proofs.Claims.{accepted_exactly}
use Rattle.refusals.specs.declared.FieldRefusal.TheVariants.{NotWritable}
use Rattle.fields.specs.declared.Record.{Record}
use Rattle.fields.specs.declared.Row.{Row}
use Rattle.fields.specs.Table.{place_of, row_at, widths_at, RowSmall}
use Rattle.fields.specs.Writing.{numbers_in, fit_all, takes_at, takes, bits_at, bits_in, put_field, put_in, written_of, left_as, left_of}
use Rattle.fields.proofs.Exactly.{is_written}
use Rattle.fields.proofs.Taking.{taken, taken_small}
use Rattle.field_writer.specs.Steps.{rows_at, written_at, left_at}
use Rattle.refusals.specs.declared.FieldRefusal.{FieldRefusal}

-- bits are answered for what is taken
pub bits_taken : (i : ℕ) (r : Record) (l : List ℤ) (t room n : ℕ) → written_at i r l t room ≡ Ok n → takes_at i r l t ≡ true
unfolding written_at
bits_taken i r l t room n e =
    not-false _ ((accepted_exactly (Result ℕ FieldRefusal) is_written (rows_at i r l t room) (Ok (bits_at i r)) (Ok n) (refl, (refl, tt)) refl).0 e).0.0

module _ (r : Record) (l : List ℤ) (t s : List ℕ) where
  -- the answer tells what is left
  pub left_by : (i : ℕ) (w : Result ℕ FieldRefusal) → written_at i r l (length t) (length s) ≡ w → left_at i r l t s ≡ left_as w s (put_field i r l t s)
  unfolding left_at
  left_by i w e = ap (λ (x : Result ℕ FieldRefusal). left_as x s (put_field i r l t s)) e

  pub placed : (i : ℕ) → place_of (get_or (numbers_in r) 0 0) ≡ Some i → (written_of r l t s ≡ written_at i r l (length t) (length s)) × (left_of r l t s ≡ left_at i r l t s)
  unfolding written_of left_of takes bits_in put_in written_at left_at
  placed i e = rw e (refl, refl)

  -- no record's type is without a row; the code asks all the same
  pub unplaced : place_of (get_or (numbers_in r) 0 0) ≡ None → (written_of r l t s ≡ Err NotWritable) × (left_of r l t s ≡ s)
  unfolding written_of left_of takes
  unplaced e = rw e (refl, refl)

-- of values that fit, and so of a record that is taken, the numbers are small
module _ (i : ℕ) (r : Record) (row : Row) (v : List ℕ) (h : i < 22) (p : row ≡ row_at i) (q : v ≡ numbers_in r) where
  pub fits_small : fit_all (widths_at i) v ≡ true → RowSmall row v
  fits_small e = rw (p, q) (taken_small i r h (rw q at e))

  pub taken_row : (l : List ℤ) (t : ℕ) → takes_at i r l t ≡ true → RowSmall row v
  taken_row l t e = rw (p, q) (taken_small i r h (taken i r l t e).fits)
