-- What writing a record whose type stands at place i of the table answers and leaves: steps on the code's way. proofs/Left.antt shows that it
-- is what specs/Writing.antt of `fields` says. Definitions only.
use Rattle.std.specs.Prelude.{ℕ, ◌+◌, ◌/◌, List, [], ◌∷◌, not, ltb, ℤ, length, Err, Ok, Result}
use Rattle.rows.specs.Rows.{Row, row, first_of}
use Rattle.refusals.specs.declared.FieldRefusal.TheVariants.{NotWritable, NoRoom}
use Rattle.fields.specs.declared.Record.{Record}
use Rattle.fields.specs.Writing.{takes_at, bits_at, put_field, left_as}
use Rattle.refusals.specs.declared.FieldRefusal.{FieldRefusal}

-- 30 and 31, for so many bytes of text and so many lent bytes
abbrev pub rows_at : ℕ → Record → List ℤ → ℕ → ℕ → List (Row (Result ℕ FieldRefusal))
rows_at i r l t room = row (not (takes_at i r l t)) (Err NotWritable) ∷ row (ltb room ((bits_at i r + 7) / 8)) (Err NoRoom) ∷ []

unfoldable pub written_at : ℕ → Record → List ℤ → ℕ → ℕ → Result ℕ FieldRefusal
written_at i r l t room = first_of (rows_at i r l t room) (Ok (bits_at i r))

unfoldable pub left_at : ℕ → Record → List ℤ → List ℕ → List ℕ → List ℕ
left_at i r l t s = left_as (written_at i r l (length t) (length s)) s (put_field i r l t s)
