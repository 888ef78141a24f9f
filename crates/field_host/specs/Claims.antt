-- What is claimed of the calls for link data fields. Statements only; proofs/Claims.antt proves them.
use Rattle.std.specs.Prelude.{ℕ, ◌≡◌, List, Ok}
use Rattle.bits.specs.Bits.{Bytes}
use Rattle.fields.specs.declared.Direction.{Direction}
use Rattle.fields.specs.declared.Field.{Field}
use Rattle.fields.specs.declared.Record.TheVariants.{Single}
use Rattle.fields.specs.Table.{place_of, by_place}
use Rattle.fields.specs.Reading.{answer_of, listed}
use Rattle.fields.specs.Writing.{numbers_in}
use Rattle.field_items.specs.Items.{inner_of}
use Rattle.field_host.specs.Reading.{entries_of}

-- the entries that are counted from a field's bits are those of its record
abbrev pub EntriesListed : Type 0
EntriesListed =
    (s : List ℕ) (n : ℕ) (w : Direction) (f : Field) → Bytes s → answer_of s n w ≡ Ok (Single f)
    → entries_of (inner_of (Single f)) n ≡ by_place 0 (λ i. listed i (numbers_in (Single f))) (place_of (inner_of (Single f)))
