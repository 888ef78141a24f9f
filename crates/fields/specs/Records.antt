-- A record from the values of its parts, the type code left out, and the parts' values of a record, the type code first. Definitions only.
use Rattle.std.specs.Prelude.{ℕ, List, [], ◌∷◌, slice_index, slice_index_or}
use Rattle.fields.specs.declared.Field.{Field}
use Rattle.fields.specs.declared.Field.TheVariants as F

-- the records of the types before the last, in the table's order, from the values of parts 1 to 10
abbrev pub fields_by : ℕ → ℕ → ℕ → ℕ → ℕ → ℕ → ℕ → ℕ → ℕ → ℕ → List Field
fields_by a b c d e f g h i j =
    F.TacticalUplink a b c d e
    ∷ F.ElmUplink a b c d f
    ∷ F.DownlinkRequest a b c d e
    ∷ F.IdRequest a b
    ∷ F.CapabilityRequest a b
    ∷ F.Cancellation a b c d
    ∷ F.Test a
    ∷ F.AltimeterCorrection b
    ∷ F.AtcFailure a
    ∷ F.SensorFailure a c
    ∷ F.DabsControlState a b c
    ∷ F.AtcrbsControlState a b
    ∷ F.RejectionNotice a b c
    ∷ F.DeliveryNotice a b c
    ∷ F.TacticalDownlink a b
    ∷ F.ElmDownlink a c
    ∷ F.Utility a c
    ∷ F.Capability a b c d
    ∷ F.IdCode a c
    ∷ F.TestResponse a
    ∷ []

-- the record of the type at a place of the table
unfoldable pub field_at : ℕ → ℕ → ℕ → ℕ → ℕ → ℕ → ℕ → ℕ → ℕ → ℕ → ℕ → Field
field_at at a b c d e f g h i j = slice_index_or (fields_by a b c d e f g h i j) at (F.ControllerAlert a b c d e f g h i j)

-- the record of these values of all parts
abbrev pub field_of : ℕ → List ℕ → Field
field_of i v = field_at i (slice_index v 1) (slice_index v 2) (slice_index v 3) (slice_index v 4) (slice_index v 5) (slice_index v 6) (slice_index v 7) (slice_index v 8) (slice_index v 9) (slice_index v 10)

abbrev eleven : ℕ → ℕ → ℕ → ℕ → ℕ → ℕ → ℕ → ℕ → ℕ → ℕ → ℕ → List ℕ
eleven t a b c d e f g h i j = t ∷ a ∷ b ∷ c ∷ d ∷ e ∷ f ∷ g ∷ h ∷ i ∷ j ∷ []

-- the values of a record's parts, zero for the spares and the parts of no bits
abbrev pub numbers_of : Field → List ℕ
numbers_of (F.TacticalUplink a b c d e) = eleven 0x21 a b c d e 0 0 0 0 0
numbers_of (F.ElmUplink a b c d f) = eleven 0x22 a b c d 0 f 0 0 0 0
numbers_of (F.DownlinkRequest a b c d e) = eleven 0x23 a b c d e 0 0 0 0 0
numbers_of (F.IdRequest a b) = eleven 0x24 a b 0 0 0 0 0 0 0 0
numbers_of (F.CapabilityRequest a b) = eleven 0x02 a b 0 0 0 0 0 0 0 0
numbers_of (F.Cancellation a b c d) = eleven 0x25 a b c d 0 0 0 0 0 0
numbers_of (F.Test a) = eleven 0x61 a 0 0 0 0 0 0 0 0 0
numbers_of (F.AltimeterCorrection b) = eleven 0x9B 0 b 0 0 0 0 0 0 0 0
numbers_of (F.AtcFailure a) = eleven 0x99 a 0 0 0 0 0 0 0 0 0
numbers_of (F.SensorFailure a c) = eleven 0x65 a 0 c 0 0 0 0 0 0 0
numbers_of (F.DabsControlState a b c) = eleven 0x9A a b c 0 0 0 0 0 0 0
numbers_of (F.AtcrbsControlState a b) = eleven 0x96 a b 0 0 0 0 0 0 0 0
numbers_of (F.RejectionNotice a b c) = eleven 0x31 a b c 0 0 0 0 0 0 0
numbers_of (F.DeliveryNotice a b c) = eleven 0x32 a b c 0 0 0 0 0 0 0
numbers_of (F.TacticalDownlink a b) = eleven 0x41 a b 0 0 0 0 0 0 0 0
numbers_of (F.ElmDownlink a c) = eleven 0x42 a 0 c 0 0 0 0 0 0 0
numbers_of (F.Utility a c) = eleven 0x43 a 0 c 0 0 0 0 0 0 0
numbers_of (F.Capability a b c d) = eleven 0x44 a b c d 0 0 0 0 0 0
numbers_of (F.IdCode a c) = eleven 0x45 a 0 c 0 0 0 0 0 0 0
numbers_of (F.TestResponse a) = eleven 0x62 a 0 0 0 0 0 0 0 0 0
numbers_of (F.ControllerAlert a b c d e f g h i j) = eleven 0x83 a b c d e f g h i j
