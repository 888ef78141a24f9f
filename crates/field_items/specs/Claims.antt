-- What is claimed of the items of link data fields. Statements only; proofs/Claims.antt proves them.
use Rattle.std.specs.Prelude.{ℕ, ◌%◌, ◌≡◌, List, [], ◌∷◌, ◌⊎◌, ℤ, length, Err}
use Rattle.pairs.specs.Pairs.{Pair, pairs_in, find_in}
use Rattle.refusals.specs.declared.FieldRefusal.TheVariants.{NotWritable}
use Rattle.fields.specs.declared.Field.{Field}
use Rattle.fields.specs.declared.Field.TheVariants as F
use Rattle.fields.specs.declared.Record.{Record}
use Rattle.fields.specs.Writing.{written_of}
use Rattle.field_items.specs.Items.{items_of_field, items_of, item_of, inner_of}
use Rattle.field_items.specs.Items as I
use Rattle.field_items.specs.Given.{unfit, given}

-- the items of each record by name, in the order of the record's own parts (crate fields, `Field`)
abbrev pub named : Field → List Pair
named (F.TacticalUplink a b c d e) = (I.address, a) ∷ (I.number, b) ∷ (I.priority, c) ∷ (I.exp, d) ∷ (I.text, e) ∷ []
named (F.ElmUplink a b c d e) = (I.address, a) ∷ (I.number, b) ∷ (I.priority, c) ∷ (I.exp, d) ∷ (I.length, e) ∷ []
named (F.DownlinkRequest a b c d e) = (I.address, a) ∷ (I.number, b) ∷ (I.priority, c) ∷ (I.exp, d) ∷ (I.msrc, e) ∷ []
named (F.IdRequest a b) = (I.address, a) ∷ (I.number, b) ∷ []
named (F.CapabilityRequest a b) = (I.address, a) ∷ (I.number, b) ∷ []
named (F.Cancellation a b c d) = (I.address, a) ∷ (I.number, b) ∷ (I.referenced, c) ∷ (I.referenced_type, d) ∷ []
named (F.Test a) = (I.pattern, a) ∷ []
named (F.AltimeterCorrection a) = (I.n, a) ∷ []
named (F.AtcFailure a) = (I.state, a) ∷ []
named (F.SensorFailure a b) = (I.sid, a) ∷ (I.sstat, b) ∷ []
named (F.DabsControlState a b c) = (I.ip, a) ∷ (I.is, b) ∷ (I.iu, c) ∷ []
named (F.AtcrbsControlState a b) = (I.ica, a) ∷ (I.iua, b) ∷ []
named (F.RejectionNotice a b c) = (I.address, a) ∷ (I.referenced, b) ∷ (I.qual, c) ∷ []
named (F.DeliveryNotice a b c) = (I.address, a) ∷ (I.referenced, b) ∷ (I.di, c) ∷ []
named (F.TacticalDownlink a b) = (I.address, a) ∷ (I.text, b) ∷ []
named (F.ElmDownlink a b) = (I.address, a) ∷ (I.length, b) ∷ []
named (F.Utility a b) = (I.address, a) ∷ (I.um, b) ∷ []
named (F.Capability a b c d) = (I.address, a) ∷ (I.ca, b) ∷ (I.aca, c) ∷ (I.eca, d) ∷ []
named (F.IdCode a b) = (I.address, a) ∷ (I.code, b) ∷ []
named (F.TestResponse a) = (I.pattern, a) ∷ []
named (F.ControllerAlert a b c d e f g h i j) = (I.acid1, a) ∷ (I.acid2, b) ∷ (I.cs1, c) ∷ (I.advisory1, d) ∷ (I.del1, e) ∷ (I.cs2, f) ∷ (I.advisory2, g) ∷ (I.del2, h) ∷ (I.v1, i) ∷ (I.v2, j) ∷ []

-- the table gives each record these
abbrev pub ItemsByName : Type 0
ItemsByName = (f : Field) → items_of_field f ≡ named f

-- bytes that are the items of a record, each once, in any order
pub record Holds (s : List ℕ) (r : Record) : Type 0 where
  pub whole : length s % 16 ≡ 0
  pub many : length (pairs_in s) ≡ length (items_of r)
  pub each : (n : ℕ) → find_in n (pairs_in s) ≡ item_of r n

-- a record's own items, given back with its type, are the record: every record's, a relay's too
abbrev pub OwnItems : Type 0
OwnItems = (r : Record) (s l : List ℕ) → Holds s r → length l ≡ 240 → given (inner_of r) s l ≡ r

-- and what is given for a record that is made of it is that record's items and no others, and its type: nothing is passed over
abbrev pub NothingPassedOver : Type 0
NothingPassedOver =
    (t : ℕ) (s l : List ℕ) → (given t s l ≡ unfit) ⊎ (Holds s (given t s l) × (inner_of (given t s l) ≡ t) × (length l ≡ 240))

-- what is no record is refused with 30, whatever list, text and bytes go with it
abbrev pub UnfitRefused : Type 0
UnfitRefused = (l : List ℤ) (t s : List ℕ) → written_of unfit l t s ≡ Err NotWritable
