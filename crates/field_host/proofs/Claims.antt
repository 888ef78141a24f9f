-- The claims of specs/Claims.antt: a field that is read has the bits of its record, and they tell how many entries it has. Assumes nothing.
use Rattle.std.specs.Prelude.{Ok, Result}
use Prim.Native.Nat.{ℕ}
use mathlib.Core.Path.{◌≡◌, refl, ap}
use native.Mathlib.Omega.{arith}
use Rattle.fields.specs.declared.Field.{Field}
use Rattle.fields.specs.declared.Field.TheVariants as F
use Rattle.fields.specs.declared.Record.TheVariants.{Single}
use Rattle.fields.specs.Table.{table, rows, row_at, place_from, place_of, by_place, count_in, size_in}
use Rattle.fields.specs.Reading.{read_field, listed, listed_as, text_of}
use Rattle.fields.specs.Writing.{numbers_in, bits_in}
use Rattle.fields.proofs.Claims.{fields_mean}
use Rattle.field_items.specs.Items.{inner_of}
use Rattle.field_host.specs.Reading.{entries_of}
use Rattle.field_host.specs.Claims.{EntriesListed}
use Rattle.fields.specs.declared.Record.{Record}
use Rattle.refusals.specs.declared.FieldRefusal.{FieldRefusal}

module _ (n : ℕ) where
  -- of a record with so many bits
  counted : (f : Field) → n ≡ bits_in (Single f) → entries_of (inner_of (Single f)) n ≡ by_place 0 (λ i. listed i (numbers_in (Single f))) (place_of (inner_of (Single f)))
  unfolding bits_in size_in count_in listed_as row_at place_from rows table
  counted (F.TacticalUplink a b c d e) h = refl
  counted (F.ElmUplink a b c d f) h = refl
  counted (F.DownlinkRequest a b c d e) h = refl
  counted (F.IdRequest a b) h = refl
  counted (F.CapabilityRequest a b) h = refl
  counted (F.Cancellation a b c d) h = refl
  counted (F.Test a) h = refl
  counted (F.AltimeterCorrection b) h = omega arith
  counted (F.AtcFailure a) h = refl
  counted (F.SensorFailure a c) h = refl
  counted (F.DabsControlState a b c) h = omega arith
  counted (F.AtcrbsControlState a b) h = omega arith
  counted (F.RejectionNotice a b c) h = refl
  counted (F.DeliveryNotice a b c) h = refl
  counted (F.TacticalDownlink a b) h = refl
  counted (F.ElmDownlink a c) h = refl
  counted (F.Utility a c) h = refl
  counted (F.Capability a b c d) h = refl
  counted (F.IdCode a c) h = refl
  counted (F.TestResponse a) h = refl
  counted (F.ControllerAlert a b c d e f g h i j) k = refl

pub entries_listed : EntriesListed
unfolding read_field
entries_listed s n w f b e =
    let r : read_field s n w ≡ record { answer = Ok (Single f); list = (read_field s n w).list } = ap (λ (a : Result Record FieldRefusal). record { answer = a; list = (read_field s n w).list }) e in
    counted n f ((fields_mean s n w (Single f) (read_field s n w).list (text_of s n w) b).0 (r, refl)).1
