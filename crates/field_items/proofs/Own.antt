-- What a record's own items say of each record: which place its type has, and that what is made of the items is the record. By cases of the
-- record, each of which antt computes. Assumes nothing.
use Rattle.std.specs.Prelude.{None, Some}
use Prim.Native.Nat.{ℕ, ◌+◌, ◌-◌, ◌≤◌}
use mathlib.Core.Path.{◌≡◌, refl, ◌∙◌}
use mathlib.Core.List.{List}
use mathlib.Core.Bool.{◌&&◌}
use native.Mathlib.Omega.{arith}
use lib.Dec.{T, leb, leb→le}
use lib.ListN.{get_or}
use borrow.Author.Tests.{le-leb}
use Rattle.pairs.specs.Pairs.{Pair, find_in, gathered_from}
use Rattle.pairs.proofs.Laws.{each_at}
use Rattle.fields.specs.declared.Field.{Field}
use Rattle.fields.specs.declared.Field.TheVariants as F
use Rattle.fields.specs.Table.{table, rows, place_from, place_of}
use Rattle.fields.specs.Records.{field_at, numbers_of}
use Rattle.fields.proofs.Rows.{both_left, both_right}
use Rattle.field_items.specs.Items.{item_table, items_at, pairs_by, items_of_field}
use Rattle.field_items.specs.Given.{found_in, field_given}
use Rattle.field_items.specs.Claims.{ItemsByName}

-- the place of a field's type
abbrev pub place_no : Field → ℕ
place_no (F.TacticalUplink a b c d e) = 0
place_no (F.ElmUplink a b c d f) = 1
place_no (F.DownlinkRequest a b c d e) = 2
place_no (F.IdRequest a b) = 3
place_no (F.CapabilityRequest a b) = 4
place_no (F.Cancellation a b c d) = 5
place_no (F.Test a) = 6
place_no (F.AltimeterCorrection b) = 7
place_no (F.AtcFailure a) = 8
place_no (F.SensorFailure a c) = 9
place_no (F.DabsControlState a b c) = 10
place_no (F.AtcrbsControlState a b) = 11
place_no (F.RejectionNotice a b c) = 12
place_no (F.DeliveryNotice a b c) = 13
place_no (F.TacticalDownlink a b) = 14
place_no (F.ElmDownlink a c) = 15
place_no (F.Utility a c) = 16
place_no (F.Capability a b c d) = 17
place_no (F.IdCode a c) = 18
place_no (F.TestResponse a) = 19
place_no (F.ControllerAlert a b c d e f g h i j) = 20

pub place-of : (f : Field) → place_of (get_or (numbers_of f) 0 0) ≡ Some (place_no f)
unfolding place_from rows table
place-of (F.TacticalUplink a b c d e) = refl
place-of (F.ElmUplink a b c d f) = refl
place-of (F.DownlinkRequest a b c d e) = refl
place-of (F.IdRequest a b) = refl
place-of (F.CapabilityRequest a b) = refl
place-of (F.Cancellation a b c d) = refl
place-of (F.Test a) = refl
place-of (F.AltimeterCorrection b) = refl
place-of (F.AtcFailure a) = refl
place-of (F.SensorFailure a c) = refl
place-of (F.DabsControlState a b c) = refl
place-of (F.AtcrbsControlState a b) = refl
place-of (F.RejectionNotice a b c) = refl
place-of (F.DeliveryNotice a b c) = refl
place-of (F.TacticalDownlink a b) = refl
place-of (F.ElmDownlink a c) = refl
place-of (F.Utility a c) = refl
place-of (F.Capability a b c d) = refl
place-of (F.IdCode a c) = refl
place-of (F.TestResponse a) = refl
place-of (F.ControllerAlert a b c d e f g h i j) = refl

-- a field has no sensor
pub no_sensor : (f : Field) → find_in 237 (items_of_field f) ≡ None
unfolding find_in pairs_by items_of_field place_from rows table item_table items_at
no_sensor (F.TacticalUplink a b c d e) = refl
no_sensor (F.ElmUplink a b c d f) = refl
no_sensor (F.DownlinkRequest a b c d e) = refl
no_sensor (F.IdRequest a b) = refl
no_sensor (F.CapabilityRequest a b) = refl
no_sensor (F.Cancellation a b c d) = refl
no_sensor (F.Test a) = refl
no_sensor (F.AltimeterCorrection b) = refl
no_sensor (F.AtcFailure a) = refl
no_sensor (F.SensorFailure a c) = refl
no_sensor (F.DabsControlState a b c) = refl
no_sensor (F.AtcrbsControlState a b) = refl
no_sensor (F.RejectionNotice a b c) = refl
no_sensor (F.DeliveryNotice a b c) = refl
no_sensor (F.TacticalDownlink a b) = refl
no_sensor (F.ElmDownlink a c) = refl
no_sensor (F.Utility a c) = refl
no_sensor (F.Capability a b c d) = refl
no_sensor (F.IdCode a c) = refl
no_sensor (F.TestResponse a) = refl
no_sensor (F.ControllerAlert a b c d e f g h i j) = refl

-- what is gathered says of an item what the pairs say
pub found_of : (ps : List Pair) (n : ℕ) → 201 ≤ n → n ≤ 237 → found_in (gathered_from 201 ps) n ≡ find_in n ps
unfolding found_in gathered_from
found_of ps n l h =
    let e : 201 + (n - 201) ≡ n = omega arith in
    rw (le-leb 201 n l, each_at (λ x. x) 201 37 (n - 201) None ps (omega arith), e) refl

-- such an item, where it is not the sensor
says : (f : Field) (ps : List Pair) → ((n : ℕ) → (n ≡ 237 → ⊥) → find_in n ps ≡ find_in n (items_of_field f)) → (n : ℕ) → T (leb 201 n && leb n 236)
    → found_in (gathered_from 201 ps) n ≡ find_in n (items_of_field f)
says f ps h n t =
    let l = leb→le 201 n (both_left (leb 201 n) (leb n 236) t) in
    let m = leb→le n 236 (both_right (leb 201 n) (leb n 236) t) in
    found_of ps n l (omega arith) ∙ h n (λ e. omega arith)

-- pairs that say of each item but the sensor what the field says make the field
pub made : (f : Field) (ps : List Pair) → ((n : ℕ) → (n ≡ 237 → ⊥) → find_in n ps ≡ find_in n (items_of_field f)) → field_given (gathered_from 201 ps) (place_no f) ≡ f
unfolding field_given field_at find_in pairs_by items_of_field place_from rows table item_table items_at
made (F.TacticalUplink a b c d e) ps q = rw (says (F.TacticalUplink a b c d e) ps q 201 tt, says (F.TacticalUplink a b c d e) ps q 202 tt, says (F.TacticalUplink a b c d e) ps q 203 tt, says (F.TacticalUplink a b c d e) ps q 204 tt, says (F.TacticalUplink a b c d e) ps q 205 tt) refl
made (F.ElmUplink a b c d f) ps q = rw (says (F.ElmUplink a b c d f) ps q 201 tt, says (F.ElmUplink a b c d f) ps q 202 tt, says (F.ElmUplink a b c d f) ps q 203 tt, says (F.ElmUplink a b c d f) ps q 204 tt, says (F.ElmUplink a b c d f) ps q 206 tt) refl
made (F.DownlinkRequest a b c d e) ps q = rw (says (F.DownlinkRequest a b c d e) ps q 201 tt, says (F.DownlinkRequest a b c d e) ps q 202 tt, says (F.DownlinkRequest a b c d e) ps q 203 tt, says (F.DownlinkRequest a b c d e) ps q 204 tt, says (F.DownlinkRequest a b c d e) ps q 207 tt) refl
made (F.IdRequest a b) ps q = rw (says (F.IdRequest a b) ps q 201 tt, says (F.IdRequest a b) ps q 202 tt) refl
made (F.CapabilityRequest a b) ps q = rw (says (F.CapabilityRequest a b) ps q 201 tt, says (F.CapabilityRequest a b) ps q 202 tt) refl
made (F.Cancellation a b c d) ps q = rw (says (F.Cancellation a b c d) ps q 201 tt, says (F.Cancellation a b c d) ps q 202 tt, says (F.Cancellation a b c d) ps q 208 tt, says (F.Cancellation a b c d) ps q 209 tt) refl
made (F.Test a) ps q = rw (says (F.Test a) ps q 210 tt) refl
made (F.AltimeterCorrection b) ps q = rw (says (F.AltimeterCorrection b) ps q 211 tt) refl
made (F.AtcFailure a) ps q = rw (says (F.AtcFailure a) ps q 212 tt) refl
made (F.SensorFailure a c) ps q = rw (says (F.SensorFailure a c) ps q 213 tt, says (F.SensorFailure a c) ps q 214 tt) refl
made (F.DabsControlState a b c) ps q = rw (says (F.DabsControlState a b c) ps q 215 tt, says (F.DabsControlState a b c) ps q 216 tt, says (F.DabsControlState a b c) ps q 217 tt) refl
made (F.AtcrbsControlState a b) ps q = rw (says (F.AtcrbsControlState a b) ps q 218 tt, says (F.AtcrbsControlState a b) ps q 219 tt) refl
made (F.RejectionNotice a b c) ps q = rw (says (F.RejectionNotice a b c) ps q 201 tt, says (F.RejectionNotice a b c) ps q 208 tt, says (F.RejectionNotice a b c) ps q 220 tt) refl
made (F.DeliveryNotice a b c) ps q = rw (says (F.DeliveryNotice a b c) ps q 201 tt, says (F.DeliveryNotice a b c) ps q 208 tt, says (F.DeliveryNotice a b c) ps q 221 tt) refl
made (F.TacticalDownlink a b) ps q = rw (says (F.TacticalDownlink a b) ps q 201 tt, says (F.TacticalDownlink a b) ps q 205 tt) refl
made (F.ElmDownlink a c) ps q = rw (says (F.ElmDownlink a c) ps q 201 tt, says (F.ElmDownlink a c) ps q 206 tt) refl
made (F.Utility a c) ps q = rw (says (F.Utility a c) ps q 201 tt, says (F.Utility a c) ps q 222 tt) refl
made (F.Capability a b c d) ps q = rw (says (F.Capability a b c d) ps q 201 tt, says (F.Capability a b c d) ps q 223 tt, says (F.Capability a b c d) ps q 224 tt, says (F.Capability a b c d) ps q 225 tt) refl
made (F.IdCode a c) ps q = rw (says (F.IdCode a c) ps q 201 tt, says (F.IdCode a c) ps q 226 tt) refl
made (F.TestResponse a) ps q = rw (says (F.TestResponse a) ps q 210 tt) refl
made (F.ControllerAlert a b c d e f g h i j) ps q = rw (says (F.ControllerAlert a b c d e f g h i j) ps q 227 tt, says (F.ControllerAlert a b c d e f g h i j) ps q 228 tt, says (F.ControllerAlert a b c d e f g h i j) ps q 229 tt, says (F.ControllerAlert a b c d e f g h i j) ps q 230 tt, says (F.ControllerAlert a b c d e f g h i j) ps q 231 tt, says (F.ControllerAlert a b c d e f g h i j) ps q 232 tt, says (F.ControllerAlert a b c d e f g h i j) ps q 233 tt, says (F.ControllerAlert a b c d e f g h i j) ps q 234 tt, says (F.ControllerAlert a b c d e f g h i j) ps q 235 tt, says (F.ControllerAlert a b c d e f g h i j) ps q 236 tt) refl

-- the items by name
pub by_name : ItemsByName
unfolding find_in pairs_by items_of_field place_from rows table item_table items_at
by_name (F.TacticalUplink a b c d e) = refl
by_name (F.ElmUplink a b c d e) = refl
by_name (F.DownlinkRequest a b c d e) = refl
by_name (F.IdRequest a b) = refl
by_name (F.CapabilityRequest a b) = refl
by_name (F.Cancellation a b c d) = refl
by_name (F.Test a) = refl
by_name (F.AltimeterCorrection a) = refl
by_name (F.AtcFailure a) = refl
by_name (F.SensorFailure a b) = refl
by_name (F.DabsControlState a b c) = refl
by_name (F.AtcrbsControlState a b) = refl
by_name (F.RejectionNotice a b c) = refl
by_name (F.DeliveryNotice a b c) = refl
by_name (F.TacticalDownlink a b) = refl
by_name (F.ElmDownlink a b) = refl
by_name (F.Utility a b) = refl
by_name (F.Capability a b c d) = refl
by_name (F.IdCode a b) = refl
by_name (F.TestResponse a) = refl
by_name (F.ControllerAlert a b c d e f g h i j) = refl
