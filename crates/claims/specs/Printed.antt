-- What a link data field's bits mean, by document 01's own bit numbers ("Link data fields"): a row for each type but the relay, held against
-- what the table of types, which goes by widths, says of its way, its length, its record, its spare bits and its values not in use. Definitions
-- only; proofs/Printed.antt proves the claims by computing them.
use Rattle.std.specs.Prelude.{ℕ, ◌+◌, ◌*◌, ◌%◌, ◌<◌, ◌≡◌, List, [], ◌∷◌, ◌++◌, map, Bool, false, not, ◌||◌, eqb, leb, pos, get_or}
use Rattle.bits.specs.Bits.{bits}
use Rattle.fields.specs.declared.Direction.{Direction}
use Rattle.fields.specs.declared.Direction.TheVariants.{ToSensor, FromSensor}
use Rattle.fields.specs.declared.Row as known
use Rattle.fields.specs.declared.Field.{Field}
use Rattle.fields.specs.declared.Field.TheVariants.{TacticalUplink, ElmUplink, DownlinkRequest, IdRequest, CapabilityRequest, Cancellation, Test, AltimeterCorrection, AtcFailure, SensorFailure, DabsControlState, AtcrbsControlState, RejectionNotice, DeliveryNotice, TacticalDownlink, ElmDownlink, Utility, Capability, IdCode, TestResponse, ControllerAlert}
use Rattle.fields.specs.Table.{rows, place_of, by_place, row_at, rules_at, has_fault, size_in}
use Rattle.fields.specs.Lists.{block_of}
use Rattle.fields.specs.Reading.{type_of, values_at, record_in, list_in, spare_bit_set}

-- a type, the way it travels, how many bits a field of it has, and its record
pub record PrintedType : Type 0 where
  pub code : ℕ
  pub way : Direction
  pub total : ℕ
  pub means : Field

abbrev to : ℕ → ℕ → Field → PrintedType
to c n f = record { code = c; way = ToSensor; total = n; means = f }

abbrev from : ℕ → ℕ → Field → PrintedType
from c n f = record { code = c; way = FromSensor; total = n; means = f }

-- every type, where `at a b` are the bits a to b of the field, as document 01 numbers them; a record's parts stand in the order of its
-- declaration
abbrev pub printed : (ℕ → ℕ → ℕ) → List PrintedType
printed at =
    -- to the sensor: 21 tactical (address 9-32, number 33-36, P 37, EXP 38-40, text 41-96) 96
    to 0x21 96 (TacticalUplink (at 9 32) (at 33 36) (at 37 37) (at 38 40) (at 41 96))
    -- 22 ELM (the same to 40, spare 41-44, Length 45-48, text) 48+80(L+1)
    ∷ to 0x22 (48 + 80 * (1 + at 45 48)) (ElmUplink (at 9 32) (at 33 36) (at 37 37) (at 38 40) (at 45 48))
    -- 23 request (to 40, MSRC 41-44, spare) 48
    ∷ to 0x23 48 (DownlinkRequest (at 9 32) (at 33 36) (at 37 37) (at 38 40) (at 41 44))
    -- 24 and 02 (address, number, spare) 40
    ∷ to 0x24 40 (IdRequest (at 9 32) (at 33 36))
    ∷ to 0x02 40 (CapabilityRequest (at 9 32) (at 33 36))
    -- 25 cancellation (address, number, referenced number 37-40, referenced type 41-48, any) 48
    ∷ to 0x25 48 (Cancellation (at 9 32) (at 33 36) (at 37 40) (at 41 48))
    -- 61 test 56
    ∷ to 0x61 56 (Test (at 9 56))
    -- 9B altimeter (spare 9-12, N 13-16, blocks) 16+8(N+1)
    ∷ to 0x9B (16 + 8 * (1 + at 13 16)) (AltimeterCorrection (at 13 16))
    -- 99 (state 9-10, spare) 16
    ∷ to 0x99 16 (AtcFailure (at 9 10))
    -- 65 (SID 9-12, spare, SSTAT 15-16, spare) 24
    ∷ to 0x65 24 (SensorFailure (at 9 12) (at 15 16))
    -- 9A (IP 9-11, IS 12-14, IU 15-16, addresses) 16+24(IP+IS+IU)
    ∷ to 0x9A (16 + 24 * (at 9 11 + at 12 14 + at 15 16)) (DabsControlState (at 9 11) (at 12 14) (at 15 16))
    -- 96 (ICA 9-12, IUA 13-16, identifiers) 16+24(ICA+IUA)
    ∷ to 0x96 (16 + 24 * (at 9 12 + at 13 16)) (AtcrbsControlState (at 9 12) (at 13 16))
    -- from the sensor: 31 (address, referenced number 33-36, QUAL 37-39, spare) 40
    ∷ from 0x31 40 (RejectionNotice (at 9 32) (at 33 36) (at 37 39))
    -- 32 (the same to 36, DI at 37, spare) 40
    ∷ from 0x32 40 (DeliveryNotice (at 9 32) (at 33 36) (at 37 37))
    -- 41 tactical (address, text) 88
    ∷ from 0x41 88 (TacticalDownlink (at 9 32) (at 33 88))
    -- 42 ELM (address, spare 33-36, Length 37-40, text) 40+80(L+1)
    ∷ from 0x42 (40 + 80 * (1 + at 37 40)) (ElmDownlink (at 9 32) (at 37 40))
    -- 43 (address, spare 33-34, UM) 40
    ∷ from 0x43 40 (Utility (at 9 32) (at 35 40))
    -- 44 (address, CA 33-35, ACA 36-41, ECA 42-93, spare) 96
    ∷ from 0x44 96 (Capability (at 9 32) (at 33 35) (at 36 41) (at 42 93))
    -- 45 (address, spare 33-36, code 37-48) 48
    ∷ from 0x45 48 (IdCode (at 9 32) (at 37 48))
    -- 62 test response 56
    ∷ from 0x62 56 (TestResponse (at 9 56))
    -- 83 alert (ACID 9-32 and 33-56, then twice CS 2, advisory 11, DEL 3, then V1, V2) 90
    ∷ from 0x83 90
    (ControllerAlert (at 9 32) (at 33 56) (at 57 58) (at 59 69) (at 70 72) (at 73 74) (at 75 85) (at 86 88) (at 89 89) (at 90 90))
    ∷ []

-- a field that begins behind the first so many bits and has the row's type: the way that the table has for it, the bits that it must have
-- and its record are the row's
abbrev way_at : List ℕ → ℕ → Direction
way_at s before = by_place ToSensor (λ i. (row_at i).way) (place_of (type_of s before))

abbrev total_at : List ℕ → ℕ → ℕ
total_at s before = by_place 0 (λ i. size_in (row_at i) (values_at s before i)) (place_of (type_of s before))

abbrev pub AllMeant : List ℕ → ℕ → List PrintedType → Type 0
AllMeant s before [] = Unit {0}
AllMeant s before (x ∷ rows) =
    (type_of s before ≡ x.code → (way_at s before ≡ x.way) × (total_at s before ≡ x.total) × (record_in s before ≡ x.means)) × AllMeant s before rows

-- a field alone, and one inside a relay, behind its type and sensor
abbrev pub AsPrinted : Type 0
AsPrinted = (s : List ℕ) → AllMeant s 0 (printed (λ a b. bits s a b)) × AllMeant s 16 (printed (λ a b. bits s (16 + a) (16 + b)))

-- and no other type has a row: those of the table are the printed ones, in their order, and the relay's
abbrev pub OnlyPrinted : Type 0
OnlyPrinted = map (λ (x : known.Row). x.code) rows ≡ map (λ (x : PrintedType). x.code) (printed (λ a b. 0)) ++ (0x03 ∷ [])

-- the list beside the record, entry k of it counted from 0: an altimeter block has 8 bits, an address or an identifier 24, and the first
-- stands at bit 17. (No type that is relayed has a list.)
pub record EntriesAsPrinted (s : List ℕ) (k : ℕ) : Type 0 where
  pub blocks : type_of s 0 ≡ 0x9B → k < 1 + bits s 13 16 → get_or (list_in s) k (pos 0) ≡ block_of (bits s (17 + 8 * k) (24 + 8 * k))
  pub addresses : type_of s 0 ≡ 0x9A → k < bits s 9 11 + bits s 12 14 + bits s 15 16
      → get_or (list_in s) k (pos 0) ≡ pos (bits s (17 + 24 * k) (40 + 24 * k))
  pub identifiers : type_of s 0 ≡ 0x96 → k < bits s 9 12 + bits s 13 16 → get_or (list_in s) k (pos 0) ≡ pos (bits s (17 + 24 * k) (40 + 24 * k))

-- ---- the rules: spare bits, and values not in use

-- a type, its spare bits, and of each value that may be one not in use whether it is
pub record Rule : Type 0 where
  pub code : ℕ
  pub spares : List ℕ
  pub unused : List Bool

abbrev rule : ℕ → List ℕ → List Bool → Rule
rule c xs bs = record { code = c; spares = xs; unused = bs }

abbrev is_zero : ℕ → Bool
is_zero x = eqb x 0

-- "Not in use: number, referenced number, EXP, state, SSTAT, ELM Length of 0; MSRC but 1; QUAL 5-7; DEL 6-7; advisory bits 9-11 of 111". Document
-- 02, Ticket 2, takes one away: "For type 42, Length 0 is one segment and accepted". What is not in use in an altimeter block is said in
-- fields/specs/Lists.antt
abbrev pub ruled : (ℕ → ℕ → ℕ) → List Rule
ruled at =
    -- 21: number, EXP
    rule 0x21 [] (is_zero (at 33 36) ∷ is_zero (at 38 40) ∷ [])
    -- 22: spare 41-44; number, EXP, Length
    ∷ rule 0x22 (at 41 44 ∷ []) (is_zero (at 33 36) ∷ is_zero (at 38 40) ∷ is_zero (at 45 48) ∷ [])
    -- 23: spare 45-48; number, EXP, MSRC
    ∷ rule 0x23 (at 45 48 ∷ []) (is_zero (at 33 36) ∷ is_zero (at 38 40) ∷ not (eqb (at 41 44) 1) ∷ [])
    -- 24 and 02: spare 37-40; number
    ∷ rule 0x24 (at 37 40 ∷ []) (is_zero (at 33 36) ∷ [])
    ∷ rule 0x02 (at 37 40 ∷ []) (is_zero (at 33 36) ∷ [])
    -- 25: number, referenced number
    ∷ rule 0x25 [] (is_zero (at 33 36) ∷ is_zero (at 37 40) ∷ [])
    -- 61
    ∷ rule 0x61 [] []
    -- 9B: spare 9-12
    ∷ rule 0x9B (at 9 12 ∷ []) []
    -- 99: spare 11-16; state
    ∷ rule 0x99 (at 11 16 ∷ []) (is_zero (at 9 10) ∷ [])
    -- 65: spare 13-14 and 17-24; SSTAT
    ∷ rule 0x65 (at 13 14 ∷ at 17 24 ∷ []) (is_zero (at 15 16) ∷ [])
    -- 9A and 96
    ∷ rule 0x9A [] []
    ∷ rule 0x96 [] []
    -- 31: spare 40; referenced number, QUAL
    ∷ rule 0x31 (at 40 40 ∷ []) (is_zero (at 33 36) ∷ not (leb (at 37 39) 4) ∷ [])
    -- 32: spare 38-40; referenced number
    ∷ rule 0x32 (at 38 40 ∷ []) (is_zero (at 33 36) ∷ [])
    -- 41
    ∷ rule 0x41 [] []
    -- 42: spare 33-36 (Length 0 is in use: one segment)
    ∷ rule 0x42 (at 33 36 ∷ []) []
    -- 43: spare 33-34
    ∷ rule 0x43 (at 33 34 ∷ []) []
    -- 44: spare 94-96
    ∷ rule 0x44 (at 94 96 ∷ []) []
    -- 45: spare 33-36
    ∷ rule 0x45 (at 33 36 ∷ []) []
    -- 62
    ∷ rule 0x62 [] []
    -- 83: the last three bits of each advisory, each DEL
    ∷ rule 0x83 [] (eqb (at 59 69 % 8) 7 ∷ not (leb (at 70 72) 5) ∷ eqb (at 75 85 % 8) 7 ∷ not (leb (at 86 88) 5) ∷ [])
    ∷ []

abbrev pub any_of : List Bool → Bool
any_of [] = false
any_of (b ∷ bs) = b || any_of bs

abbrev pub any_set : List ℕ → Bool
any_set [] = false
any_set (x ∷ xs) = not (eqb x 0) || any_set xs

-- a value of a part is not in use
abbrev unused_at : List ℕ → ℕ → Bool
unused_at s before = by_place false (λ i. has_fault 2 (rules_at i) (values_at s before i)) (place_of (type_of s before))

abbrev pub AllRuled : List ℕ → ℕ → List Rule → Type 0
AllRuled s before [] = Unit {0}
AllRuled s before (x ∷ rules) =
    (type_of s before ≡ x.code → (spare_bit_set s before ≡ any_set x.spares) × (unused_at s before ≡ any_of x.unused)) × AllRuled s before rules

-- every printed type has its rules
abbrev pub AllHaveRules : Type 0
AllHaveRules = map (λ (x : Rule). x.code) (ruled (λ a b. 0)) ≡ map (λ (x : PrintedType). x.code) (printed (λ a b. 0))

abbrev pub RulesAsPrinted : Type 0
RulesAsPrinted = (s : List ℕ) → AllRuled s 0 (ruled (λ a b. bits s a b)) × AllRuled s 16 (ruled (λ a b. bits s (16 + a) (16 + b)))
