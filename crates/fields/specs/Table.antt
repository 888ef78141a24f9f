-- The known types of link data fields (document 01, "Link data fields"; document 004, Table 5-1 and Figures 5-1 and 5-2): which way each
-- travels, how many bits it has, its parts in order, and what their values may be. Definitions only.
use Rattle.std.specs.Prelude.{◌≡◌, ℕ, ◌+◌, ◌*◌, ◌%◌, ◌<◌, ◌≤◌, Bool, false, cond, ◌||◌, List, [], ◌∷◌, ◌++◌, take, drop, replicate, ◌==◌, nat_le, slice_index, slice_index_or, None, Option, Some}
use Rattle.bits.specs.Bits.{bits_of}
use Rattle.fields.specs.declared.Direction.{Direction}
use Rattle.fields.specs.declared.Direction.TheVariants.{ToSensor, FromSensor}
use Rattle.fields.specs.declared.Row.{Row}
use Rattle.fields.specs.declared.Behind.{Behind}
use Rattle.fields.specs.declared.Behind.TheVariants.{Nothing, Text, Blocks, Numbers}

-- ---- a part, and the rule of its value

pub record Part : Type 0 where
  pub width : ℕ
  pub rule : ℕ

abbrev part : ℕ → ℕ → Part
part r w = record { width = w; rule = r }

-- a part of w bits: with any value; spare; "not in use: .. of 0"; "MSRC but 1"; "QUAL 5-7"; "DEL 6-7"; "advisory bits 9-11 of 111"
abbrev pub any : ℕ → Part
any = part 0

abbrev pub spare : ℕ → Part
spare = part 1

abbrev pub not_zero : ℕ → Part
not_zero = part 2

abbrev one : ℕ → Part
one = part 3

abbrev up_to4 : ℕ → Part
up_to4 = part 4

abbrev up_to5 : ℕ → Part
up_to5 = part 5

abbrev advisory : ℕ → Part
advisory = part 6

-- what is wrong with the value x of a part: 0 nothing, 1 a spare bit is one, 2 the value is not in use
abbrev pub fault_of : ℕ → ℕ → ℕ
fault_of r x =
    cond (r == 1) (cond (x == 0) 0 1)
    (cond (r == 2) (cond (x == 0) 2 0)
    (cond (r == 3) (cond (x == 1) 0 2)
    (cond (r == 4) (cond (nat_le x 4) 0 2) (cond (r == 5) (cond (nat_le x 5) 0 2) (cond (r == 6) (cond (x % 8 == 7) 2 0) 0)))))

-- ---- a type

-- a type's row, and its parts after the type code itself
pub record Known : Type 0 where
  pub row : Row
  pub parts : List Part

-- no part is counted; it has a name because specs/OneSegment.antt of `claims` names it
abbrev pub none : Option ℕ
none = None

-- base + step * (more + the values of the parts first, second and third) bits; part 0 is the type code
abbrev pub known : ℕ → Direction → ℕ → ℕ → ℕ → Option ℕ → Option ℕ → Option ℕ → List Part → Known
known c w b s m i j k ps =
    record { row = record { code = c; way = w; base = b; step = s; more = m; first = i; second = j; third = k }; parts = ps }

-- what stands behind the parts of a field, by the bits of each step
abbrev pub behind_of : Row → Behind
behind_of r = cond (r.step == 0) Nothing (cond (r.step == 80) Text (cond (r.step == 8) Blocks Numbers))

-- code, way, base, step, more, the counted parts; then the parts
unfoldable pub table : List Known
table =
    -- tactical: address 9-32, number 33-36, P 37, EXP 38-40, text 41-96; 96
    known 0x21 ToSensor 96 0 0 none none none (any 24 ∷ not_zero 4 ∷ any 1 ∷ not_zero 3 ∷ any 56 ∷ [])
    -- ELM: the same to 40, spare 41-44, Length 45-48 (0 is not in use: at least two segments), text; 48+80(L+1)
    ∷ known 0x22 ToSensor 48 80 1 (Some 6) none none (any 24 ∷ not_zero 4 ∷ any 1 ∷ not_zero 3 ∷ spare 4 ∷ not_zero 4 ∷ [])
    -- request: to 40, MSRC 41-44, spare; 48
    ∷ known 0x23 ToSensor 48 0 0 none none none (any 24 ∷ not_zero 4 ∷ any 1 ∷ not_zero 3 ∷ one 4 ∷ spare 4 ∷ [])
    -- 24 and 02: address, number, spare; 40
    ∷ known 0x24 ToSensor 40 0 0 none none none (any 24 ∷ not_zero 4 ∷ spare 4 ∷ [])
    ∷ known 0x02 ToSensor 40 0 0 none none none (any 24 ∷ not_zero 4 ∷ spare 4 ∷ [])
    -- cancellation: address, number, referenced number 37-40, referenced type 41-48, any; 48
    ∷ known 0x25 ToSensor 48 0 0 none none none (any 24 ∷ not_zero 4 ∷ not_zero 4 ∷ any 8 ∷ [])
    -- test; 56
    ∷ known 0x61 ToSensor 56 0 0 none none none (any 48 ∷ [])
    -- altimeter: spare 9-12, N 13-16, blocks; 16+8(N+1)
    ∷ known 0x9B ToSensor 16 8 1 (Some 2) none none (spare 4 ∷ any 4 ∷ [])
    -- state 9-10, spare; 16
    ∷ known 0x99 ToSensor 16 0 0 none none none (not_zero 2 ∷ spare 6 ∷ [])
    -- SID 9-12, spare, SSTAT 15-16, spare; 24
    ∷ known 0x65 ToSensor 24 0 0 none none none (any 4 ∷ spare 2 ∷ not_zero 2 ∷ spare 8 ∷ [])
    -- IP 9-11, IS 12-14, IU 15-16, addresses; 16+24(IP+IS+IU)
    ∷ known 0x9A ToSensor 16 24 0 (Some 1) (Some 2) (Some 3) (any 3 ∷ any 3 ∷ any 2 ∷ [])
    -- ICA 9-12, IUA 13-16, identifiers; 16+24(ICA+IUA)
    ∷ known 0x96 ToSensor 16 24 0 (Some 1) (Some 2) none (any 4 ∷ any 4 ∷ [])
    -- address, referenced number 33-36, QUAL 37-39, spare; 40
    ∷ known 0x31 FromSensor 40 0 0 none none none (any 24 ∷ not_zero 4 ∷ up_to4 3 ∷ spare 1 ∷ [])
    -- the same to 36, DI at 37, spare; 40
    ∷ known 0x32 FromSensor 40 0 0 none none none (any 24 ∷ not_zero 4 ∷ any 1 ∷ spare 3 ∷ [])
    -- tactical: address 9-32, text; 88
    ∷ known 0x41 FromSensor 88 0 0 none none none (any 24 ∷ any 56 ∷ [])
    -- ELM: address, spare 33-36, Length 37-40 (0 is in use: document 02, Ticket 2), text; 40+80(L+1)
    ∷ known 0x42 FromSensor 40 80 1 (Some 3) none none (any 24 ∷ spare 4 ∷ any 4 ∷ [])
    -- address, spare 33-34, UM; 40
    ∷ known 0x43 FromSensor 40 0 0 none none none (any 24 ∷ spare 2 ∷ any 6 ∷ [])
    -- address, CA 33-35, ACA 36-41, ECA 42-93, spare; 96
    ∷ known 0x44 FromSensor 96 0 0 none none none (any 24 ∷ any 3 ∷ any 6 ∷ any 52 ∷ spare 3 ∷ [])
    -- address, spare 33-36, code 37-48; 48
    ∷ known 0x45 FromSensor 48 0 0 none none none (any 24 ∷ spare 4 ∷ any 12 ∷ [])
    -- test response; 56
    ∷ known 0x62 FromSensor 56 0 0 none none none (any 48 ∷ [])
    -- alert: ACID 9-32 and 33-56, then twice CS 2, advisory 11, DEL 3, then V1, V2; 90
    ∷ known 0x83 FromSensor 90 0 0 none none none (any 24 ∷ any 24 ∷ any 2 ∷ advisory 11 ∷ up_to5 3 ∷ any 2 ∷ advisory 11 ∷ up_to5 3 ∷ any 1 ∷ any 1 ∷ [])
    -- relay: sensor 9-16, then a whole field; 16 more
    ∷ known 0x03 FromSensor 16 0 0 none none none (any 8 ∷ [])
    ∷ []

-- ---- the table, looked up

abbrev pub rows_of : List Known → List Row
rows_of [] = []
rows_of (k ∷ ks) = k.row ∷ rows_of ks

unfoldable pub rows : List Row
rows = rows_of table

-- the row at a place, and what stands for one past the end
abbrev pub no_row : Row
no_row = record { code = 0; way = ToSensor; base = 0; step = 0; more = 0; first = none; second = none; third = none }

unfoldable pub row_at : ℕ → Row
row_at i = slice_index_or rows i no_row

-- the place of the first row with that code, counted from i
unfoldable pub place_from : ℕ → List Row → ℕ → Option ℕ
place_from c [] i = None
place_from c (r ∷ rs) i = cond (r.code == c) (Some i) (place_from c rs (i + 1))

-- where a type stands in the table
abbrev pub place_of : ℕ → Option ℕ
place_of c = place_from c rows 0

-- x where a type has no row, else what f says of its place
abbrev pub by_place : {X : Type 0} → X → (ℕ → X) → Option ℕ → X
by_place x f None = x
by_place x f (Some i) = f i

-- ---- the parts of a type, the type code the first of them, and parts of no bits up to eleven

abbrev widths_of : List Part → List ℕ
widths_of [] = []
widths_of (p ∷ ps) = p.width ∷ widths_of ps

abbrev rules_of : List Part → List ℕ
rules_of [] = []
rules_of (p ∷ ps) = p.rule ∷ rules_of ps

abbrev eleven : List Part → List Part
eleven ps = take 11 (any 8 ∷ ps ++ replicate 10 (spare 0))

abbrev pub part_widths : List Known → List (List ℕ)
part_widths [] = []
part_widths (k ∷ ks) = widths_of (eleven k.parts) ∷ part_widths ks

abbrev pub part_rules : List Known → List (List ℕ)
part_rules [] = []
part_rules (k ∷ ks) = rules_of (eleven k.parts) ∷ part_rules ks

unfoldable pub widths : List (List ℕ)
widths = part_widths table

unfoldable pub rules : List (List ℕ)
rules = part_rules table

-- those of the type at a place; past the end eleven parts of no bits, with any value
abbrev pub no_parts : List ℕ
no_parts = replicate 11 0

unfoldable pub widths_at : ℕ → List ℕ
widths_at i = slice_index_or widths i no_parts

unfoldable pub rules_at : ℕ → List ℕ
rules_at i = slice_index_or rules i no_parts

-- ---- values

-- the values of parts of these widths, behind the first a bits
unfoldable pub values_of : List ℕ → ℕ → List ℕ → List ℕ
values_of s a [] = []
values_of s a (w ∷ ws) = bits_of s a w ∷ values_of s (a + w) ws

-- a part has the fault k: 1 a spare bit is one, 2 a value is not in use
unfoldable pub has_fault : ℕ → List ℕ → List ℕ → Bool
has_fault k [] vs = false
has_fault k (r ∷ rs) [] = false
has_fault k (r ∷ rs) (v ∷ vs) = fault_of r v == k || has_fault k rs vs

-- from a part of no bits on none is at fault
abbrev pub Quiet : List ℕ → List ℕ → List ℕ → Type 0
Quiet ws rs vs = (k : ℕ) → slice_index ws k ≡ 0 → (has_fault 1 (drop k rs) (drop k vs) ≡ false) × (has_fault 2 (drop k rs) (drop k vs) ≡ false)

-- what a counted part says: its value; 0 where there is none
abbrev pub counted : List ℕ → Option ℕ → ℕ
counted vs None = 0
counted vs (Some k) = slice_index vs k

-- how many steps a field of a row with these values has: L + 1, N + 1, IP + IS + IU, ICA + IUA, or none
unfoldable pub count_in : Row → List ℕ → ℕ
count_in r vs = r.more + counted vs r.first + counted vs r.second + counted vs r.third

-- the numbers are small: a row's own, and the values of its counted parts
pub record RowSmall (r : Row) (vs : List ℕ) : Type 0 where
  pub base : r.base ≤ 96
  pub step : r.step ≤ 80
  pub more : r.more ≤ 1
  pub first : counted vs r.first < 16
  pub second : counted vs r.second < 16
  pub third : counted vs r.third < 16

-- how many bits it has
unfoldable pub size_in : Row → List ℕ → ℕ
size_in r vs = r.base + r.step * count_in r vs
