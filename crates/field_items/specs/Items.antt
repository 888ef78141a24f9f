-- The items of a link data field by which a C program asks for a part and gives one, and the number of each. The document gives none: these
-- are ours, and none is ever used for another item. Definitions only.
use Rattle.std.specs.Prelude.{ℕ, ◌+◌, cond, List, [], ◌∷◌, ◌++◌, eqb, get_or, take, replicate, Option}
use Rattle.pairs.specs.Pairs.{Pair, find_in}
use Rattle.fields.specs.declared.Field.{Field}
use Rattle.fields.specs.declared.Record.{Record}
use Rattle.fields.specs.declared.Record.TheVariants.{Single, Relay}
use Rattle.fields.specs.Table.{place_of, by_place}
use Rattle.fields.specs.Records.{numbers_of}
use Rattle.fields.specs.Writing.{numbers_in}

-- ---- the numbers

abbrev pub address : ℕ
address = 201

abbrev pub number : ℕ
number = 202

abbrev pub priority : ℕ
priority = 203

abbrev pub exp : ℕ
exp = 204

abbrev pub text : ℕ
text = 205

abbrev pub length : ℕ
length = 206

abbrev pub msrc : ℕ
msrc = 207

abbrev pub referenced : ℕ
referenced = 208

abbrev pub referenced_type : ℕ
referenced_type = 209

abbrev pub pattern : ℕ
pattern = 210

abbrev pub n : ℕ
n = 211

abbrev pub state : ℕ
state = 212

abbrev pub sid : ℕ
sid = 213

abbrev pub sstat : ℕ
sstat = 214

abbrev pub ip : ℕ
ip = 215

abbrev pub is : ℕ
is = 216

abbrev pub iu : ℕ
iu = 217

abbrev pub ica : ℕ
ica = 218

abbrev pub iua : ℕ
iua = 219

abbrev pub qual : ℕ
qual = 220

abbrev pub di : ℕ
di = 221

abbrev pub um : ℕ
um = 222

abbrev pub ca : ℕ
ca = 223

abbrev pub aca : ℕ
aca = 224

abbrev pub eca : ℕ
eca = 225

abbrev pub code : ℕ
code = 226

abbrev pub acid1 : ℕ
acid1 = 227

abbrev pub acid2 : ℕ
acid2 = 228

abbrev pub cs1 : ℕ
cs1 = 229

abbrev pub advisory1 : ℕ
advisory1 = 230

abbrev pub del1 : ℕ
del1 = 231

abbrev pub cs2 : ℕ
cs2 = 232

abbrev pub advisory2 : ℕ
advisory2 = 233

abbrev pub del2 : ℕ
del2 = 234

abbrev pub v1 : ℕ
v1 = 235

abbrev pub v2 : ℕ
v2 = 236

abbrev pub sensor : ℕ
sensor = 237

-- ---- the items of each type

-- what each of the eleven parts is, the type code the first of them; 0: no item, as the type code itself, a spare and a part of no bits
abbrev parts : List ℕ → List ℕ
parts ks = take 11 (0 ∷ ks ++ replicate 10 0)

-- in the order of the table of types
unfoldable pub item_table : List (List ℕ)
item_table =
    -- 21 tactical
    parts (address ∷ number ∷ priority ∷ exp ∷ text ∷ [])
    -- 22 ELM; part 5 is spare
    ∷ parts (address ∷ number ∷ priority ∷ exp ∷ 0 ∷ length ∷ [])
    -- 23 request
    ∷ parts (address ∷ number ∷ priority ∷ exp ∷ msrc ∷ [])
    -- 24
    ∷ parts (address ∷ number ∷ [])
    -- 02
    ∷ parts (address ∷ number ∷ [])
    -- 25 cancellation
    ∷ parts (address ∷ number ∷ referenced ∷ referenced_type ∷ [])
    -- 61 test
    ∷ parts (pattern ∷ [])
    -- 9B altimeter; part 1 is spare
    ∷ parts (0 ∷ n ∷ [])
    -- 99
    ∷ parts (state ∷ [])
    -- 65 part 2 is spare
    ∷ parts (sid ∷ 0 ∷ sstat ∷ [])
    -- 9A
    ∷ parts (ip ∷ is ∷ iu ∷ [])
    -- 96
    ∷ parts (ica ∷ iua ∷ [])
    -- 31
    ∷ parts (address ∷ referenced ∷ qual ∷ [])
    -- 32
    ∷ parts (address ∷ referenced ∷ di ∷ [])
    -- 41 tactical
    ∷ parts (address ∷ text ∷ [])
    -- 42 ELM; part 2 is spare
    ∷ parts (address ∷ 0 ∷ length ∷ [])
    -- 43 part 2 is spare
    ∷ parts (address ∷ 0 ∷ um ∷ [])
    -- 44
    ∷ parts (address ∷ ca ∷ aca ∷ eca ∷ [])
    -- 45 part 2 is spare
    ∷ parts (address ∷ 0 ∷ code ∷ [])
    -- 62 test response
    ∷ parts (pattern ∷ [])
    -- 83 alert
    ∷ parts (acid1 ∷ acid2 ∷ cs1 ∷ advisory1 ∷ del1 ∷ cs2 ∷ advisory2 ∷ del2 ∷ v1 ∷ v2 ∷ [])
    -- 03 relay: its items are the sensor and those of the field inside, below
    ∷ parts []
    ∷ []

unfoldable pub items_at : ℕ → List ℕ
items_at i = get_or item_table i []

-- how many of these are items
unfoldable pub tally_of : List ℕ → ℕ
tally_of [] = 0
tally_of (k ∷ ks) = cond (eqb k 0) 0 1 + tally_of ks

-- ---- the items of a record, with their values

-- those of parts with these items and values
unfoldable pub pairs_by : List ℕ → List ℕ → List Pair
pairs_by [] vs = []
pairs_by (k ∷ ks) [] = []
pairs_by (k ∷ ks) (v ∷ vs) = cond (eqb k 0) (pairs_by ks vs) ((k, v) ∷ pairs_by ks vs)

-- a part's item is what stands at its place; every field's type has one
unfoldable pub items_of_field : Field → List Pair
items_of_field f = by_place [] (λ i. pairs_by (items_at i) (numbers_of f)) (place_of (get_or (numbers_of f) 0 0))

abbrev pub items_of : Record → List Pair
items_of (Single f) = items_of_field f
items_of (Relay x f) = (sensor, x) ∷ items_of_field f

-- the value of an item, where the record has it
abbrev pub item_of : Record → ℕ → Option ℕ
item_of r k = find_in k (items_of r)

-- the type that the items speak of: of a relay that of the field inside
abbrev pub inner_of : Record → ℕ
inner_of r = get_or (numbers_in r) 0 0
