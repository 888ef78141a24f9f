-- The items of a report by which a C program asks for a field, and the number of each. The document gives none: these are ours, and none is
-- ever used for another item. Definitions only.
use Rattle.std.specs.Prelude.{ℕ, Bool, cond, List, [], ◌∷◌, eqb, ℤ, pos, None, Option, Some}
use Rattle.reports.specs.declared.Height.{Height}
use Rattle.reports.specs.declared.Height.TheVariants as H
use Rattle.reports.specs.declared.Report.{Report}
use Rattle.reports.specs.declared.Report.TheVariants as R

-- an item's number, and its value
abbrev pub Entry : Type 0
Entry = ℕ × ℤ

-- a flag is 0 or 1, and a count is itself
abbrev pub flag : ℕ → Bool → Entry
flag n b = (n, pos (cond b 1 0))

abbrev pub count : ℕ → ℕ → Entry
count n k = (n, pos k)

-- ---- the numbers

abbrev pub test : ℕ
test = 1

abbrev pub faa : ℕ
faa = 2

abbrev pub af : ℕ
af = 3

abbrev pub range : ℕ
range = 4

abbrev pub azimuth : ℕ
azimuth = 5

abbrev pub time : ℕ
time = 6

abbrev pub run : ℕ
run = 7

abbrev pub aims : ℕ
aims = 8

abbrev pub aims_code : ℕ
aims_code = 9

abbrev pub variation : ℕ
variation = 10

abbrev pub start : ℕ
start = 11

abbrev pub stop : ℕ
stop = 12

abbrev pub second : ℕ
second = 13

abbrev pub third : ℕ
third = 14

abbrev pub fourth : ℕ
fourth = 15

abbrev pub primary : ℕ
primary = 16

abbrev pub mode3a : ℕ
mode3a = 17

abbrev pub mode_c_of : ℕ
mode_c_of = 18

abbrev pub spi : ℕ
spi = 19

abbrev pub reinforced : ℕ
reinforced = 20

abbrev pub code7700 : ℕ
code7700 = 21

abbrev pub code7600 : ℕ
code7600 = 22

abbrev pub alert : ℕ
alert = 23

abbrev pub relay : ℕ
relay = 24

abbrev pub address : ℕ
address = 25

abbrev pub confidence : ℕ
confidence = 26

abbrev pub transition : ℕ
transition = 27

abbrev pub false_target_flag : ℕ
false_target_flag = 28

abbrev pub code : ℕ
code = 29

abbrev pub file : ℕ
file = 30

abbrev pub altitude : ℕ
altitude = 31

abbrev pub carried : ℕ
carried = 32

abbrev pub quality : ℕ
quality = 33

abbrev pub doppler1 : ℕ
doppler1 = 34

abbrev pub doppler2 : ℕ
doppler2 = 35

abbrev pub ground_traffic : ℕ
ground_traffic = 36

-- the greatest of them: they are numbered from 1 on, without a gap
abbrev pub last : ℕ
last = ground_traffic

-- ---- the items of each kind

abbrev pub height_items : Height → List Entry
height_items (H.Altitude z) = (altitude, z) ∷ []
height_items (H.Carried n) = count carried n ∷ []
height_items (H.Cd m n) = flag mode_c_of m ∷ count run n.0 ∷ []
height_items (H.Mtd m n) = flag mode_c_of m ∷ count quality n ∷ []
height_items (H.Rdas m n) = flag mode_c_of m ∷ count quality n ∷ []

abbrev pub items_of : Report → List Entry
items_of (R.Search s) = flag test s.test ∷ flag faa s.faa ∷ flag af s.af ∷ count range s.range.0 ∷ count azimuth s.azimuth.0 ∷ flag aims s.aims ∷ count aims_code s.code ∷ count run s.run.0 ∷ count time s.time.0 ∷ []
items_of (R.Strobe s) = flag test s.test ∷ flag faa s.faa ∷ flag af s.af ∷ count range s.range.0 ∷ count azimuth s.azimuth.0 ∷ count run s.run.0 ∷ count time s.time.0 ∷ []
items_of (R.Map m) = flag test m.test ∷ count variation m.variation ∷ flag faa m.faa ∷ flag af m.af ∷ count start m.start.0 ∷ count azimuth m.azimuth.0 ∷ count stop m.stop.0 ∷ []
items_of (R.Status s) = flag test s.test ∷ flag faa s.faa ∷ flag af s.af ∷ count second s.second ∷ count third s.third ∷ count fourth s.fourth ∷ []
items_of (R.Rtqc s) = flag faa s.faa ∷ flag af s.af ∷ count range s.range.0 ∷ count azimuth s.azimuth.0 ∷ count run s.run.0 ∷ count time s.time.0 ∷ []
items_of (R.Dabs d) = flag test d.test ∷ flag primary d.primary ∷ flag spi d.spi ∷ flag reinforced d.reinforced ∷ flag code7700 d.code7700 ∷ flag code7600 d.code7600 ∷ flag faa d.faa ∷ count range d.range.0 ∷ count azimuth d.azimuth.0 ∷ flag alert d.alert ∷ flag relay d.relay ∷ count time d.time.0 ∷ count address d.address ∷ height_items d.height
items_of (R.Atcrbs a) = flag test a.test ∷ flag mode3a a.mode3a ∷ flag spi a.spi ∷ flag reinforced a.reinforced ∷ flag code7700 a.code7700 ∷ flag code7600 a.code7600 ∷ flag faa a.faa ∷ count range a.range.0 ∷ count azimuth a.azimuth.0 ∷ flag confidence a.confidence ∷ flag transition a.transition ∷ flag false_target_flag a.false_target ∷ flag relay a.relay ∷ count time a.time.0 ∷ count code a.code ∷ count file a.file ∷ height_items a.height
items_of (R.Mtd m) = flag test m.test ∷ flag faa m.faa ∷ count range m.range.0 ∷ count azimuth m.azimuth.0 ∷ flag aims m.aims ∷ count time m.time.0 ∷ count doppler1 m.doppler1 ∷ count doppler2 m.doppler2 ∷ count file m.file ∷ count quality m.quality ∷ count confidence m.confidence ∷ flag false_target_flag m.false_target ∷ flag ground_traffic m.ground_traffic ∷ []
items_of (R.Rdas x) = flag test x.test ∷ flag faa x.faa ∷ count range x.range.0 ∷ count azimuth x.azimuth.0 ∷ flag aims x.aims ∷ count time x.time.0 ∷ count file x.file ∷ count quality x.quality ∷ flag false_target_flag x.false_target ∷ []

-- the value of an item, where the list has it
abbrev pub lookup : ℕ → List Entry → Option ℤ
lookup n [] = None
lookup n (e ∷ es) = cond (eqb n e.0) (Some e.1) (lookup n es)

abbrev pub item_of : Report → ℕ → Option ℤ
item_of r n = lookup n (items_of r)

-- ---- an item as one number

-- 1 where there is a value
abbrev pub is_of : Option ℤ → ℕ
is_of (Some z) = 1
is_of None = 0

-- 0 where there is none
abbrev pub value_of : Option ℤ → ℤ
value_of (Some z) = z
value_of None = pos 0
