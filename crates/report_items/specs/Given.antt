-- The report that a C program gives by a kind's number and items: a list of bytes, sixteen an item. The record is built from the items'
-- values, whatever they are, and is then held against the items: what is not exactly its own items is no record, and stands for one that
-- the writer refuses with number 11. Definitions only.
use Rattle.std.specs.Prelude.{ℕ, zero, suc, ◌-◌, ◌%◌, ◌^◌, Bool, true, false, cond, List, [], ◌∷◌, eqb, ltb, ℤ, pos, negsuc, length, get_or, None, Option, Some}
use Rattle.words.specs.Tests.{all}
use Rattle.pairs.specs.Pairs.{Pair, pairs_in, find_in, value_of, gathered_from}
use Rattle.reports.specs.declared.Search.{Search}
use Rattle.reports.specs.declared.Strobe.{Strobe}
use Rattle.reports.specs.declared.Map.{Map}
use Rattle.reports.specs.declared.Status.{Status}
use Rattle.reports.specs.declared.Rtqc.{Rtqc}
use Rattle.reports.specs.declared.Height.{Height}
use Rattle.reports.specs.declared.Height.TheVariants as H
use Rattle.reports.specs.declared.Dabs.{Dabs}
use Rattle.reports.specs.declared.Atcrbs.{Atcrbs}
use Rattle.reports.specs.declared.Mtd.{Mtd}
use Rattle.reports.specs.declared.Rdas.{Rdas}
use Rattle.reports.specs.declared.Report.{Report}
use Rattle.reports.specs.declared.Report.TheVariants as R
use Rattle.reports.specs.declared.kinds.Kind.TheVariants as K
use Rattle.reports.specs.Kinds.{kind_number}
use Rattle.report_items.specs.Items as N
use Rattle.report_items.specs.Items.{items_of, item_of}

-- ---- what the pairs say

-- two's complement of 64 bits: the number that v stands for where it lies from -h to h - 1, else 0
unfoldable pub as_signed : ℕ → ℕ → ℤ
as_signed h v = cond (ltb v h) (pos v) (cond (ltb (2 ^ 64 - 1 - v) h) (negsuc (2 ^ 64 - 1 - v)) (pos 0))

abbrev pub item_of_pairs : Option ℕ → Option ℤ
item_of_pairs (Some v) = Some (as_signed (2 ^ 63) v)
item_of_pairs None = None

-- what is given for an item's number
unfoldable pub item_given : List Pair → ℕ → Option ℤ
item_given ps n = item_of_pairs (find_in n ps)

-- the same of what is gathered for the numbers from 0 on
unfoldable pub item_gathered : List (Option ℕ) → ℕ → Option ℤ
item_gathered t n = item_of_pairs (get_or t n None)

-- ---- the record that values make: nothing is tested here

abbrev pub flag_of : List (Option ℕ) → ℕ → Bool
flag_of v n = eqb (value_of (get_or v n None)) 1

-- of so many bits
abbrev pub count_of : ℕ → List (Option ℕ) → ℕ → ℕ
count_of k v n = value_of (get_or v n None) % 2 ^ k

abbrev pub search_given : List (Option ℕ) → Search
search_given v = record {
  test = flag_of v N.test;
  faa = flag_of v N.faa;
  af = flag_of v N.af;
  range = record { 0 = count_of 16 v N.range };
  azimuth = record { 0 = count_of 16 v N.azimuth };
  aims = flag_of v N.aims;
  code = count_of 8 v N.aims_code;
  run = record { 0 = count_of 8 v N.run };
  time = record { 0 = count_of 8 v N.time };
}

abbrev pub strobe_given : List (Option ℕ) → Strobe
strobe_given v = record {
  test = flag_of v N.test;
  faa = flag_of v N.faa;
  af = flag_of v N.af;
  range = record { 0 = count_of 16 v N.range };
  azimuth = record { 0 = count_of 16 v N.azimuth };
  run = record { 0 = count_of 8 v N.run };
  time = record { 0 = count_of 8 v N.time };
}

abbrev pub map_given : List (Option ℕ) → Map
map_given v = record {
  test = flag_of v N.test;
  variation = count_of 8 v N.variation;
  faa = flag_of v N.faa;
  af = flag_of v N.af;
  start = record { 0 = count_of 16 v N.start };
  azimuth = record { 0 = count_of 16 v N.azimuth };
  stop = record { 0 = count_of 16 v N.stop };
}

abbrev pub status_given : List (Option ℕ) → Status
status_given v = record {
  test = flag_of v N.test;
  faa = flag_of v N.faa;
  af = flag_of v N.af;
  second = count_of 16 v N.second;
  third = count_of 16 v N.third;
  fourth = count_of 16 v N.fourth;
}

abbrev pub rtqc_given : List (Option ℕ) → Rtqc
rtqc_given v = record {
  faa = flag_of v N.faa;
  af = flag_of v N.af;
  range = record { 0 = count_of 16 v N.range };
  azimuth = record { 0 = count_of 16 v N.azimuth };
  run = record { 0 = count_of 8 v N.run };
  time = record { 0 = count_of 8 v N.time };
}

-- bits 79 to 90 without another radar's data: an altitude, if there is one among the items, else twelve carried bits
abbrev pub plain_by : Option ℕ → ℕ → Height
plain_by (Some altitude) carried = H.Altitude (as_signed (2 ^ 15) altitude)
plain_by None carried = H.Carried carried

abbrev pub plain_given : List (Option ℕ) → Height
plain_given v = plain_by (get_or v N.altitude None) (count_of 16 v N.carried)

abbrev pub cd_given : List (Option ℕ) → Height
cd_given v = H.Cd (flag_of v N.mode_c_of) (record { 0 = count_of 8 v N.run })

abbrev pub mtd_height_given : List (Option ℕ) → Height
mtd_height_given v = H.Mtd (flag_of v N.mode_c_of) (count_of 8 v N.quality)

abbrev pub rdas_height_given : List (Option ℕ) → Height
rdas_height_given v = H.Rdas (flag_of v N.mode_c_of) (count_of 8 v N.quality)

abbrev pub dabs_given : List (Option ℕ) → Height → Dabs
dabs_given v h = record {
  test = flag_of v N.test;
  primary = flag_of v N.primary;
  spi = flag_of v N.spi;
  reinforced = flag_of v N.reinforced;
  code7700 = flag_of v N.code7700;
  code7600 = flag_of v N.code7600;
  faa = flag_of v N.faa;
  range = record { 0 = count_of 16 v N.range };
  azimuth = record { 0 = count_of 16 v N.azimuth };
  alert = flag_of v N.alert;
  relay = flag_of v N.relay;
  time = record { 0 = count_of 8 v N.time };
  address = count_of 32 v N.address;
  height = h;
}

abbrev pub atcrbs_given : List (Option ℕ) → Height → Atcrbs
atcrbs_given v h = record {
  test = flag_of v N.test;
  mode3a = flag_of v N.mode3a;
  spi = flag_of v N.spi;
  reinforced = flag_of v N.reinforced;
  code7700 = flag_of v N.code7700;
  code7600 = flag_of v N.code7600;
  faa = flag_of v N.faa;
  range = record { 0 = count_of 16 v N.range };
  azimuth = record { 0 = count_of 16 v N.azimuth };
  confidence = flag_of v N.confidence;
  transition = flag_of v N.transition;
  false_target = flag_of v N.false_target_flag;
  relay = flag_of v N.relay;
  time = record { 0 = count_of 8 v N.time };
  code = count_of 16 v N.code;
  file = count_of 16 v N.file;
  height = h;
}

abbrev pub mtd_given : List (Option ℕ) → Mtd
mtd_given v = record {
  test = flag_of v N.test;
  faa = flag_of v N.faa;
  range = record { 0 = count_of 16 v N.range };
  azimuth = record { 0 = count_of 16 v N.azimuth };
  aims = flag_of v N.aims;
  time = record { 0 = count_of 8 v N.time };
  doppler1 = count_of 8 v N.doppler1;
  doppler2 = count_of 8 v N.doppler2;
  file = count_of 16 v N.file;
  quality = count_of 8 v N.quality;
  confidence = count_of 8 v N.confidence;
  false_target = flag_of v N.false_target_flag;
  ground_traffic = flag_of v N.ground_traffic;
}

abbrev pub rdas_given : List (Option ℕ) → Rdas
rdas_given v = record {
  test = flag_of v N.test;
  faa = flag_of v N.faa;
  range = record { 0 = count_of 16 v N.range };
  azimuth = record { 0 = count_of 16 v N.azimuth };
  aims = flag_of v N.aims;
  time = record { 0 = count_of 8 v N.time };
  file = count_of 16 v N.file;
  quality = count_of 8 v N.quality;
  false_target = flag_of v N.false_target_flag;
}

-- no record: the second word of a Status has twelve bits, and 65535 takes sixteen
abbrev pub unfit : Report
unfit = R.Status record { test = false; faa = false; af = false; second = 65535; third = 0; fourth = 0 }

-- by the kind's number; a number that is no kind's stands for no record
unfoldable pub built : ℕ → List (Option ℕ) → Report
built kind v =
    cond (eqb kind (kind_number K.Search)) (R.Search (search_given v))
    (cond (eqb kind (kind_number K.Strobe)) (R.Strobe (strobe_given v))
    (cond (eqb kind (kind_number K.Map)) (R.Map (map_given v))
    (cond (eqb kind (kind_number K.Status)) (R.Status (status_given v))
    (cond (eqb kind (kind_number K.Rtqc)) (R.Rtqc (rtqc_given v))
    (cond (eqb kind (kind_number K.Dabs)) (R.Dabs (dabs_given v (plain_given v)))
    (cond (eqb kind (kind_number K.DabsCd)) (R.Dabs (dabs_given v (cd_given v)))
    (cond (eqb kind (kind_number K.DabsMtd)) (R.Dabs (dabs_given v (mtd_height_given v)))
    (cond (eqb kind (kind_number K.DabsRdas)) (R.Dabs (dabs_given v (rdas_height_given v)))
    (cond (eqb kind (kind_number K.Atcrbs)) (R.Atcrbs (atcrbs_given v (plain_given v)))
    (cond (eqb kind (kind_number K.AtcrbsCd)) (R.Atcrbs (atcrbs_given v (cd_given v)))
    (cond (eqb kind (kind_number K.AtcrbsMtd)) (R.Atcrbs (atcrbs_given v (mtd_height_given v)))
    (cond (eqb kind (kind_number K.AtcrbsRdas)) (R.Atcrbs (atcrbs_given v (rdas_height_given v)))
    (cond (eqb kind (kind_number K.Mtd)) (R.Mtd (mtd_given v))
    (cond (eqb kind (kind_number K.Rdas)) (R.Rdas (rdas_given v))
    unfit))))))))))))))

abbrev pub built_from : ℕ → List Pair → Report
built_from kind ps = built kind (gathered_from 0 ps)

-- ---- the test: the items given are the record's

abbrev pub same_number : ℤ → ℤ → Bool
same_number (pos m) (pos n) = eqb m n
same_number (pos m) (negsuc n) = false
same_number (negsuc m) (pos n) = false
same_number (negsuc m) (negsuc n) = eqb m n

abbrev pub same_item : Option ℤ → Option ℤ → Bool
same_item (Some x) (Some y) = same_number x y
same_item (Some x) None = false
same_item None (Some y) = false
same_item None None = true

-- for each of the numbers 1 to n the record has what is said of it
unfoldable pub agree_to : ℕ → Report → (ℕ → Option ℤ) → Bool
agree_to zero r said = true
agree_to (suc n) r said = cond (same_item (item_of r (suc n)) (said (suc n))) (agree_to n r said) false

-- by the pairs, and there are as many: so none is foreign, and none is there twice
unfoldable pub agree : Report → List Pair → Bool
agree r ps = all (eqb (length ps) (length (items_of r)) ∷ agree_to N.last r (item_given ps) ∷ [])

-- the record of a kind's number and these pairs
unfoldable pub given_by : ℕ → List Pair → Report
given_by kind ps = cond (agree (built_from kind ps) ps) (built_from kind ps) unfit

-- and of items in bytes
unfoldable pub given : ℕ → List ℕ → Report
given kind items = cond (eqb (length items % 16) 0) (given_by kind (pairs_in items)) unfit
