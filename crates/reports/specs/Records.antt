-- The records by the document's bit numbers: each field is the bits that the table gives it, and the form tells which record it is.
-- Definitions only.
use Rattle.std.specs.Prelude.{ℕ, cond, List}
use Rattle.words.specs.Word.{bits, bit, bits_then}
use Rattle.reports.specs.declared.Search.{Search}
use Rattle.reports.specs.declared.Strobe.{Strobe}
use Rattle.reports.specs.declared.Map.{Map}
use Rattle.reports.specs.declared.Status.{Status}
use Rattle.reports.specs.declared.Rtqc.{Rtqc}
use Rattle.reports.specs.declared.Height.{Height}
use Rattle.reports.specs.declared.Height.TheVariants as H
use Rattle.reports.specs.declared.Dabs.{Dabs}
use Rattle.reports.specs.declared.Atcrbs.{Atcrbs}
use Rattle.reports.specs.declared.Mtd.{Mtd}
use Rattle.reports.specs.declared.Rdas.{Rdas}
use Rattle.reports.specs.declared.Report.{Report}
use Rattle.reports.specs.declared.Report.TheVariants as R
use Rattle.reports.specs.Altitude.{AltitudeForm}
use Rattle.reports.specs.Forms.{is_seven, is_search, is_strobe, is_status, is_map, is_dabs, is_cd, is_mtd, is_rdas, is_mtd_search, is_rdas_search}

-- ---- four words

abbrev pub search_of : List ℕ → Search
search_of ws = record {
  test = bit ws 1;
  faa = bit ws 11;
  af = bit ws 12;
  range = record { 0 = bits ws 14 24 };
  azimuth = record { 0 = bits ws 27 38 };
  aims = bit ws 40;
  code = bits ws 41 42;
  run = record { 0 = bits ws 43 45 };
  time = record { 0 = bits ws 46 51 };
}

abbrev pub strobe_of : List ℕ → Strobe
strobe_of ws = record {
  test = bit ws 1;
  faa = bit ws 11;
  af = bit ws 12;
  range = record { 0 = bits ws 14 24 };
  azimuth = record { 0 = bits ws 27 38 };
  run = record { 0 = bits ws 40 46 };
  time = record { 0 = bits ws 47 51 };
}

abbrev pub map_of : List ℕ → Map
map_of ws = record {
  test = bit ws 1;
  variation = bits ws 9 10;
  faa = bit ws 11;
  af = bit ws 12;
  start = record { 0 = bits ws 14 24 };
  azimuth = record { 0 = bits ws 27 38 };
  stop = record { 0 = bits ws 40 50 };
}

abbrev pub status_of : List ℕ → Status
status_of ws = record {
  test = bit ws 1;
  faa = bit ws 11;
  af = bit ws 12;
  second = bits ws 14 25;
  third = bits ws 27 38;
  fourth = bits ws 40 51;
}

abbrev pub rtqc_of : List ℕ → Rtqc
rtqc_of ws = record {
  faa = bit ws 11;
  af = bit ws 12;
  range = record { 0 = bits ws 14 24 };
  azimuth = record { 0 = bits ws 27 38 };
  run = record { 0 = bits ws 40 46 };
  time = record { 0 = bits ws 47 51 };
}

-- ---- seven words

-- bits 79 to 90 of DABS and ATCRBS
unfoldable pub height_of : AltitudeForm → List ℕ → Height
height_of form ws =
    cond (is_cd ws) (H.Cd (bit ws 6) (record { 0 = bits ws 79 81 }))
    (cond (is_mtd ws) (H.Mtd (bit ws 6) (bits ws 79 80))
    (cond (is_rdas ws) (H.Rdas (bit ws 6) (bits ws 79 82))
    (cond (bit ws 6) (H.Altitude (form.altitude (bits ws 79 90)))
    (H.Carried (bits ws 79 90)))))

abbrev pub dabs_of : List ℕ → Height → Dabs
dabs_of ws h = record {
  test = bit ws 1;
  primary = bit ws 5;
  spi = bit ws 7;
  reinforced = bit ws 8;
  code7700 = bit ws 9;
  code7600 = bit ws 10;
  faa = bit ws 11;
  range = record { 0 = bits_then ws 14 25 27 29 };
  azimuth = record { 0 = bits_then ws 30 38 40 43 };
  alert = bit ws 44;
  relay = bit ws 47;
  time = record { 0 = bits ws 48 51 };
  address = bits_then ws 53 64 66 77;
  height = h;
}

abbrev pub atcrbs_of : List ℕ → Height → Atcrbs
atcrbs_of ws h = record {
  test = bit ws 1;
  mode3a = bit ws 5;
  spi = bit ws 7;
  reinforced = bit ws 8;
  code7700 = bit ws 9;
  code7600 = bit ws 10;
  faa = bit ws 11;
  range = record { 0 = bits_then ws 14 25 27 29 };
  azimuth = record { 0 = bits_then ws 30 38 40 43 };
  confidence = bit ws 44;
  transition = bit ws 45;
  false_target = bit ws 46;
  relay = bit ws 47;
  time = record { 0 = bits ws 48 51 };
  -- A4 A2 A1 B4 B2 B1 C4 C2 C1 D4 D2 D1: its octal digits are A, B, C and D
  code = bits ws 53 64;
  file = bits ws 66 77;
  height = h;
}

abbrev pub mtd_of : List ℕ → Mtd
mtd_of ws = record {
  test = bit ws 1;
  faa = bit ws 11;
  range = record { 0 = bits_then ws 14 25 27 29 };
  azimuth = record { 0 = bits_then ws 30 38 40 43 };
  aims = bit ws 44;
  time = record { 0 = bits ws 46 51 };
  doppler1 = bits ws 53 58;
  doppler2 = bits ws 59 64;
  file = bits ws 66 77;
  quality = bits ws 79 80;
  confidence = bits ws 81 84;
  false_target = bit ws 85;
  ground_traffic = bit ws 86;
}

abbrev pub rdas_of : List ℕ → Rdas
rdas_of ws = record {
  test = bit ws 1;
  faa = bit ws 11;
  range = record { 0 = bits_then ws 14 25 27 29 };
  azimuth = record { 0 = bits_then ws 30 38 40 43 };
  aims = bit ws 44;
  time = record { 0 = bits ws 46 51 };
  file = bits ws 66 77;
  quality = bits ws 79 82;
  false_target = bit ws 85;
}

-- ---- the report that words hold, where they hold one: what the tests leave is an RTQC, and of seven words an ATCRBS

unfoldable pub four_of : List ℕ → Report
four_of ws =
    cond (is_search ws) (R.Search (search_of ws))
    (cond (is_strobe ws) (R.Strobe (strobe_of ws))
    (cond (is_status ws) (R.Status (status_of ws))
    (cond (is_map ws) (R.Map (map_of ws))
    (R.Rtqc (rtqc_of ws)))))

unfoldable pub seven_of : AltitudeForm → List ℕ → Report
seven_of form ws =
    cond (is_dabs ws) (R.Dabs (dabs_of ws (height_of form ws)))
    (cond (is_mtd_search ws) (R.Mtd (mtd_of ws))
    (cond (is_rdas_search ws) (R.Rdas (rdas_of ws))
    (R.Atcrbs (atcrbs_of ws (height_of form ws)))))

unfoldable pub report_of : AltitudeForm → List ℕ → Report
report_of form ws = cond (is_seven ws) (seven_of form ws) (four_of ws)
