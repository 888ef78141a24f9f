-- The words of a record: the tables' columns once more, by widths, with a word a line. Only DABS and ATCRBS hold an altitude, so only they
-- take its form. Definitions only.
use Rattle.std.specs.Prelude.{ℕ, ◌/◌, ◌^◌, ◌≡◌, Bool, true, false, cond, List, [], ◌∷◌, eqb, length, Err, Ok, Result}
use Rattle.refusals.specs.declared.LineRefusal.{LineRefusal}
use Rattle.refusals.specs.declared.LineRefusal.TheVariants.{ValueTooLarge}
use Rattle.words.specs.Layout.{Field, flag, count, rest, fixed, spare, words_by, fitting_by}
use Rattle.reports.specs.declared.Search.{Search}
use Rattle.reports.specs.declared.Strobe.{Strobe}
use Rattle.reports.specs.declared.Map.{Map}
use Rattle.reports.specs.declared.Status.{Status}
use Rattle.reports.specs.declared.Rtqc.{Rtqc}
use Rattle.reports.specs.declared.Height.{Height}
use Rattle.reports.specs.declared.Height.TheVariants as H
use Rattle.reports.specs.declared.Dabs.{Dabs}
use Rattle.reports.specs.declared.Atcrbs.{Atcrbs}
use Rattle.reports.specs.declared.Mtd.{Mtd}
use Rattle.reports.specs.declared.Rdas.{Rdas}
use Rattle.reports.specs.declared.Report.{Report}
use Rattle.reports.specs.declared.Report.TheVariants as R
use Rattle.reports.specs.Altitude.{AltitudeForm}
use Rattle.reports.specs.Forms.{four_words, seven_words, search_pattern, strobe_pattern, status_pattern, rtqc_pattern, map_pattern, cd_code, mtd_code, rdas_code, mtd_search_code, rdas_search_code}
use Rattle.reports.specs.declared.Words.{Words}
use Rattle.reports.specs.declared.Words.TheVariants.{Four, Seven}

-- ---- four words

abbrev pub search_layout : Search → List (List Field)
search_layout s =
    (flag s.test ∷ fixed 2 four_words ∷ fixed 7 search_pattern ∷ flag s.faa ∷ flag s.af ∷ [])
    ∷ (count 11 s.range.0 ∷ spare 1 ∷ [])
    ∷ (count 12 s.azimuth.0 ∷ [])
    ∷ (flag s.aims ∷ count 2 s.code ∷ count 3 s.run.0 ∷ count 6 s.time.0 ∷ [])
    ∷ []

abbrev pub strobe_layout : Strobe → List (List Field)
strobe_layout s =
    (flag s.test ∷ fixed 2 four_words ∷ fixed 7 strobe_pattern ∷ flag s.faa ∷ flag s.af ∷ [])
    ∷ (count 11 s.range.0 ∷ spare 1 ∷ [])
    ∷ (count 12 s.azimuth.0 ∷ [])
    ∷ (count 7 s.run.0 ∷ count 5 s.time.0 ∷ [])
    ∷ []

abbrev pub map_layout : Map → List (List Field)
map_layout m =
    (flag m.test ∷ fixed 2 four_words ∷ fixed 5 map_pattern ∷ count 2 m.variation ∷ flag m.faa ∷ flag m.af ∷ [])
    ∷ (count 11 m.start.0 ∷ spare 1 ∷ [])
    ∷ (count 12 m.azimuth.0 ∷ [])
    ∷ (count 11 m.stop.0 ∷ spare 1 ∷ [])
    ∷ []

abbrev pub status_layout : Status → List (List Field)
status_layout s =
    (flag s.test ∷ fixed 2 four_words ∷ fixed 7 status_pattern ∷ flag s.faa ∷ flag s.af ∷ [])
    ∷ (count 12 s.second ∷ [])
    ∷ (count 12 s.third ∷ [])
    ∷ (count 12 s.fourth ∷ [])
    ∷ []

abbrev pub rtqc_layout : Rtqc → List (List Field)
rtqc_layout s =
    (fixed 1 1 ∷ fixed 2 four_words ∷ fixed 7 rtqc_pattern ∷ flag s.faa ∷ flag s.af ∷ [])
    ∷ (count 11 s.range.0 ∷ spare 1 ∷ [])
    ∷ (count 12 s.azimuth.0 ∷ [])
    ∷ (count 7 s.run.0 ∷ count 5 s.time.0 ∷ [])
    ∷ []

-- ---- seven words

-- bits 79 to 90
abbrev pub last_word : AltitudeForm → Height → List Field
last_word form (H.Altitude z) = count 12 (form.bits_of z) ∷ []
last_word form (H.Carried n) = count 12 n ∷ []
last_word form (H.Cd c n) = count 3 n.0 ∷ spare 6 ∷ fixed 3 cd_code ∷ []
last_word form (H.Mtd c n) = count 2 n ∷ spare 7 ∷ fixed 3 mtd_code ∷ []
last_word form (H.Rdas c n) = count 4 n ∷ spare 5 ∷ fixed 3 rdas_code ∷ []

-- bit 6, Mode C
abbrev pub mode_c_of : Height → Bool
mode_c_of (H.Altitude z) = true
mode_c_of (H.Carried n) = false
mode_c_of (H.Cd c n) = c
mode_c_of (H.Mtd c n) = c
mode_c_of (H.Rdas c n) = c

-- bit 12, radar
abbrev pub radar : Height → Bool
radar (H.Altitude z) = false
radar (H.Carried n) = false
radar (H.Cd c n) = true
radar (H.Mtd c n) = true
radar (H.Rdas c n) = true

abbrev pub dabs_layout : AltitudeForm → Dabs → List (List Field)
dabs_layout form d =
    (flag d.test ∷ fixed 2 seven_words ∷ fixed 1 1 ∷ flag d.primary ∷ flag (mode_c_of d.height) ∷ flag d.spi ∷ flag d.reinforced
    ∷ flag d.code7700 ∷ flag d.code7600 ∷ flag d.faa ∷ flag (radar d.height) ∷ [])
    ∷ (count 12 (d.range.0 / 2 ^ 3) ∷ [])
    ∷ (rest 3 d.range.0 ∷ count 9 (d.azimuth.0 / 2 ^ 4) ∷ [])
    ∷ (rest 4 d.azimuth.0 ∷ flag d.alert ∷ spare 2 ∷ flag d.relay ∷ count 4 d.time.0 ∷ [])
    ∷ (count 12 (d.address / 2 ^ 12) ∷ [])
    ∷ (rest 12 d.address ∷ [])
    ∷ last_word form d.height
    ∷ []

abbrev pub atcrbs_layout : AltitudeForm → Atcrbs → List (List Field)
atcrbs_layout form a =
    (flag a.test ∷ fixed 2 seven_words ∷ fixed 1 0 ∷ flag a.mode3a ∷ flag (mode_c_of a.height) ∷ flag a.spi ∷ flag a.reinforced
    ∷ flag a.code7700 ∷ flag a.code7600 ∷ flag a.faa ∷ flag (radar a.height) ∷ [])
    ∷ (count 12 (a.range.0 / 2 ^ 3) ∷ [])
    ∷ (rest 3 a.range.0 ∷ count 9 (a.azimuth.0 / 2 ^ 4) ∷ [])
    ∷ (rest 4 a.azimuth.0 ∷ flag a.confidence ∷ flag a.transition ∷ flag a.false_target ∷ flag a.relay ∷ count 4 a.time.0 ∷ [])
    ∷ (count 12 a.code ∷ [])
    ∷ (count 12 a.file ∷ [])
    ∷ last_word form a.height
    ∷ []

abbrev pub mtd_layout : Mtd → List (List Field)
mtd_layout m =
    (flag m.test ∷ fixed 2 seven_words ∷ fixed 1 0 ∷ spare 6 ∷ flag m.faa ∷ fixed 1 1 ∷ [])
    ∷ (count 12 (m.range.0 / 2 ^ 3) ∷ [])
    ∷ (rest 3 m.range.0 ∷ count 9 (m.azimuth.0 / 2 ^ 4) ∷ [])
    ∷ (rest 4 m.azimuth.0 ∷ flag m.aims ∷ spare 1 ∷ count 6 m.time.0 ∷ [])
    ∷ (count 6 m.doppler1 ∷ count 6 m.doppler2 ∷ [])
    ∷ (count 12 m.file ∷ [])
    ∷ (count 2 m.quality ∷ count 4 m.confidence ∷ flag m.false_target ∷ flag m.ground_traffic ∷ spare 1 ∷ fixed 3 mtd_search_code ∷ [])
    ∷ []

abbrev pub rdas_layout : Rdas → List (List Field)
rdas_layout r =
    (flag r.test ∷ fixed 2 seven_words ∷ fixed 1 0 ∷ spare 6 ∷ flag r.faa ∷ fixed 1 1 ∷ [])
    ∷ (count 12 (r.range.0 / 2 ^ 3) ∷ [])
    ∷ (rest 3 r.range.0 ∷ count 9 (r.azimuth.0 / 2 ^ 4) ∷ [])
    ∷ (rest 4 r.azimuth.0 ∷ flag r.aims ∷ spare 1 ∷ count 6 r.time.0 ∷ [])
    ∷ (spare 12 ∷ [])
    ∷ (count 12 r.file ∷ [])
    ∷ (count 4 r.quality ∷ spare 2 ∷ flag r.false_target ∷ spare 2 ∷ fixed 3 rdas_search_code ∷ [])
    ∷ []

-- ---- every report

abbrev pub layout_of : AltitudeForm → Report → List (List Field)
layout_of form (R.Search s) = search_layout s
layout_of form (R.Strobe s) = strobe_layout s
layout_of form (R.Map m) = map_layout m
layout_of form (R.Status s) = status_layout s
layout_of form (R.Rtqc s) = rtqc_layout s
layout_of form (R.Dabs d) = dabs_layout form d
layout_of form (R.Atcrbs a) = atcrbs_layout form a
layout_of form (R.Mtd m) = mtd_layout m
layout_of form (R.Rdas r) = rdas_layout r

-- the words of a record
abbrev pub words_of : AltitudeForm → Report → List ℕ
words_of form r = words_by (layout_of form r)

-- no value is too large for its field
abbrev pub fits : AltitudeForm → Report → Bool
fits form r = fitting_by (layout_of form r)

abbrev pub Fits : AltitudeForm → Report → Type 0
Fits form r = fits form r ≡ true

-- ---- writing

-- what the writer takes: every record that fits
abbrev pub takes : AltitudeForm → Report → Bool
takes form r = fits form r

abbrev pub Takes : AltitudeForm → Report → Type 0
Takes form r = takes form r ≡ true

-- the words in an answer, as one list
abbrev pub words_in : Words → List ℕ
words_in (Four ws) = ws
words_in (Seven ws) = ws

-- four words or seven, as the writer hands them out
abbrev pub as_written : List ℕ → Result Words LineRefusal
as_written ws = Ok (cond (eqb (length ws) 4) (Four ws) (Seven ws))

-- the writer's answer: the words, or 11 for a value too large for its field
abbrev pub written : AltitudeForm → Report → Result Words LineRefusal
written form r = cond (takes form r) (as_written (words_of form r)) (Err ValueTooLarge)
