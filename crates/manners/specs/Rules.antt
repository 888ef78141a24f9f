-- The rules whose breaches are listed (document 02, Ticket 6; the sections are document 004's). Each is said by the printed bit numbers over the
-- words of a run, and once more over the record. SameOfRecord (Claims.antt) says that the two are the same for every accepted run. Definitions only.
use Rattle.std.specs.Prelude.{ℕ, Bool, false, not, List, [], ◌∷◌, eqb, ltb, ℤ, pos, negsuc}
use Rattle.words.specs.Tests.{all, any}
use Rattle.words.specs.Word.{bits, bit}
use Rattle.reports.specs.declared.Map.{Map}
use Rattle.reports.specs.declared.Height.{Height}
use Rattle.reports.specs.declared.Height.TheVariants as H
use Rattle.reports.specs.declared.Dabs.{Dabs}
use Rattle.reports.specs.declared.Atcrbs.{Atcrbs}
use Rattle.reports.specs.declared.Report.{Report}
use Rattle.reports.specs.declared.Report.TheVariants as T
use Rattle.reports.specs.Forms.{is_seven, is_map, is_dabs, is_cd, is_mtd, is_rdas}
use Rattle.reports.specs.Layouts.{mode_c_of, radar}
use Rattle.manners.specs.declared.Rule.{Rule}
use Rattle.manners.specs.declared.Rule.TheVariants as R

-- ---- over the words, by the printed bits

-- bit 12 one and bits 88-90 100, 110 or 101: data of a radar stand in for beacon data that are missing (4.2.3)
abbrev pub is_substitution : List ℕ → Bool
is_substitution ws = any (is_cd ws ∷ is_mtd ws ∷ is_rdas ws ∷ [])

-- 1: an ATCRBS substitution report (bit 4 zero) with bit 5 set. Where a radar stands in, bit 5, Mode 3/A, must be zero (4.2.7)
abbrev pub substitution_mode3a : List ℕ → Bool
substitution_mode3a ws = all (is_substitution ws ∷ not (bit ws 4) ∷ bit ws 5 ∷ [])

-- 2: a relayed DABS report (bit 47 one), its substitutions too, with bit 6 zero. Whatever is relayed must have bit 6, Mode C, one (4.1.4)
abbrev pub relay_without_mode_c : List ℕ → Bool
relay_without_mode_c ws = all (is_dabs ws ∷ bit ws 47 ∷ not (bit ws 6) ∷ [])

-- 3: an ATCRBS report (bit 4 zero) with bit 6 one, bit 12 zero and altitude field all zeros. Bit 6 must be zero for a code of all zeros (4.2.2)
abbrev pub mode_c_all_zeros : List ℕ → Bool
mode_c_all_zeros ws = all (is_seven ws ∷ not (bit ws 4) ∷ bit ws 6 ∷ not (bit ws 12) ∷ eqb (bits ws 79 90) 0 ∷ [])

-- 4: a Map whose stop (bits 40-50) is below its start (bits 14-24). Equal start and stop is valid. Document 02 has this rule; 004 has the two fields
-- alone (Table 4-2)
abbrev pub map_stop_below_start : List ℕ → Bool
map_stop_below_start ws = all (is_map ws ∷ ltb (bits ws 40 50) (bits ws 14 24) ∷ [])

-- the words break a rule
abbrev pub broken : Rule → List ℕ → Bool
broken R.SubstitutionMode3a ws = substitution_mode3a ws
broken R.RelayWithoutModeC ws = relay_without_mode_c ws
broken R.ModeCAllZeros ws = mode_c_all_zeros ws
broken R.MapStopBelowStart ws = map_stop_below_start ws

-- ---- over the record

-- a number is zero
abbrev pub is_zero : ℤ → Bool
is_zero (pos n) = eqb n 0
is_zero (negsuc n) = false

-- an altitude of zero feet
abbrev pub is_sea_level : Height → Bool
is_sea_level (H.Altitude z) = is_zero z
is_sea_level (H.Carried n) = false
is_sea_level (H.Cd c n) = false
is_sea_level (H.Mtd c n) = false
is_sea_level (H.Rdas c n) = false

-- an ATCRBS record can break rules 1 and 3, a DABS record rule 2, a Map rule 4
abbrev pub atcrbs_breaks : Atcrbs → Rule → Bool
atcrbs_breaks a R.SubstitutionMode3a = all (radar a.height ∷ a.mode3a ∷ [])
atcrbs_breaks a R.RelayWithoutModeC = false
atcrbs_breaks a R.ModeCAllZeros = is_sea_level a.height
atcrbs_breaks a R.MapStopBelowStart = false

abbrev pub dabs_breaks : Dabs → Rule → Bool
dabs_breaks d R.SubstitutionMode3a = false
dabs_breaks d R.RelayWithoutModeC = all (d.relay ∷ not (mode_c_of d.height) ∷ [])
dabs_breaks d R.ModeCAllZeros = false
dabs_breaks d R.MapStopBelowStart = false

abbrev pub map_breaks : Map → Rule → Bool
map_breaks m R.SubstitutionMode3a = false
map_breaks m R.RelayWithoutModeC = false
map_breaks m R.ModeCAllZeros = false
map_breaks m R.MapStopBelowStart = ltb m.stop.0 m.start.0

-- the record breaks a rule; the other six kinds break none
abbrev pub breaks : Report → Rule → Bool
breaks (T.Atcrbs a) rule = atcrbs_breaks a rule
breaks (T.Dabs d) rule = dabs_breaks d rule
breaks (T.Map m) rule = map_breaks m rule
breaks (T.Search s) rule = false
breaks (T.Strobe s) rule = false
breaks (T.Status s) rule = false
breaks (T.Rtqc s) rule = false
breaks (T.Mtd m) rule = false
breaks (T.Rdas r) rule = false
