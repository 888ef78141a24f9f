-- Which form words have, by the bits that tell it (document 01, "Formats and fields"). Each test says the whole pattern of its form, so none
-- leans on what was asked before it. Definitions only.
use Rattle.std.specs.Prelude.{ℕ, Bool, not, cond, List, [], ◌∷◌, eqb}
use Rattle.words.specs.Tests.{all}
use Rattle.words.specs.Word.{bits, bit}

-- ---- the patterns, each once

-- bits 2-3: how many words a report has
abbrev pub four_words : ℕ
four_words = 0b00

abbrev pub seven_words : ℕ
seven_words = 0b11

-- bits 4-10 of four words
abbrev pub search_pattern : ℕ
search_pattern = 0b1101100

abbrev pub strobe_pattern : ℕ
strobe_pattern = 0b1100000

abbrev pub status_pattern : ℕ
status_pattern = 0b0110000

abbrev pub rtqc_pattern : ℕ
rtqc_pattern = 0b1001000

-- bits 4-8 of a Map, whose bits 9-10 are its variation
abbrev pub map_pattern : ℕ
map_pattern = 0b00000

-- bits 88-90 of seven words with bit 12 one: the radar that stands in for the height of DABS and ATCRBS
abbrev pub cd_code : ℕ
cd_code = 0b100

abbrev pub mtd_code : ℕ
mtd_code = 0b110

abbrev pub rdas_code : ℕ
rdas_code = 0b101

-- the same bits of an MTD search and of an RDAS search
abbrev pub mtd_search_code : ℕ
mtd_search_code = 0b010

abbrev pub rdas_search_code : ℕ
rdas_search_code = 0b001

-- what stands for those bits where bit 12 is zero: no three bits are this number
abbrev pub no_radar : ℕ
no_radar = 8

-- ---- how many words: bits 2-3

abbrev pub is_four : List ℕ → Bool
is_four ws = eqb (bits ws 2 3) four_words

abbrev pub is_seven : List ℕ → Bool
is_seven ws = eqb (bits ws 2 3) seven_words

-- how many words they ask for (where they are 01 or 10, refusal 5 stands before any count)
abbrev pub word_count : List ℕ → ℕ
word_count ws = cond (is_seven ws) 7 4

-- ---- four words: bits 2-3 and 4-10

abbrev pub is_search : List ℕ → Bool
is_search ws = all (is_four ws ∷ eqb (bits ws 4 10) search_pattern ∷ [])

abbrev pub is_strobe : List ℕ → Bool
is_strobe ws = all (is_four ws ∷ eqb (bits ws 4 10) strobe_pattern ∷ [])

abbrev pub is_status : List ℕ → Bool
is_status ws = all (is_four ws ∷ eqb (bits ws 4 10) status_pattern ∷ [])

-- 00000vv
abbrev pub is_map : List ℕ → Bool
is_map ws = all (is_four ws ∷ eqb (bits ws 4 8) map_pattern ∷ [])

-- bit 1 is one in every RTQC
abbrev pub is_rtqc : List ℕ → Bool
is_rtqc ws = all (is_four ws ∷ eqb (bits ws 4 10) rtqc_pattern ∷ bit ws 1 ∷ [])

-- ---- seven words: bits 2-3, bit 4, and with bit 12 one bits 88-90

-- bits 88-90 where bit 12 is one; with bit 12 zero they tell no radar
abbrev pub radar_code : List ℕ → ℕ
radar_code ws = cond (bit ws 12) (bits ws 88 90) no_radar

abbrev pub is_dabs : List ℕ → Bool
is_dabs ws = all (is_seven ws ∷ bit ws 4 ∷ [])

-- only when bit 4 is zero
abbrev pub is_mtd_search : List ℕ → Bool
is_mtd_search ws = all (is_seven ws ∷ not (bit ws 4) ∷ eqb (radar_code ws) mtd_search_code ∷ [])

abbrev pub is_rdas_search : List ℕ → Bool
is_rdas_search ws = all (is_seven ws ∷ not (bit ws 4) ∷ eqb (radar_code ws) rdas_search_code ∷ [])

-- a radar stands in for the height, of DABS and of ATCRBS alike
abbrev pub is_cd : List ℕ → Bool
is_cd ws = all (is_seven ws ∷ eqb (radar_code ws) cd_code ∷ [])

abbrev pub is_mtd : List ℕ → Bool
is_mtd ws = all (is_seven ws ∷ eqb (radar_code ws) mtd_code ∷ [])

abbrev pub is_rdas : List ℕ → Bool
is_rdas ws = all (is_seven ws ∷ eqb (radar_code ws) rdas_code ∷ [])
