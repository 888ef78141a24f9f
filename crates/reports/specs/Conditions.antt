-- The condition of each refusal that a run can get, a definition for each row of document 01's "Line refusal numbers", 3 to 9, over the
-- run's words and bits alone. Definitions only.
use Rattle.std.specs.Prelude.{ℕ, ◌+◌, ◌≡◌, Bool, false, not, cond, List, [], ◌∷◌, eqb, ltb, length}
use Rattle.words.specs.Tests.{all, any}
use Rattle.words.specs.Word.{bits, bit, wider_than_a_word, even, first, AllGood}
use Rattle.reports.specs.Altitude.{AltitudeForm}
use Rattle.reports.specs.Forms.{is_seven, word_count, is_search, is_strobe, is_map, is_status, is_rtqc, is_dabs, is_cd, is_mtd, is_rdas, is_mtd_search, is_rdas_search}

-- 3: a word of the run above 8191
abbrev pub too_wide_word : List ℕ → Bool
too_wide_word ws = ltb (first wider_than_a_word ws) (length ws)

-- 4: a word of the run with an even number of ones
abbrev pub even_word : List ℕ → Bool
even_word ws = ltb (first even ws) (length ws)

-- 5: first word: bits 2-3 are 01 or 10, or are 00 and no pattern fits, RTQC with bit 1 zero included
abbrev pub unknown_form : List ℕ → Bool
unknown_form ws = not (any (is_search ws ∷ is_strobe ws ∷ is_status ws ∷ is_map ws ∷ is_rtqc ws ∷ is_seven ws ∷ []))

-- 6: run is not 4 (or 7) words as bits 2-3 say
abbrev pub wrong_length : List ℕ → Bool
wrong_length ws = not (eqb (length ws) (word_count ws))

-- 7: 7 words, bit 12 one and bits 88-90 not assigned for that bit 4
abbrev pub unassigned : List ℕ → Bool
unassigned ws = all (is_seven ws ∷ bit ws 12 ∷ not (any (is_cd ws ∷ is_mtd ws ∷ is_rdas ws ∷ is_mtd_search ws ∷ is_rdas_search ws ∷ [])) ∷ [])

-- ---- 8: a zero or spare bit is one. Each sum is 0 exactly when all of its bits are

-- the zero bits of four words: 25, of a Map 51 too, of Status none. Where 5 is not given, words of none of the first four forms are an RTQC
unfoldable pub four_zeros : List ℕ → ℕ
four_zeros ws =
    cond (is_search ws) (bits ws 25 25)
    (cond (is_strobe ws) (bits ws 25 25)
    (cond (is_status ws) 0
    (cond (is_map ws) (bits ws 25 25 + bits ws 51 51)
    (bits ws 25 25))))

-- the spare bits of the last word of DABS and ATCRBS: with substitution, what is left to bit 87
unfoldable pub height_spares : List ℕ → ℕ
height_spares ws =
    cond (is_cd ws) (bits ws 82 87)
    (cond (is_mtd ws) (bits ws 81 87)
    (cond (is_rdas ws) (bits ws 83 87)
    0))

-- the spare bits of seven words
unfoldable pub seven_spares : List ℕ → ℕ
seven_spares ws =
    cond (is_dabs ws) (bits ws 45 46 + height_spares ws)
    (cond (is_mtd_search ws) (bits ws 5 10 + bits ws 45 45 + bits ws 87 87)
    (cond (is_rdas_search ws) (bits ws 5 10 + bits ws 45 45 + bits ws 53 64 + bits ws 83 84 + bits ws 86 87)
    (height_spares ws)))

unfoldable pub zeros : List ℕ → ℕ
zeros ws = cond (is_seven ws) (seven_spares ws) (four_zeros ws)

abbrev pub spare_set : List ℕ → Bool
spare_set ws = not (eqb (zeros ws) 0)

-- ----

-- 9: altitude sign 1 with magnitude 0, as the form says; 79-90 is an altitude with bit 12 zero and bit 6 one
abbrev pub minus_zero : AltitudeForm → List ℕ → Bool
minus_zero form ws = all (is_seven ws ∷ not (bit ws 12) ∷ bit ws 6 ∷ form.refused (bits ws 79 90) ∷ [])

-- a run has one of the layouts: good words of a known form, as many as it has, with nothing in them that it does not have. LayoutIsWords
-- (Claims.antt) says the same the other way: they are the words of a record that fits
pub record HasLayout (form : AltitudeForm) (ws : List ℕ) : Type 0 where
  pub good : AllGood ws
  pub known : unknown_form ws ≡ false
  pub whole : wrong_length ws ≡ false
  pub assigned : unassigned ws ≡ false
  pub spares : spare_set ws ≡ false
  pub altitude : minus_zero form ws ≡ false
