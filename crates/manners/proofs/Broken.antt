-- The rules over the words and over the record: the claims SameOfRecord, AtMostOne, AtMostOneOfRecord and FoundExactly; that a number names one rule; and what a run's outcome brings
-- to the list. Assumes nothing.
use Rattle.std.specs.Prelude.{Ok, Result, Err}
use Prim.Native.Nat.{ℕ, ◌-◌, ◌<◌}
use mathlib.Core.Path.{◌≡◌, refl, ap, sym, ◌∙◌, subst}
use mathlib.Core.Bool.{Bool, true, false, not, cond}
use mathlib.Core.List.{List, [], ◌∷◌, map}
use mathlib.Core.Logic.{⊎_elim}
use native.Mathlib.Omega.{arith}
use lib.Dec.{eqb, ltb}
use lib.IntN.{ℤ, pos, negsuc}
use lib.ListN.{length, get_or}
use borrow.Author.Tests.{eqb-true, eq-eqb}
use Rattle.rows.specs.Claims.{FirstIs}
use Rattle.rows.proofs.Claims as law
use Rattle.rows.proofs.Claims.{differ}
use Rattle.words.specs.Tests.{all, any}
use Rattle.words.specs.Word.{bits, bit}
use Rattle.words.proofs.Tests.{picked, passed, by_test}
use Rattle.reports.specs.declared.altitude.Form.{Form}
use Rattle.reports.specs.declared.altitude.Form.TheVariants as O
use Rattle.reports.specs.declared.Map.{Map}
use Rattle.reports.specs.declared.Height.{Height}
use Rattle.reports.specs.declared.Height.TheVariants as H
use Rattle.reports.specs.declared.Dabs.{Dabs}
use Rattle.reports.specs.declared.Atcrbs.{Atcrbs}
use Rattle.reports.specs.declared.Report.{Report}
use Rattle.reports.specs.declared.Report.TheVariants as T
use Rattle.reports.specs.Altitude.{AltitudeForm, Sound, form_of}
use Rattle.reports.specs.Forms.{four_words, seven_words, search_pattern, strobe_pattern, status_pattern, map_pattern, cd_code, mtd_code, rdas_code, mtd_search_code, rdas_search_code, no_radar, is_four, is_seven, is_search, is_strobe, is_status, is_map, radar_code, is_dabs, is_cd, is_mtd, is_rdas, is_mtd_search, is_rdas_search}
use Rattle.reports.specs.Layouts.{mode_c_of, radar}
use Rattle.reports.specs.Records.{search_of, strobe_of, status_of, map_of, rtqc_of, dabs_of, atcrbs_of, mtd_of, rdas_of, height_of, four_of, seven_of, report_of}
use Rattle.reports.specs.Conditions.{unassigned, minus_zero}
use Rattle.reports.specs.Runs.{read_run, is_accepted}
use Rattle.reports.proofs.Altitudes.{forms_sound}
use Rattle.reports.proofs.Four.{not-map}
use Rattle.reports.proofs.Refusals.{accepted_layout}
use Rattle.reports.proofs.Tests.{by_cond}
use Rattle.lines.specs.Line.{placed}
use Rattle.lines.specs.Stretches.{Run}
use Rattle.lines.specs.Claims.{outcome_of_run}
use Rattle.std.specs.Prelude.{Option, Some, None, is_none}
use Rattle.manners.specs.declared.Rule.{Rule}
use Rattle.manners.specs.declared.Rule.TheVariants as R
use Rattle.manners.specs.Numbers.{rule_number}
use Rattle.manners.specs.Rules.{is_substitution, broken, is_zero, is_sea_level, atcrbs_breaks, dabs_breaks, map_breaks, breaks}
use Rattle.manners.specs.Breaches.{breach, rules, passing, broken_by, breaches_of, rule_rows, found_of, list_of, brought_by}
use Rattle.manners.specs.Steps.{atcrbs_found}
use Rattle.manners.specs.Claims.{SameOfRecord, AtMostOne, AtMostOneOfRecord, FoundExactly}
use Rattle.reports.specs.declared.RunRefusal.{RunRefusal}

only : (b : Bool) → b ≡ cond b true false
only true = refl
only false = refl

-- the first test holds, and so do the others
pub splits : (a rest : Bool) → cond a rest false ≡ true → (a ≡ true) × (rest ≡ true)
splits true rest e = (refl, e)
splits false rest e = differ (sym e)

-- ---- what stands in bits 79 to 90

module _ (form : AltitudeForm) (ws : List ℕ) where
  is_radar : radar (height_of form ws) ≡ is_substitution ws
  unfolding height_of
  is_radar = go (is_cd ws) (is_mtd ws) (is_rdas ws) (bit ws 6)
    where
      go : (a b c d : Bool)
          → radar (cond a (H.Cd (bit ws 6) (record { 0 = bits ws 79 81 })) (cond b (H.Mtd (bit ws 6) (bits ws 79 80)) (cond c (H.Rdas (bit ws 6) (bits ws 79 82)) (cond d (H.Altitude (form.altitude (bits ws 79 90))) (H.Carried (bits ws 79 90))))))
          ≡ any (a ∷ b ∷ c ∷ [])
      go true b c d = refl
      go false true c d = refl
      go false false true d = refl
      go false false false true = refl
      go false false false false = refl

  has_mode_c : mode_c_of (height_of form ws) ≡ bit ws 6
  unfolding height_of
  has_mode_c = go (is_cd ws) (is_mtd ws) (is_rdas ws) (bit ws 6)
    where
      go : (a b c d : Bool)
          → mode_c_of (cond a (H.Cd d (record { 0 = bits ws 79 81 })) (cond b (H.Mtd d (bits ws 79 80)) (cond c (H.Rdas d (bits ws 79 82)) (cond d (H.Altitude (form.altitude (bits ws 79 90))) (H.Carried (bits ws 79 90))))))
          ≡ d
      go true b c d = refl
      go false true c d = refl
      go false false true d = refl
      go false false false true = refl
      go false false false false = refl

  is-sea-level : is_sea_level (height_of form ws) ≡ all (not (is_substitution ws) ∷ bit ws 6 ∷ is_zero (form.altitude (bits ws 79 90)) ∷ [])
  unfolding height_of
  is-sea-level = go (is_cd ws) (is_mtd ws) (is_rdas ws) (bit ws 6) (form.altitude (bits ws 79 90))
    where
      go : (a b c d : Bool) (z : ℤ)
          → is_sea_level (cond a (H.Cd (bit ws 6) (record { 0 = bits ws 79 81 })) (cond b (H.Mtd (bit ws 6) (bits ws 79 80)) (cond c (H.Rdas (bit ws 6) (bits ws 79 82)) (cond d (H.Altitude z) (H.Carried (bits ws 79 90))))))
          ≡ all (not (any (a ∷ b ∷ c ∷ [])) ∷ d ∷ is_zero z ∷ [])
      go true b c d z = refl
      go false true c d z = refl
      go false false true d z = refl
      go false false false true z = only (is_zero z)
      go false false false false z = refl

-- ---- a sound form that has twelve zeros for zero feet

module _ (form : AltitudeForm) (sound : Sound form) (zero : form.bits_of (pos 0) ≡ 0) where
  -- and for nothing else
  zero_is_zeros : (n : ℕ) → n < 4096 → form.refused n ≡ false → is_zero (form.altitude n) ≡ eqb n 0
  zero_is_zeros n small good =
      by_test (eqb n 0)
      (λ e.
      let z : form.altitude 0 ≡ pos 0 =
      ap form.altitude (sym zero) ∙ (sound.back (pos 0) (subst (λ (k : ℕ). k < 4096) (sym zero) (omega arith))).1 in
      ap is_zero (ap form.altitude (eqb-true n 0 e) ∙ z) ∙ sym e)
      (λ e. by_test (is_zero (form.altitude n))
      (λ t. differ (sym (eq-eqb n 0 (sym (sound.again n small good) ∙ ap form.bits_of (is-zero (form.altitude n) t) ∙ zero)) ∙ e))
      (λ t. t ∙ sym e))
    where
      is-zero : (z : ℤ) → is_zero z ≡ true → z ≡ pos 0
      is-zero (pos k) t = ap pos (eqb-true k 0 t)
      is-zero (negsuc k) t = differ (sym t)

-- ---- the same of seven words and of their record

-- the two are the same for every rule
abbrev Same : List ℕ → Report → Type 0
Same ws r = (rule : Rule) → broken rule ws ≡ breaks r rule

-- a radar's code is told where bit 12 is one
code_told : (b : Bool) (m k : ℕ) → k < 8 → cond b m no_radar ≡ k → b ≡ true
code_told true m k h e = refl
code_told false m k h e = absurd (omega arith)

neither : (b : Bool) → cond b false false ≡ false
neither true = refl
neither false = refl

module _ (ws : List ℕ) (two : bits ws 2 3 ≡ seven_words) where
  no_map : (below : Bool) → all (is_map ws ∷ below ∷ []) ≡ false
  no_map below = λ i. all (all (eqb (two i) four_words ∷ eqb (bits ws 4 8) map_pattern ∷ []) ∷ below ∷ [])

  -- a search message: bit 12 is one, no radar stands in for a height, and the record breaks no rule
  same_search : (r : Report) → bit ws 4 ≡ false → bit ws 12 ≡ true → is_substitution ws ≡ false → ((rule : Rule) → breaks r rule ≡ false) → Same ws r
  same_search r f t u n R.SubstitutionMode3a = (λ i. all (u i ∷ not (bit ws 4) ∷ bit ws 5 ∷ [])) ∙ sym (n R.SubstitutionMode3a)
  same_search r f t u n R.RelayWithoutModeC =
      (λ i. all (all (eqb (two i) seven_words ∷ f i ∷ []) ∷ bit ws 47 ∷ not (bit ws 6) ∷ [])) ∙ sym (n R.RelayWithoutModeC)
  same_search r f t u n R.ModeCAllZeros =
      (λ i. all (eqb (two i) seven_words ∷ not (f i) ∷ bit ws 6 ∷ not (t i) ∷ eqb (bits ws 79 90) 0 ∷ [])) ∙ neither (bit ws 6) ∙ sym (n R.ModeCAllZeros)
  same_search r f t u n R.MapStopBelowStart = no_map (ltb (bits ws 40 50) (bits ws 14 24)) ∙ sym (n R.MapStopBelowStart)

  module _ (form : AltitudeForm) where
    same_dabs : bit ws 4 ≡ true → Same ws (T.Dabs (dabs_of ws (height_of form ws)))
    same_dabs f R.SubstitutionMode3a = (λ i. all (is_substitution ws ∷ not (f i) ∷ bit ws 5 ∷ [])) ∙ neither (is_substitution ws)
    same_dabs f R.RelayWithoutModeC =
        (λ i. all (all (eqb (two i) seven_words ∷ f i ∷ []) ∷ bit ws 47 ∷ not (sym (has_mode_c form ws) i) ∷ []))
    same_dabs f R.ModeCAllZeros = λ i. all (eqb (two i) seven_words ∷ not (f i) ∷ bit ws 6 ∷ not (bit ws 12) ∷ eqb (bits ws 79 90) 0 ∷ [])
    same_dabs f R.MapStopBelowStart = no_map (ltb (bits ws 40 50) (bits ws 14 24))

    -- an ATCRBS report: bit 12 tells substitution, and an altitude is zero where its bits are
    same_atcrbs : bit ws 4 ≡ false → is_substitution ws ≡ bit ws 12
        → (bit ws 6 ≡ true → bit ws 12 ≡ false → is_zero (form.altitude (bits ws 79 90)) ≡ eqb (bits ws 79 90) 0)
        → Same ws (T.Atcrbs (atcrbs_of ws (height_of form ws)))
    same_atcrbs f u z R.SubstitutionMode3a =
        (λ i. all (is_substitution ws ∷ not (f i) ∷ bit ws 5 ∷ [])) ∙ (λ i. all (sym (is_radar form ws) i ∷ bit ws 5 ∷ []))
    same_atcrbs f u z R.RelayWithoutModeC = λ i. all (all (eqb (two i) seven_words ∷ f i ∷ []) ∷ bit ws 47 ∷ not (bit ws 6) ∷ [])
    same_atcrbs f u z R.ModeCAllZeros =
        (λ i. all (eqb (two i) seven_words ∷ not (f i) ∷ bit ws 6 ∷ not (bit ws 12) ∷ eqb (bits ws 79 90) 0 ∷ []))
        ∙ turned (bit ws 6) (bit ws 12) (eqb (bits ws 79 90) 0) (is_zero (form.altitude (bits ws 79 90))) z
        ∙ (λ i. all (not (sym u i) ∷ bit ws 6 ∷ is_zero (form.altitude (bits ws 79 90)) ∷ []))
        ∙ sym (is-sea-level form ws)
      where
        turned : (a b c d : Bool) → (a ≡ true → b ≡ false → d ≡ c) → all (a ∷ not b ∷ c ∷ []) ≡ all (not b ∷ a ∷ d ∷ [])
        turned true false c d h = ap (λ (x : Bool). all (x ∷ [])) (sym (h refl refl))
        turned true true c d h = refl
        turned false true c d h = refl
        turned false false c d h = refl
    same_atcrbs f u z R.MapStopBelowStart = no_map (ltb (bits ws 40 50) (bits ws 14 24))

  -- where the code is assigned and is not a search's, bit 12 tells substitution
  substituted : unassigned ws ≡ false → is_mtd_search ws ≡ false → is_rdas_search ws ≡ false → is_substitution ws ≡ bit ws 12
  substituted a m r =
      by_test (bit ws 12)
      (λ t. one_of (is_cd ws) (is_mtd ws) (is_rdas ws) (is_mtd_search ws) (is_rdas_search ws) m r
      (sym (λ i. all (eqb (two i) seven_words ∷ t i ∷ not (any (is_cd ws ∷ is_mtd ws ∷ is_rdas ws ∷ is_mtd_search ws ∷ is_rdas_search ws ∷ [])) ∷ [])) ∙ a) ∙ sym t)
      (λ t.
      (λ i. any (all (eqb (two i) seven_words ∷ eqb (cond (t i) (bits ws 88 90) no_radar) cd_code ∷ [])
      ∷ all (eqb (two i) seven_words ∷ eqb (cond (t i) (bits ws 88 90) no_radar) mtd_code ∷ [])
      ∷ all (eqb (two i) seven_words ∷ eqb (cond (t i) (bits ws 88 90) no_radar) rdas_code ∷ [])
      ∷ []))
      ∙ sym t)
    where
      one_of : (a b c d e : Bool) → d ≡ false → e ≡ false → all (not (any (a ∷ b ∷ c ∷ d ∷ e ∷ [])) ∷ []) ≡ false → any (a ∷ b ∷ c ∷ []) ≡ true
      one_of true b c d e m r h = refl
      one_of false true c d e m r h = refl
      one_of false false true d e m r h = refl
      one_of false false false d e m r h = differ (sym (λ i. all (not (any (m i ∷ r i ∷ [])) ∷ [])) ∙ h)

-- ---- the same of four words and of their record

module _ (ws : List ℕ) where
  -- a rule that a Map does not break is broken by no four words
  none_of : (a b c d : Bool) (rule : Rule) → (d ≡ true → map_breaks (map_of ws) rule ≡ false)
      → breaks (cond a (T.Search (search_of ws)) (cond b (T.Strobe (strobe_of ws)) (cond c (T.Status (status_of ws)) (cond d (T.Map (map_of ws)) (T.Rtqc (rtqc_of ws)))))) rule ≡ false
  none_of true b c d rule e = refl
  none_of false true c d rule e = refl
  none_of false false true d rule e = refl
  none_of false false false true rule e = e refl
  none_of false false false false rule e = refl

  -- the other kinds of four words have other patterns than a Map
  is-map : is_map ws ≡ true → four_of ws ≡ T.Map (map_of ws)
  unfolding four_of
  is-map m =
      let two = splits (is_four ws) _ m in
      let four = two.0 in
      let zeros = eqb-true (bits ws 4 8) map_pattern (only (eqb (bits ws 4 8) map_pattern) ∙ two.1) in
      passed _ _ (λ i. all (four i ∷ not-map ws search_pattern zeros (omega arith) i ∷ []))
      ∙ passed _ _ (λ i. all (four i ∷ not-map ws strobe_pattern zeros (omega arith) i ∷ []))
      ∙ passed _ _ (λ i. all (four i ∷ not-map ws status_pattern zeros (omega arith) i ∷ []))
      ∙ picked _ _ m

  same_four : is_seven ws ≡ false → Same ws (four_of ws)
  unfolding four_of
  same_four s R.SubstitutionMode3a =
      (λ i. all (any (all (s i ∷ eqb (radar_code ws) cd_code ∷ []) ∷ all (s i ∷ eqb (radar_code ws) mtd_code ∷ []) ∷ all (s i ∷ eqb (radar_code ws) rdas_code ∷ []) ∷ []) ∷ not (bit ws 4) ∷ bit ws 5 ∷ []))
      ∙ sym (none_of (is_search ws) (is_strobe ws) (is_status ws) (is_map ws) R.SubstitutionMode3a (λ m. refl))
  same_four s R.RelayWithoutModeC =
      (λ i. all (all (s i ∷ bit ws 4 ∷ []) ∷ bit ws 47 ∷ not (bit ws 6) ∷ []))
      ∙ sym (none_of (is_search ws) (is_strobe ws) (is_status ws) (is_map ws) R.RelayWithoutModeC (λ m. refl))
  same_four s R.ModeCAllZeros =
      (λ i. all (s i ∷ not (bit ws 4) ∷ bit ws 6 ∷ not (bit ws 12) ∷ eqb (bits ws 79 90) 0 ∷ []))
      ∙ sym (none_of (is_search ws) (is_strobe ws) (is_status ws) (is_map ws) R.ModeCAllZeros (λ m. refl))
  same_four s R.MapStopBelowStart =
      let below = ltb (bits ws 40 50) (bits ws 14 24) in
      by_test (is_map ws)
      (λ m. (λ i. all (m i ∷ below ∷ [])) ∙ sym (only below) ∙ sym (ap (λ (r : Report). breaks r R.MapStopBelowStart) (is-map m)))
      (λ m. (λ i. all (m i ∷ below ∷ [])) ∙ sym (none_of (is_search ws) (is_strobe ws) (is_status ws) (is_map ws) R.MapStopBelowStart (λ t. differ (sym t ∙ m))))

-- ---- the same of every accepted run

module _ (form : AltitudeForm) (sound : Sound form) (zero : form.bits_of (pos 0) ≡ 0) (ws : List ℕ) where
  module _ (two : bits ws 2 3 ≡ seven_words) where
    dabs_by_bit : is_dabs ws ≡ bit ws 4
    dabs_by_bit = (λ i. all (eqb (two i) seven_words ∷ bit ws 4 ∷ [])) ∙ sym (only (bit ws 4))

    -- the code that a search message has
    search_code : (k : ℕ) → bit ws 4 ≡ false → all (is_seven ws ∷ not (bit ws 4) ∷ eqb (radar_code ws) k ∷ []) ≡ true → radar_code ws ≡ k
    search_code k f m =
        eqb-true (radar_code ws) k (only (eqb (radar_code ws) k) ∙ sym (λ i. all (eqb (two i) seven_words ∷ not (f i) ∷ eqb (radar_code ws) k ∷ [])) ∙ m)

    zero_feet : minus_zero form ws ≡ false → bit ws 6 ≡ true → bit ws 12 ≡ false → is_zero (form.altitude (bits ws 79 90)) ≡ eqb (bits ws 79 90) 0
    zero_feet z six t =
        let n = bits ws 79 90 in
        zero_is_zeros form sound zero n (omega arith)
        (only (form.refused n) ∙ sym (λ i. all (eqb (two i) seven_words ∷ not (t i) ∷ six i ∷ form.refused n ∷ [])) ∙ z)

    same_seven : unassigned ws ≡ false → minus_zero form ws ≡ false → Same ws (seven_of form ws)
    unfolding seven_of
    same_seven a z =
        by_cond (Same ws) (is_dabs ws)
        (λ d. same_dabs ws two form (sym dabs_by_bit ∙ d))
        (λ d.
        let f = sym dabs_by_bit ∙ d in
        by_cond (Same ws) (is_mtd_search ws)
        (λ m.
        let c = search_code mtd_search_code f m in
        same_search ws two (T.Mtd (mtd_of ws)) f (code_told (bit ws 12) (bits ws 88 90) mtd_search_code (omega arith) c)
        (λ i. any (all (eqb (two i) seven_words ∷ eqb (c i) cd_code ∷ []) ∷ all (eqb (two i) seven_words ∷ eqb (c i) mtd_code ∷ []) ∷ all (eqb (two i) seven_words ∷ eqb (c i) rdas_code ∷ []) ∷ []))
        (λ rule. refl))
        (λ m.
        by_cond (Same ws) (is_rdas_search ws)
        (λ r.
        let c = search_code rdas_search_code f r in
        same_search ws two (T.Rdas (rdas_of ws)) f (code_told (bit ws 12) (bits ws 88 90) rdas_search_code (omega arith) c)
        (λ i. any (all (eqb (two i) seven_words ∷ eqb (c i) cd_code ∷ []) ∷ all (eqb (two i) seven_words ∷ eqb (c i) mtd_code ∷ []) ∷ all (eqb (two i) seven_words ∷ eqb (c i) rdas_code ∷ []) ∷ []))
        (λ rule. refl))
        (λ r. same_atcrbs ws two form f (substituted ws two a m r) (zero_feet z))))

  same_report : unassigned ws ≡ false → minus_zero form ws ≡ false → Same ws (report_of form ws)
  unfolding report_of
  same_report a z =
      by_cond (Same ws) (is_seven ws) (λ s. same_seven (eqb-true (bits ws 2 3) seven_words s) a z) (λ s. same_four ws s)

  same_accepted : (r : Report) → read_run form ws ≡ Ok r → Same ws r
  same_accepted r e =
      let l = accepted_layout form ws r e in
      subst (Same ws) l.1 (same_report l.0.assigned l.0.altitude)

-- ---- no two

-- the rule that words could break, by their form
abbrev pub could : List ℕ → Rule
could ws = cond (is_seven ws) (cond (bit ws 4) R.RelayWithoutModeC (cond (bit ws 12) R.SubstitutionMode3a R.ModeCAllZeros)) R.MapStopBelowStart

-- substitution is of seven words with bit 12 one
pub substitution_told : (ws : List ℕ) → is_substitution ws ≡ true → (is_seven ws ≡ true) × (bit ws 12 ≡ true)
substitution_told ws u =
    by_test (is_seven ws)
    (λ s. by_test (bit ws 12) (λ t. (s, t))
    (λ t. differ (sym u ∙ (λ i. any (all (s i ∷ eqb (cond (t i) (bits ws 88 90) no_radar) cd_code ∷ []) ∷ all (s i ∷ eqb (cond (t i) (bits ws 88 90) no_radar) mtd_code ∷ []) ∷ all (s i ∷ eqb (cond (t i) (bits ws 88 90) no_radar) rdas_code ∷ []) ∷ [])))))
    (λ s. differ (sym u ∙ (λ i. any (all (s i ∷ eqb (radar_code ws) cd_code ∷ []) ∷ all (s i ∷ eqb (radar_code ws) mtd_code ∷ []) ∷ all (s i ∷ eqb (radar_code ws) rdas_code ∷ []) ∷ []))))

pub is_false : (b : Bool) → not b ≡ true → b ≡ false
is_false false e = refl
is_false true e = sym e

pub told : (rule : Rule) (ws : List ℕ) → broken rule ws ≡ true → could ws ≡ rule
told R.SubstitutionMode3a ws e =
    let a = splits (is_substitution ws) _ e in
    let b = splits (not (bit ws 4)) _ a.1 in
    let u = substitution_told ws a.0 in
    let f = is_false (bit ws 4) b.0 in
    λ i. cond (u.0 i) (cond (f i) R.RelayWithoutModeC (cond (u.1 i) R.SubstitutionMode3a R.ModeCAllZeros)) R.MapStopBelowStart
told R.RelayWithoutModeC ws e =
    let a = splits (is_seven ws) _ (splits (is_dabs ws) _ e).0 in
    let f = only (bit ws 4) ∙ a.1 in
    λ i. cond (a.0 i) (cond (f i) R.RelayWithoutModeC (cond (bit ws 12) R.SubstitutionMode3a R.ModeCAllZeros)) R.MapStopBelowStart
told R.ModeCAllZeros ws e =
    let a = splits (is_seven ws) _ e in
    let b = splits (not (bit ws 4)) _ a.1 in
    let c = splits (bit ws 6) _ b.1 in
    let d = splits (not (bit ws 12)) _ c.1 in
    let f = is_false (bit ws 4) b.0 in
    let t = is_false (bit ws 12) d.0 in
    λ i. cond (a.0 i) (cond (f i) R.RelayWithoutModeC (cond (t i) R.SubstitutionMode3a R.ModeCAllZeros)) R.MapStopBelowStart
told R.MapStopBelowStart ws e =
    let four = eqb-true (bits ws 2 3) four_words (splits (is_four ws) _ (splits (is_map ws) _ e).0).0 in
    λ i. cond (eqb (four i) seven_words) (cond (bit ws 4) R.RelayWithoutModeC (cond (bit ws 12) R.SubstitutionMode3a R.ModeCAllZeros)) R.MapStopBelowStart

pub at_most_one : AtMostOne
at_most_one ws a b e f = sym (told a ws e) ∙ told b ws f

-- a number leads back to its rule, by the list of them
numbered : ℕ → Rule
numbered n = get_or rules (n - 1) R.SubstitutionMode3a

back : (a : Rule) → numbered (rule_number a) ≡ a
unfolding numbered
back R.SubstitutionMode3a = refl
back R.RelayWithoutModeC = refl
back R.ModeCAllZeros = refl
back R.MapStopBelowStart = refl

pub rules_differ : (a b : Rule) → rule_number a ≡ rule_number b → a ≡ b
rules_differ a b e = sym (back a) ∙ ap numbered e ∙ back b

-- ---- what is found in a record

-- where an altitude is zero no radar stands in for the height
no-radar : (h : Height) (m : Bool) → is_sea_level h ≡ true → all (radar h ∷ m ∷ []) ≡ false
no-radar (H.Altitude z) m e = refl
no-radar (H.Carried n) m e = refl
no-radar (H.Cd c n) m e = differ (sym e)
no-radar (H.Mtd c n) m e = differ (sym e)
no-radar (H.Rdas c n) m e = differ (sym e)

found_atcrbs : (a : Atcrbs) (rule : Rule) → atcrbs_breaks a rule ≡ true → found_of (T.Atcrbs a) ≡ Some rule
found_atcrbs a R.SubstitutionMode3a e = picked _ _ e
found_atcrbs a R.RelayWithoutModeC e = differ (sym e)
found_atcrbs a R.ModeCAllZeros e = passed _ _ (no-radar a.height a.mode3a e) ∙ picked _ _ e
found_atcrbs a R.MapStopBelowStart e = differ (sym e)

found_dabs : (d : Dabs) (rule : Rule) → dabs_breaks d rule ≡ true → found_of (T.Dabs d) ≡ Some rule
found_dabs d R.SubstitutionMode3a e = differ (sym e)
found_dabs d R.RelayWithoutModeC e = picked _ _ e
found_dabs d R.ModeCAllZeros e = differ (sym e)
found_dabs d R.MapStopBelowStart e = differ (sym e)

found_map : (m : Map) (rule : Rule) → map_breaks m rule ≡ true → found_of (T.Map m) ≡ Some rule
found_map m R.SubstitutionMode3a e = differ (sym e)
found_map m R.RelayWithoutModeC e = differ (sym e)
found_map m R.ModeCAllZeros e = differ (sym e)
found_map m R.MapStopBelowStart e = picked _ _ e

-- a rule that a record breaks is the one that is found
found_told : (r : Report) (rule : Rule) → breaks r rule ≡ true → found_of r ≡ Some rule
found_told (T.Atcrbs a) rule e = found_atcrbs a rule e
found_told (T.Dabs d) rule e = found_dabs d rule e
found_told (T.Map m) rule e = found_map m rule e
found_told (T.Search s) rule e = differ (sym e)
found_told (T.Strobe s) rule e = differ (sym e)
found_told (T.Status s) rule e = differ (sym e)
found_told (T.Rtqc s) rule e = differ (sym e)
found_told (T.Mtd m) rule e = differ (sym e)
found_told (T.Rdas r) rule e = differ (sym e)

-- the rule of a breach; any where there is none
abbrev rule_in : Option Rule → Rule
rule_in None = R.SubstitutionMode3a
rule_in (Some rule) = rule

pub at_most_one_of_record : AtMostOneOfRecord
at_most_one_of_record r a b e f = ap rule_in (sym (found_told r a e) ∙ found_told r b f)

-- and what is found is a rule that the record breaks
found_breaks : (r : Report) (rule : Rule) → found_of r ≡ Some rule → breaks r rule ≡ true
found_breaks r rule e = by_rows ((law.refused_exactly (Option Rule) is_none (rule_rows r) None (Some rule) refl refl).0 e)
  where
    held : (a : Rule) → (breaks r a ≡ true) × (◌≡◌ {A = Option Rule} (Some a) (Some rule)) → breaks r rule ≡ true
    held a h = subst (λ (x : Rule). breaks r x ≡ true) (ap rule_in h.1) h.0

    by_rows : FirstIs (rule_rows r) (Some rule) → breaks r rule ≡ true
    by_rows = ⊎_elim (held R.SubstitutionMode3a)
        (λ k. ⊎_elim (held R.RelayWithoutModeC) (λ l. ⊎_elim (held R.ModeCAllZeros) (λ m. ⊎_elim (held R.MapStopBelowStart) (λ n. absurd n.1) m.1) l.1) k.1)

-- ---- what an outcome brings

-- a record's breaches, listed at a place, are the one that is found
module _ (p : ℕ) where
  one_listed : (b : Bool) (rule : Rule) → map (breach p) (cond b (rule ∷ []) []) ≡ list_of p (cond b (Some rule) None)
  one_listed true rule = refl
  one_listed false rule = refl

  atcrbs_listed : (m : Bool) (h : Height)
      → map (breach p) (cond (all (radar h ∷ m ∷ [])) (R.SubstitutionMode3a ∷ cond (is_sea_level h) (R.ModeCAllZeros ∷ []) []) (cond (is_sea_level h) (R.ModeCAllZeros ∷ []) []))
      ≡ list_of p (atcrbs_found m h)
  atcrbs_listed m (H.Altitude z) = one_listed (is_zero z) R.ModeCAllZeros
  atcrbs_listed m (H.Carried n) = refl
  atcrbs_listed m (H.Cd c n) = one_listed (all (m ∷ [])) R.SubstitutionMode3a
  atcrbs_listed m (H.Mtd c n) = one_listed (all (m ∷ [])) R.SubstitutionMode3a
  atcrbs_listed m (H.Rdas c n) = one_listed (all (m ∷ [])) R.SubstitutionMode3a

  record_listed : (r : Report) → map (breach p) (passing (breaks r) rules) ≡ list_of p (found_of r)
  record_listed (T.Atcrbs a) = atcrbs_listed a.mode3a a.height
  record_listed (T.Dabs d) = one_listed (all (d.relay ∷ not (mode_c_of d.height) ∷ [])) R.RelayWithoutModeC
  record_listed (T.Map m) = one_listed (ltb m.stop.0 m.start.0) R.MapStopBelowStart
  record_listed (T.Search s) = refl
  record_listed (T.Strobe s) = refl
  record_listed (T.Status s) = refl
  record_listed (T.Rtqc s) = refl
  record_listed (T.Mtd m) = refl
  record_listed (T.Rdas r) = refl

-- ---- the two forms of the altitude

zero_of : (f : Form) → (form_of f).bits_of (pos 0) ≡ 0
zero_of O.SignMagnitude = refl
zero_of O.TwosComplement = refl

pub same_of_record : SameOfRecord
same_of_record f ws r e = same_accepted (form_of f) (forms_sound f) (zero_of f) ws r e

pub found_exactly : FoundExactly
found_exactly f ws r e rule = (
  λ k. same_of_record f ws r e rule ∙ found_breaks r rule k,
  λ k. found_told r rule (sym (same_of_record f ws r e rule) ∙ k),
)

-- what a run's outcome brings is the run's breaches
pub brought : (f : Form) (r : Run) → brought_by (outcome_of_run (read_run (form_of f)) r) ≡ breaches_of (form_of f) r
brought f r = by_answer (read_run (form_of f) r.words) refl
  where
    by_answer : (a : Result Report RunRefusal) → read_run (form_of f) r.words ≡ a
        → brought_by (placed r.place (length r.words) a) ≡ cond (is_accepted a) (map (breach r.place) (broken_by r.words)) []
    by_answer (Ok report) e =
        sym (ap (map (breach r.place)) (λ i. passing (λ rule. same_of_record f r.words report e rule i) rules) ∙ record_listed r.place report)
    by_answer (Err refusal) e = refl
