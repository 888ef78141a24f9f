-- Reports of seven words: words that pass the tests hold the fields of what they are read as, and words that hold a report's fields pass
-- the tests and are read as that report. Assumes nothing.
use Prim.Native.Nat.{ℕ, ◌+◌}
use mathlib.Core.Path.{◌≡◌, refl}
use mathlib.Core.Bool.{true, false, not}
use mathlib.Core.List.{List}
use native.Mathlib.Omega.{arith}
use borrow.Author.Tests.{eqb-true, not-true}
use lib.Dec.{lit<}
use lib.Pow.{split}
use Rattle.words.specs.Word.{bits, bit}
use Rattle.words.specs.Layout.{LaidFrom}
use Rattle.words.proofs.Fields.{flagged, unflagged, upper, lower}
use Rattle.reports.specs.declared.Height.{Height}
use Rattle.reports.specs.declared.Dabs.{Dabs}
use Rattle.reports.specs.declared.Atcrbs.{Atcrbs}
use Rattle.reports.specs.declared.Mtd.{Mtd}
use Rattle.reports.specs.declared.Rdas.{Rdas}
use Rattle.reports.specs.declared.Report.{Report}
use Rattle.reports.specs.declared.Report.TheVariants as R
use Rattle.reports.specs.Altitude.{AltitudeForm, Sound}
use Rattle.reports.specs.Forms.{seven_words, mtd_search_code, rdas_search_code, is_seven, is_dabs, is_cd, is_mtd, is_rdas, is_mtd_search, is_rdas_search}
use Rattle.reports.specs.Records.{height_of, dabs_of, atcrbs_of, mtd_of, rdas_of, seven_of}
use Rattle.reports.specs.Layouts.{layout_of}
use Rattle.reports.specs.Conditions.{unassigned, seven_spares, minus_zero}
use Rattle.reports.proofs.Tests.{by_conds, number_holds, others_hold, holds_not, bit_zero, ◌&◌}
use Rattle.reports.proofs.Heights.{Stands, tells, height_laid, height_held}

-- ---- from words to fields: a flag is its bit, a fixed field is what a test found, a number in two parts is its parts, any other is read
-- as it stands

module _ (form : AltitudeForm) (sound : Sound form) (ws : List ℕ) (two : bits ws 2 3 ≡ seven_words) where
  dabs_laid : (h : Height) → Stands form ws h → bits ws 4 4 ≡ 1 → bits ws 45 46 ≡ 0 → LaidFrom 1 (layout_of form (R.Dabs (dabs_of ws h))) ws
  dabs_laid h s one z =
      (flagged _ & two & one & flagged _ & s.0 & flagged _ & flagged _ & flagged _ & flagged _ & flagged _ & s.1 & tt)
      & (upper 3 _ _ & tt)
      & (lower 3 _ _ & upper 4 _ _ & tt)
      & (lower 4 _ _ & flagged _ & z & flagged _ & refl & tt)
      & (upper 12 _ _ & tt)
      & (lower 12 _ _ & tt)
      & s.2
      & tt

  atcrbs_laid : (h : Height) → Stands form ws h → bits ws 4 4 ≡ 0 → LaidFrom 1 (layout_of form (R.Atcrbs (atcrbs_of ws h))) ws
  atcrbs_laid h s none =
      (flagged _ & two & none & flagged _ & s.0 & flagged _ & flagged _ & flagged _ & flagged _ & flagged _ & s.1 & tt)
      & (upper 3 _ _ & tt)
      & (lower 3 _ _ & upper 4 _ _ & tt)
      & (lower 4 _ _ & flagged _ & flagged _ & flagged _ & flagged _ & refl & tt)
      & (refl & tt)
      & (refl & tt)
      & s.2
      & tt

  mtd_laid : is_mtd_search ws ≡ true → bits ws 5 10 + bits ws 45 45 + bits ws 87 87 ≡ 0 → LaidFrom 1 (layout_of form (R.Mtd (mtd_of ws))) ws
  mtd_laid k z =
      let q = others_hold (is_seven ws) (not (bit ws 4)) _ k in
      let t = tells ws mtd_search_code (lit< tt) (eqb-true _ _ q.1) in
      (flagged _ & two & bit_zero _ (not-true _ q.0) & (omega arith) & flagged _ & t.0 & tt)
      & (upper 3 _ _ & tt)
      & (lower 3 _ _ & upper 4 _ _ & tt)
      & (lower 4 _ _ & flagged _ & (omega arith) & refl & tt)
      & (refl & refl & tt)
      & (refl & tt)
      & (refl & refl & flagged _ & flagged _ & (omega arith) & t.1 & tt)
      & tt

  rdas_laid : is_rdas_search ws ≡ true → bits ws 5 10 + bits ws 45 45 + bits ws 53 64 + bits ws 83 84 + bits ws 86 87 ≡ 0
      → LaidFrom 1 (layout_of form (R.Rdas (rdas_of ws))) ws
  rdas_laid k z =
      let q = others_hold (is_seven ws) (not (bit ws 4)) _ k in
      let t = tells ws rdas_search_code (lit< tt) (eqb-true _ _ q.1) in
      (flagged _ & two & bit_zero _ (not-true _ q.0) & (omega arith) & flagged _ & t.0 & tt)
      & (upper 3 _ _ & tt)
      & (lower 3 _ _ & upper 4 _ _ & tt)
      & (lower 4 _ _ & flagged _ & (omega arith) & refl & tt)
      & ((omega arith) & tt)
      & (refl & tt)
      & (refl & (omega arith) & flagged _ & (omega arith) & t.1 & tt)
      & tt

  -- what is assigned and has no radar's code has bit 12 zero
  plain : unassigned ws ≡ false → is_mtd_search ws ≡ false → is_rdas_search ws ≡ false → is_cd ws ≡ false → is_mtd ws ≡ false → is_rdas ws ≡ false → bit ws 12 ≡ false
  plain u m2 m1 n1 n2 n3 = holds_not (bit ws 12) (simp two at (simp (m2, m1, n1, n2, n3) at u))

  abbrev Laid7 : Report → ℕ → Type 0
  Laid7 r n = n ≡ 0 → LaidFrom 1 (layout_of form r) ws

  pub seven_laid : unassigned ws ≡ false → minus_zero form ws ≡ false → Laid7 (seven_of form ws) (seven_spares ws)
  unfolding seven_of seven_spares
  seven_laid u m =
      by_conds Laid7 (is_dabs ws)
      (λ k z.
      let one : bits ws 4 4 ≡ 1 = number_holds (is_seven ws) _ _ k in
      dabs_laid (height_of form ws) (height_laid form sound ws two (plain u (simp (two, one)) (simp (two, one))) m (omega arith)) one (omega arith))
      (λ k. by_conds Laid7 (is_mtd_search ws) mtd_laid
      (λ m2. by_conds Laid7 (is_rdas_search ws) rdas_laid
      (λ m1 z. atcrbs_laid (height_of form ws) (height_laid form sound ws two (plain u m2 m1) m z) (bit_zero _ (holds_not (bit ws 4) (simp two at k))))))

-- ---- from fields to words: the tests find the fixed fields, and each field of the record is its bits

-- seven words that pass as r
pub record Held (form : AltitudeForm) (ws : List ℕ) (r : Report) : Type 0 where
  pub two : bits ws 2 3 ≡ seven_words
  pub assigned : unassigned ws ≡ false
  pub spare : seven_spares ws ≡ 0
  pub altitude : minus_zero form ws ≡ false
  pub report : seven_of form ws ≡ r

module _ (form : AltitudeForm) (sound : Sound form) (ws : List ℕ) where
  pub dabs_held : (d' : Dabs) → LaidFrom 1 (layout_of form (R.Dabs d')) ws → Held form ws (R.Dabs d')
  unfolding seven_of seven_spares
  dabs_held d' h =
      let k = h.0.1.1.0 in
      let p = height_held form sound ws h.0.1.0 d'.height (h.0.1.1.1.1.0, h.0.1.1.1.1.1.1.1.1.1.1.0, h.1.1.1.1.1.1.0) in
      record {
        two = h.0.1.0;
        assigned = p.assigned;
        spare = simp (h.0.1.0, k, h.1.1.1.0.1.1.0, p.spare);
        altitude = p.altitude;
        report = simp (h.0.1.0, k, p.same, unflagged, h.0.0, h.0.1.1.1.0, h.0.1.1.1.1.1.0, h.0.1.1.1.1.1.1.0, h.0.1.1.1.1.1.1.1.0, h.0.1.1.1.1.1.1.1.1.0, h.0.1.1.1.1.1.1.1.1.1.0, h.1.0.0, h.1.1.0.0, h.1.1.0.1.0, h.1.1.1.0.0, h.1.1.1.0.1.0, h.1.1.1.0.1.1.1.0, h.1.1.1.0.1.1.1.1.0, h.1.1.1.1.0.0, h.1.1.1.1.1.0.0, split d'.range.0 3, split d'.azimuth.0 4, split d'.address 12);
      }

  pub atcrbs_held : (r : Atcrbs) → LaidFrom 1 (layout_of form (R.Atcrbs r)) ws → Held form ws (R.Atcrbs r)
  unfolding seven_of seven_spares
  atcrbs_held r h =
      let k = h.0.1.1.0 in
      let p = height_held form sound ws h.0.1.0 r.height (h.0.1.1.1.1.0, h.0.1.1.1.1.1.1.1.1.1.1.0, h.1.1.1.1.1.1.0) in
      record {
        two = h.0.1.0;
        assigned = p.assigned;
        spare = simp (h.0.1.0, k, p.beacon.0, p.beacon.1, p.spare);
        altitude = p.altitude;
        report = simp (h.0.1.0, k, p.beacon.0, p.beacon.1, p.same, unflagged, h.0.0, h.0.1.1.1.0, h.0.1.1.1.1.1.0, h.0.1.1.1.1.1.1.0, h.0.1.1.1.1.1.1.1.0, h.0.1.1.1.1.1.1.1.1.0, h.0.1.1.1.1.1.1.1.1.1.0, h.1.0.0, h.1.1.0.0, h.1.1.0.1.0, h.1.1.1.0.0, h.1.1.1.0.1.0, h.1.1.1.0.1.1.0, h.1.1.1.0.1.1.1.0, h.1.1.1.0.1.1.1.1.0, h.1.1.1.0.1.1.1.1.1.0, h.1.1.1.1.0.0, h.1.1.1.1.1.0.0, split r.range.0 3, split r.azimuth.0 4);
      }

  pub mtd_held : (r : Mtd) → LaidFrom 1 (layout_of form (R.Mtd r)) ws → Held form ws (R.Mtd r)
  unfolding seven_of seven_spares
  mtd_held r h =
      let two = h.0.1.0 in
      let k = h.0.1.1.0 in
      let x = h.0.1.1.1.1.1.0 in
      let t = h.1.1.1.1.1.1.0.1.1.1.1.1.0 in
      record {
        two = two;
        assigned = simp (two, k, x, t);
        spare = simp (h.0.1.0, k, x, t, h.0.1.1.1.0, h.1.1.1.0.1.1.0, h.1.1.1.1.1.1.0.1.1.1.1.0);
        altitude = simp (two, x);
        report = simp (h.0.1.0, k, x, t, unflagged, h.0.0, h.0.1.1.1.1.0, h.1.0.0, h.1.1.0.0, h.1.1.0.1.0, h.1.1.1.0.0, h.1.1.1.0.1.0, h.1.1.1.0.1.1.1.0, h.1.1.1.1.0.0, h.1.1.1.1.0.1.0, h.1.1.1.1.1.0.0, h.1.1.1.1.1.1.0.0, h.1.1.1.1.1.1.0.1.0, h.1.1.1.1.1.1.0.1.1.0, h.1.1.1.1.1.1.0.1.1.1.0, split r.range.0 3, split r.azimuth.0 4);
      }

  pub rdas_held : (r : Rdas) → LaidFrom 1 (layout_of form (R.Rdas r)) ws → Held form ws (R.Rdas r)
  unfolding seven_of seven_spares
  rdas_held r h =
      let two = h.0.1.0 in
      let k = h.0.1.1.0 in
      let x = h.0.1.1.1.1.1.0 in
      let t = h.1.1.1.1.1.1.0.1.1.1.1.0 in
      record {
        two = two;
        assigned = simp (two, k, x, t);
        spare = simp (h.0.1.0, k, x, t, h.0.1.1.1.0, h.1.1.1.0.1.1.0, h.1.1.1.1.0.0, h.1.1.1.1.1.1.0.1.0, h.1.1.1.1.1.1.0.1.1.1.0);
        altitude = simp (two, x);
        report = simp (h.0.1.0, k, x, t, unflagged, h.0.0, h.0.1.1.1.1.0, h.1.0.0, h.1.1.0.0, h.1.1.0.1.0, h.1.1.1.0.0, h.1.1.1.0.1.0, h.1.1.1.0.1.1.1.0, h.1.1.1.1.1.0.0, h.1.1.1.1.1.1.0.0, h.1.1.1.1.1.1.0.1.1.0, split r.range.0 3, split r.azimuth.0 4);
      }
