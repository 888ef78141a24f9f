-- Reports of four words: words that pass the tests hold the fields of what they are read as, and words that hold a report's fields pass the
-- tests and are read as that report. Assumes nothing.
use Prim.Native.Nat.{ℕ, ◌≤◌}
use mathlib.Core.Path.{◌≡◌, refl, sym}
use mathlib.Core.Bool.{Bool, true, false}
use mathlib.Core.List.{List}
use native.Mathlib.Omega.{arith}
use borrow.Author.Tests.{eqb-true, ne_eqb}
use lib.Dec.{eqb, lit≤}
use Rattle.words.specs.Word.{bits, bit}
use Rattle.words.specs.Layout.{LaidFrom}
use Rattle.words.proofs.Fields.{flagged, unflagged}
use Rattle.reports.specs.declared.Search.{Search}
use Rattle.reports.specs.declared.Strobe.{Strobe}
use Rattle.reports.specs.declared.Map.{Map}
use Rattle.reports.specs.declared.Status.{Status}
use Rattle.reports.specs.declared.Rtqc.{Rtqc}
use Rattle.reports.specs.declared.Report.{Report}
use Rattle.reports.specs.declared.Report.TheVariants as R
use Rattle.reports.specs.Altitude.{AltitudeForm}
use Rattle.reports.specs.Forms.{four_words, seven_words, search_pattern, strobe_pattern, status_pattern, rtqc_pattern, map_pattern, is_four, is_seven, is_search, is_strobe, is_status, is_map, is_rtqc}
use Rattle.reports.specs.Records.{search_of, strobe_of, map_of, status_of, rtqc_of, four_of}
use Rattle.reports.specs.Layouts.{search_layout, strobe_layout, map_layout, status_layout, rtqc_layout, layout_of}
use Rattle.reports.specs.Conditions.{unknown_form, four_zeros}
use Rattle.reports.proofs.Tests.{by_conds, number_holds, others_hold, last_holds, ◌&◌}

-- an RTQC's pattern is no Map's
rtqc_no_map : (ws : List ℕ) → bits ws 4 10 ≡ rtqc_pattern → eqb (bits ws 4 8) map_pattern ≡ false
rtqc_no_map ws k = ne_eqb (bits ws 4 8) map_pattern (λ e. omega arith)

-- bits 2-3 are one of the two
pub four_not_seven : (n : ℕ) → n ≡ four_words → eqb n seven_words ≡ false
four_not_seven n e = ne_eqb n seven_words (λ k. omega arith)

-- not seven words, and a form that is known: four words
pub is-four : (ws : List ℕ) → is_seven ws ≡ false → unknown_form ws ≡ false → is_four ws ≡ true
is-four ws n known = go (is_four ws) refl
  where
    go : (x : Bool) → is_four ws ≡ x → x ≡ true
    go true e = refl
    go false e = sym (simp (n, e) at known)

-- ---- from words to fields: a flag is its bit, a fixed field is what a test found, any other is read as it stands

module _ (ws : List ℕ) (two : bits ws 2 3 ≡ four_words) where
  search_laid : bits ws 4 10 ≡ search_pattern → bits ws 25 25 ≡ 0 → LaidFrom 1 (search_layout (search_of ws)) ws
  search_laid k z =
      (flagged _ & two & k & flagged _ & flagged _ & tt)
      & (refl & z & tt)
      & (refl & tt)
      & (flagged _ & refl & refl & refl & tt)
      & tt

  strobe_laid : bits ws 4 10 ≡ strobe_pattern → bits ws 25 25 ≡ 0 → LaidFrom 1 (strobe_layout (strobe_of ws)) ws
  strobe_laid k z =
      (flagged _ & two & k & flagged _ & flagged _ & tt)
      & (refl & z & tt)
      & (refl & tt)
      & (refl & refl & tt)
      & tt

  status_laid : bits ws 4 10 ≡ status_pattern → LaidFrom 1 (status_layout (status_of ws)) ws
  status_laid k =
      (flagged _ & two & k & flagged _ & flagged _ & tt)
      & (refl & tt)
      & (refl & tt)
      & (refl & tt)
      & tt

  rtqc_laid : bits ws 1 1 ≡ 1 → bits ws 4 10 ≡ rtqc_pattern → bits ws 25 25 ≡ 0 → LaidFrom 1 (rtqc_layout (rtqc_of ws)) ws
  rtqc_laid one k z =
      (one & two & k & flagged _ & flagged _ & tt)
      & (refl & z & tt)
      & (refl & tt)
      & (refl & refl & tt)
      & tt

  map_laid : bits ws 4 8 ≡ map_pattern → bits ws 25 25 ≡ 0 → bits ws 51 51 ≡ 0 → LaidFrom 1 (map_layout (map_of ws)) ws
  map_laid k z y =
      (flagged _ & two & k & refl & flagged _ & flagged _ & tt)
      & (refl & z & tt)
      & (refl & tt)
      & (refl & y & tt)
      & tt

  -- what is known and is none of the others is an RTQC
  rtqc_left : unknown_form ws ≡ false → is_search ws ≡ false → is_strobe ws ≡ false → is_status ws ≡ false → is_map ws ≡ false → is_rtqc ws ≡ true
  rtqc_left known n1 n2 n3 n4 = let n5 : is_seven ws ≡ false = four_not_seven _ two in last_holds (is_rtqc ws) (simp (n1, n2, n3, n4, n5) at known)

  -- whatever the form of the altitude is: no report of four words holds one
  pub four_laid : (form : AltitudeForm) → unknown_form ws ≡ false → four_zeros ws ≡ 0 → LaidFrom 1 (layout_of form (four_of ws)) ws
  unfolding four_of four_zeros
  four_laid form u =
      by_conds Laid4 (is_search ws) (λ k. search_laid (number_holds (is_four ws) _ _ k))
      (λ n1. by_conds Laid4 (is_strobe ws) (λ k. strobe_laid (number_holds (is_four ws) _ _ k))
      (λ n2. by_conds Laid4 (is_status ws) (λ k z. status_laid (number_holds (is_four ws) _ _ k))
      (λ n3. by_conds Laid4 (is_map ws) (λ k z. map_laid (number_holds (is_four ws) _ _ k) (omega arith) (omega arith))
      (λ n4. let k = others_hold (is_four ws) (eqb (bits ws 4 10) rtqc_pattern) (bit ws 1) (rtqc_left u n1 n2 n3 n4) in rtqc_laid (eqb-true _ _ k.1) (eqb-true _ _ k.0)))))
    where
      Laid4 : Report → ℕ → Type 0
      Laid4 r n = n ≡ 0 → LaidFrom 1 (layout_of form r) ws

-- ---- from fields to words: the tests find the fixed fields, and each field of the record is its bits

-- four words that pass as r
pub record Held (ws : List ℕ) (r : Report) : Type 0 where
  pub two : bits ws 2 3 ≡ four_words
  pub known : unknown_form ws ≡ false
  pub spare : four_zeros ws ≡ 0
  pub report : four_of ws ≡ r

-- bits 4 to 8 of a Map are zero, so bits 4 to 10 are no other kind's
pub not-map : (ws : List ℕ) (n : ℕ) → bits ws 4 8 ≡ map_pattern → 4 ≤ n → eqb (bits ws 4 10) n ≡ false
not-map ws n z l = ne_eqb (bits ws 4 10) n (λ e. omega arith)

module _ (ws : List ℕ) where
  pub search_held : (s : Search) → LaidFrom 1 (search_layout s) ws → Held ws (R.Search s)
  unfolding four_of four_zeros
  search_held s h =
      let two = h.0.1.0 in
      let k = h.0.1.1.0 in
      record {
        two = two;
        known = simp (two, k);
        spare = simp (two, k, h.1.0.1.0);
        report = simp (two, k, unflagged, h.0.0, h.0.1.1.1.0, h.0.1.1.1.1.0, h.1.0.0, h.1.1.0.0, h.1.1.1.0.0, h.1.1.1.0.1.0, h.1.1.1.0.1.1.0, h.1.1.1.0.1.1.1.0);
      }

  pub strobe_held : (s : Strobe) → LaidFrom 1 (strobe_layout s) ws → Held ws (R.Strobe s)
  unfolding four_of four_zeros
  strobe_held s h =
      let two = h.0.1.0 in
      let k = h.0.1.1.0 in
      record {
        two = two;
        known = simp (two, k);
        spare = simp (two, k, h.1.0.1.0);
        report = simp (two, k, unflagged, h.0.0, h.0.1.1.1.0, h.0.1.1.1.1.0, h.1.0.0, h.1.1.0.0, h.1.1.1.0.0, h.1.1.1.0.1.0);
      }

  pub status_held : (s : Status) → LaidFrom 1 (status_layout s) ws → Held ws (R.Status s)
  unfolding four_of four_zeros
  status_held s h =
      let two = h.0.1.0 in
      let k = h.0.1.1.0 in
      record {
        two = two;
        known = simp (two, k);
        spare = simp (two, k);
        report = simp (two, k, unflagged, h.0.0, h.0.1.1.1.0, h.0.1.1.1.1.0, h.1.0.0, h.1.1.0.0, h.1.1.1.0.0);
      }

  pub rtqc_held : (s : Rtqc) → LaidFrom 1 (rtqc_layout s) ws → Held ws (R.Rtqc s)
  unfolding four_of four_zeros
  rtqc_held s h =
      let two = h.0.1.0 in
      let k = h.0.1.1.0 in
      record {
        two = two;
        known = simp (two, rtqc_no_map ws k, k, h.0.0);
        spare = simp (two, rtqc_no_map ws k, k, h.1.0.1.0);
        report = simp (two, rtqc_no_map ws k, k, unflagged, h.0.1.1.1.0, h.0.1.1.1.1.0, h.1.0.0, h.1.1.0.0, h.1.1.1.0.0, h.1.1.1.0.1.0);
      }

  pub map_held : (m : Map) → LaidFrom 1 (map_layout m) ws → Held ws (R.Map m)
  unfolding four_of four_zeros
  map_held m h =
      let two = h.0.1.0 in
      let k = h.0.1.1.0 in
      let n1 = not-map ws search_pattern k (lit≤ tt) in
      let n2 = not-map ws strobe_pattern k (lit≤ tt) in
      let n3 = not-map ws status_pattern k (lit≤ tt) in
      record {
        two = two;
        known = simp (two, n1, n2, n3, k);
        spare = simp (two, n1, n2, n3, k, h.1.0.1.0, h.1.1.1.0.1.0);
        report = simp (two, n1, n2, n3, k, unflagged, h.0.0, h.0.1.1.1.0, h.0.1.1.1.1.0, h.0.1.1.1.1.1.0, h.1.0.0, h.1.1.0.0, h.1.1.1.0.0);
      }
