-- Demand 2 of reports: a run is accepted as r exactly when its words are those of r, and r's values fit.
-- A run that passes the tests holds the fields of what it is read as, and the other way round (Four, Seven); that words hold the fields of a
-- layout exactly when they are its words is one law of `words`. Assumes nothing.
use Rattle.std.specs.Prelude.{Err, Ok}
use Prim.Native.Nat.{ℕ}
use mathlib.Core.Path.{◌≡◌, refl, ap, sym, ◌∙◌, subst}
use mathlib.Core.Bool.{Bool, true, false, cond}
use mathlib.Core.List.{List}
use mathlib.Core.Logic.{inl, inr}
use borrow.Author.Tests.{eqb-true, eq-eqb, not-false}
use lib.Dec.{eqb}
use lib.ListN.{length}
use Rattle.refusals.specs.declared.LineRefusal.TheVariants.{ValueTooLarge}
use Rattle.words.specs.Word.{AllGood}
use Rattle.words.specs.Layout.{Laid, LaidFrom}
use Rattle.words.proofs.Layouts as words
use Rattle.reports.specs.declared.Report.{Report}
use Rattle.reports.specs.declared.Report.TheVariants as R
use Rattle.reports.specs.Altitude.{AltitudeForm, Sound}
use Rattle.reports.specs.Forms.{is_seven, word_count, is_search, is_strobe, is_status, is_map, is_dabs, is_mtd_search, is_rdas_search}
use Rattle.reports.specs.Records.{four_of, seven_of, report_of}
use Rattle.reports.specs.Layouts.{layout_of, words_of, Fits, Takes, as_written, written}
use Rattle.reports.specs.Conditions.{zeros, HasLayout}
use Rattle.reports.specs.Runs.{read_run}
use Rattle.reports.specs.Claims as claims
use Rattle.reports.proofs.Tests.{by_cond}
use Rattle.reports.proofs.Widths.{twelve}
use Rattle.reports.proofs.Refusals.{accepted_layout, layout_accepted}
use Rattle.reports.proofs.Four as four
use Rattle.reports.proofs.Seven as seven

-- ---- words that have a layout hold the fields of what they are read as

-- the layout of r has n words
abbrev Long : AltitudeForm → ℕ → Report → Type 0
Long form n r = length (layout_of form r) ≡ n

four_length : (form : AltitudeForm) (ws : List ℕ) → Long form 4 (four_of ws)
unfolding four_of
four_length form ws =
    by_cond (Long form 4) (is_search ws) (λ k. refl)
    (λ k. by_cond (Long form 4) (is_strobe ws) (λ k. refl)
    (λ k. by_cond (Long form 4) (is_status ws) (λ k. refl)
    (λ k. by_cond (Long form 4) (is_map ws) (λ k. refl) (λ k. refl))))

seven_length : (form : AltitudeForm) (ws : List ℕ) → Long form 7 (seven_of form ws)
unfolding seven_of
seven_length form ws =
    by_cond (Long form 7) (is_dabs ws) (λ k. refl)
    (λ k. by_cond (Long form 7) (is_mtd_search ws) (λ k. refl)
    (λ k. by_cond (Long form 7) (is_rdas_search ws) (λ k. refl) (λ k. refl)))

layout_length : (form : AltitudeForm) (ws : List ℕ) → length ws ≡ word_count ws → length ws ≡ length (layout_of form (report_of form ws))
unfolding report_of
layout_length form ws h = go (is_seven ws) h
  where
    go : (x : Bool) → length ws ≡ cond x 7 4 → length ws ≡ length (layout_of form (cond x (seven_of form ws) (four_of ws)))
    go true e = e ∙ sym (seven_length form ws)
    go false e = e ∙ sym (four_length form ws)

layout_laid : (form : AltitudeForm) → Sound form → (ws : List ℕ) → HasLayout form ws → LaidFrom 1 (layout_of form (report_of form ws)) ws
unfolding report_of zeros
layout_laid form sound ws h = go (is_seven ws) refl
  where
    none : eqb (zeros ws) 0 ≡ true
    none = not-false _ h.spares

    go : (x : Bool) → is_seven ws ≡ x → LaidFrom 1 (layout_of form (cond x (seven_of form ws) (four_of ws))) ws
    go true s = seven.seven_laid form sound ws (eqb-true _ _ s) h.assigned h.altitude (eqb-true _ _ (simp s at none))
    go false s = four.four_laid ws (eqb-true _ _ (four.is-four ws s h.known)) form h.known (eqb-true _ _ (simp s at none))

layout_words : (form : AltitudeForm) → Sound form → (ws : List ℕ) → HasLayout form ws → (ws ≡ words_of form (report_of form ws)) × Fits form (report_of form ws)
layout_words form sound ws h =
    words.laid_words (layout_of form (report_of form ws)) ws (twelve form (report_of form ws)) h.good (record {
      whole = layout_length form ws (eqb-true _ _ (not-false _ h.whole));
      fields = layout_laid form sound ws h;
    })

-- ---- words that hold a report's fields have a layout, and are read as that report

abbrev ReadAs : AltitudeForm → List ℕ → Report → Type 0
ReadAs form ws r = HasLayout form ws × (report_of form ws ≡ r)

four_read : (form : AltitudeForm) (ws : List ℕ) (r : Report) → length ws ≡ 4 → AllGood ws → four.Held ws r → ReadAs form ws r
unfolding report_of zeros
four_read form ws r n g h =
    let two = h.two in (
      record {
        good = g;
        known = h.known;
        whole = simp (two, eq-eqb (length ws) 4 n);
        assigned = simp two;
        spares = simp (two, h.spare);
        altitude = simp two;
      },
      simp two h.report,
    )

seven_read : (form : AltitudeForm) (ws : List ℕ) (r : Report) → length ws ≡ 7 → AllGood ws → seven.Held form ws r → ReadAs form ws r
unfolding report_of zeros
seven_read form ws r n g h =
    let two = h.two in (
      record {
        good = g;
        known = simp two;
        whole = simp (two, eq-eqb (length ws) 7 n);
        assigned = h.assigned;
        spares = simp (two, h.spare);
        altitude = h.altitude;
      },
      simp two h.report,
    )

laid_read : (form : AltitudeForm) → Sound form → (ws : List ℕ) (r : Report) → AllGood ws → Laid (layout_of form r) ws → ReadAs form ws r
laid_read form sound ws (R.Search s) g h = four_read form ws (R.Search s) h.whole g (four.search_held ws s h.fields)
laid_read form sound ws (R.Strobe s) g h = four_read form ws (R.Strobe s) h.whole g (four.strobe_held ws s h.fields)
laid_read form sound ws (R.Map m) g h = four_read form ws (R.Map m) h.whole g (four.map_held ws m h.fields)
laid_read form sound ws (R.Status s) g h = four_read form ws (R.Status s) h.whole g (four.status_held ws s h.fields)
laid_read form sound ws (R.Rtqc s) g h = four_read form ws (R.Rtqc s) h.whole g (four.rtqc_held ws s h.fields)
laid_read form sound ws (R.Dabs d) g h = seven_read form ws (R.Dabs d) h.whole g (seven.dabs_held form sound ws d h.fields)
laid_read form sound ws (R.Atcrbs a) g h = seven_read form ws (R.Atcrbs a) h.whole g (seven.atcrbs_held form sound ws a h.fields)
laid_read form sound ws (R.Mtd m) g h = seven_read form ws (R.Mtd m) h.whole g (seven.mtd_held form sound ws m h.fields)
laid_read form sound ws (R.Rdas r) g h = seven_read form ws (R.Rdas r) h.whole g (seven.rdas_held form sound ws r h.fields)

pub words_good : (form : AltitudeForm) (r : Report) → Fits form r → AllGood (words_of form r)
words_good form r f = words.words_good (layout_of form r) (twelve form r) f

words_read : (form : AltitudeForm) → Sound form → (r : Report) → Fits form r → ReadAs form (words_of form r) r
words_read form sound r f = laid_read form sound (words_of form r) r (words_good form r f) (words.words_laid (layout_of form r) (twelve form r) f)

pub words_length : claims.FourOrSeven
words_length form (R.Search s) = inl refl
words_length form (R.Strobe s) = inl refl
words_length form (R.Map m) = inl refl
words_length form (R.Status s) = inl refl
words_length form (R.Rtqc s) = inl refl
words_length form (R.Dabs d) = inr refl
words_length form (R.Atcrbs a) = inr refl
words_length form (R.Mtd m) = inr refl
words_length form (R.Rdas r) = inr refl

-- ---- the law

pub demand_2 : claims.Demand2
demand_2 form sound ws r = (
  λ h.
      let k = accepted_layout form ws r h in
      subst (λ (x : Report). (ws ≡ words_of form x) × Fits form x) k.1 (layout_words form sound ws k.0),
  λ h.
      let k = words_read form sound r h.1 in
      subst (λ (l : List ℕ). read_run form l ≡ Ok r) (sym h.0) (layout_accepted form (words_of form r) k.0 ∙ ap Ok k.1),
)

-- ---- what follows from it

pub layout_is_words : claims.LayoutIsWords
layout_is_words form sound ws = (
  λ h. let k = layout_words form sound ws h in (report_of form ws, k.0, k.1),
  λ h. subst (λ (l : List ℕ). HasLayout form l) (sym h.1) (words_read form sound h.0 h.2).0,
)

taken_written : (form : AltitudeForm) (r : Report) → Takes form r → written form r ≡ as_written (words_of form r)
taken_written form r t = ap (λ (b : Bool). cond b (as_written (words_of form r)) (Err ValueTooLarge)) t

pub written_again : claims.WrittenAgain
written_again form sound ws r h =
    let k = (demand_2 form sound ws r).0 h in
    (sym k.0, λ t. taken_written form r t ∙ ap as_written (sym k.0))

pub read_back : claims.ReadBack
read_back form sound r t = (taken_written form r t, (demand_2 form sound (words_of form r) r).1 (refl, t))

pub takes_what_fits : claims.TakesWhatFits
takes_what_fits form r f = f

-- and what the writer takes fits
pub takes_fits : (form : AltitudeForm) (r : Report) → Takes form r → Fits form r
takes_fits form r h = h
