-- A list of reports that was written with idle words between reads back: the claim ReadsBack, for any answer that gives each
-- report that fits for its words; and ReaderReturns and EqualLists. Assumes nothing.
use Prim.Native.Nat.{ℕ, zero, suc, ◌+◌, ◌≤◌, ◌<◌}
use native.Mathlib.Nat.{add-zero}
use mathlib.Core.Path.{◌≡◌, refl, ap, sym, ◌∙◌, subst}
use mathlib.Core.Logic.{⊎_elim}
use mathlib.Core.List.{List, [], ◌∷◌, ◌++◌, map, append-nil}
use native.Mathlib.Omega.{arith}
use lib.ListN.{length, replicate}
use Rattle.words.specs.Word.{idle}
use Rattle.reports.specs.declared.Report.{Report}
use Rattle.reports.specs.Altitude.{AltitudeForm}
use Rattle.reports.specs.Layouts.{words_of, Fits}
use Rattle.reports.specs.Runs.{read_run}
use Rattle.reports.proofs.Demand2.{words_length, words_good, demand_2}
use Rattle.lines.specs.declared.What.{What}
use Rattle.lines.specs.declared.What.TheVariants as W
use Rattle.lines.specs.declared.Outcome.{Outcome}
use Rattle.lines.specs.Line.{most, outcome_of, end_of, stretch, placed, outcomes}
use Rattle.lines.specs.Stretches.{Run, closed, runs_from}
use Rattle.lines.specs.Spaced.{Spaced, line_of, reports_of, AllFit, Parted, Apart, back}
use Rattle.lines.specs.Claims.{Answer, alone, Returns, ReadsBack, ReaderReturns, EqualLists}
use Rattle.lines.proofs.Runs.{Free, good_free, runs_idles, runs_words, runs_end}
use Rattle.lines.proofs.Outcomes.{alone_free, one_each}

-- ---- a report's words

words_free : (form : AltitudeForm) (r : Report) → Fits form r → Free (words_of form r)
words_free form r h = good_free (words_of form r) (words_good form r h)

words_some : (form : AltitudeForm) (r : Report) → 0 < length (words_of form r)
words_some form r = ⊎_elim (λ n. omega arith) (λ n. omega arith) (words_length form r)

words_few : (form : AltitudeForm) (r : Report) → length (words_of form r) ≤ most
words_few form r = ⊎_elim (λ n. omega arith) (λ n. omega arith) (words_length form r)

-- ---- the runs of such a line

idles_stretch : (n : ℕ) (ws : List ℕ) → 0 < n → stretch (replicate n idle ++ ws) ≡ []
unfolding stretch
idles_stretch zero ws h = absurd (omega arith)
idles_stretch (suc n) ws h = refl

tail_stretch : (n : ℕ) → stretch (replicate n idle) ≡ []
unfolding stretch
tail_stretch zero = refl
tail_stretch (suc n) = refl

parted_stretch : (form : AltitudeForm) (ss : List Spaced) (tail : ℕ) → Parted ss → stretch (line_of form ss tail) ≡ []
unfolding line_of
parted_stretch form [] tail h = tail_stretch tail
parted_stretch form (s ∷ ss) tail h = idles_stretch s.ahead (words_of form s.report ++ line_of form ss tail) h.0

parted_apart : (ss : List Spaced) → Parted ss → Apart ss
parted_apart [] h = tt
parted_apart (s ∷ ss) h = h.1

-- the runs that such a list has from a place on
unfoldable runs_of : AltitudeForm → ℕ → List Spaced → List Run
runs_of form p [] = []
runs_of form p (s ∷ ss) =
    record { place = p + s.ahead; words = words_of form s.report } ∷ runs_of form (p + s.ahead + length (words_of form s.report)) ss

closed_some : (p : ℕ) (ws : List ℕ) (rs : List Run) → 0 < length ws → closed p ws rs ≡ record { place = p; words = ws } ∷ rs
closed_some p [] rs h = absurd (omega arith)
closed_some p (w ∷ ws) rs h = refl

written_runs : (form : AltitudeForm) (p : ℕ) (ss : List Spaced) (tail : ℕ) → AllFit form ss → Apart ss → runs_from p [] (line_of form ss tail) ≡ runs_of form p ss
unfolding runs_from line_of runs_of
written_runs form p [] tail f a =
    ap (runs_from p []) (sym (append-nil (replicate tail idle))) ∙ runs_idles p tail []
written_runs form p (s ∷ ss) tail f a =
    let ws = words_of form s.report in
    let q = p + s.ahead in
    runs_idles p s.ahead (ws ++ line_of form ss tail)
    ∙ runs_words q [] ws (line_of form ss tail) (words_free form s.report f.0)
    ∙ runs_end q ws (line_of form ss tail) (parted_stretch form ss tail a)
    ∙ closed_some q ws (runs_from (q + length ws) [] (line_of form ss tail)) (words_some form s.report)
    ∙ ap (λ (rs : List Run). record { place = q; words = ws } ∷ rs) (written_runs form (q + length ws) ss tail f.1 (parted_apart ss a))

-- ---- what they get

-- the words of a report that fits get that report
alone_report : (answer : Answer) (form : AltitudeForm) → Returns answer form → (f : ℕ) (r : Report) → Fits form r
    → alone answer (record { place = f; words = words_of form r }) ≡ outcome_of (W.Accepted r) f (f + length (words_of form r)) f
alone_report answer form gives f r h = by_words (words_of form r) refl
  where
    by_words : (ws : List ℕ) → words_of form r ≡ ws → alone answer (record { place = f; words = words_of form r }) ≡ outcome_of (W.Accepted r) f (f + length (words_of form r)) f
    by_words [] e = let a = words_some form r in let b = ap length e in absurd (omega arith)
    by_words (w ∷ ws) e =
        let few = words_few form r in
        let size = ap length e in
        ap (λ (l : List ℕ). alone answer (record { place = f; words = l })) e
        ∙ alone_free answer f w ws (omega arith) (subst Free e (words_free form r h))
        ∙ ap (λ (l : List ℕ). placed f (length l) (answer l)) (sym e)
        ∙ ap (placed f (length (words_of form r))) (gives r h)
        ∙ ap (outcome_of (W.Accepted r) f (f + length (words_of form r))) (add-zero f)

alone_all : (answer : Answer) (form : AltitudeForm) → Returns answer form → (p : ℕ) (ss : List Spaced) → AllFit form ss → map (alone answer) (runs_of form p ss) ≡ back form p ss
unfolding runs_of back
alone_all answer form gives p [] f = refl
alone_all answer form gives p (s ∷ ss) f =
    λ i.
    alone_report answer form gives (p + s.ahead) s.report f.0 i
    ∷ alone_all answer form gives (p + s.ahead + length (words_of form s.report)) ss f.1 i

pub reads_back : ReadsBack
reads_back answer form gives ss tail f a m =
    let line = line_of form ss tail in
    one_each answer line m
    ∙ ap (λ (os : List Outcome). os ++ (end_of (length line) ∷ []))
    (ap (map (alone answer)) (written_runs form 0 ss tail f a) ∙ alone_all answer form gives 0 ss f)

-- ---- equal lines, equal lists

-- the reports among the outcomes
reported : What → List Report → List Report
reported (W.Accepted r) rs = r ∷ rs
reported (W.Refused q) rs = rs
reported W.End rs = rs

reports_in : List Outcome → List Report
reports_in [] = []
reports_in (o ∷ os) = reported o.what (reports_in os)

reports_back : (form : AltitudeForm) (p : ℕ) (ss : List Spaced) (n : ℕ) → reports_in (back form p ss ++ (end_of n ∷ [])) ≡ reports_of ss
unfolding reports_in reported back
reports_back form p [] n = refl
reports_back form p (s ∷ ss) n =
    ap (λ (rs : List Report). s.report ∷ rs) (reports_back form (p + s.ahead + length (words_of form s.report)) ss n)

pub reader_returns : ReaderReturns
reader_returns form sound r h = (demand_2 form sound (words_of form r) r).1 (refl, h)

pub equal_lists : EqualLists
equal_lists form sound ss ts m n f a g b h e =
    let answer = read_run form in
    let gives = reader_returns form sound in
    let k = ap length e in
    sym (reports_back form 0 ss (length (line_of form ss m)))
    ∙ ap reports_in (sym (reads_back answer form gives ss m f a h) ∙ ap (outcomes answer) e ∙ reads_back answer form gives ts n g b (omega arith))
    ∙ reports_back form 0 ts (length (line_of form ts n))
