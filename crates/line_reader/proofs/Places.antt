-- The run that four searches find, and that the answer which the readers make of its places is the definition's. Assumes nothing.
use Rattle.std.specs.Prelude.{Result}
use Prim.Native.Nat.{ℕ, suc, ◌+◌, ◌-◌, ◌%◌, ◌≤◌, ◌<◌, min}
use mathlib.Core.Path.{◌≡◌, refl, ap, sym, ◌∙◌, subst}
use mathlib.Core.Bool.{Bool, true, not, cond}
use mathlib.Core.List.{List, [], ◌∷◌}
use native.Mathlib.Omega.{arith}
use lib.Dec.{eqb, ltb}
use lib.ListN.{length, get_or, take, drop, length-take, length-drop, get_or-eq_default}
use lib.Seq.{drop-drop, get_or-take, get_or-drop}
use borrow.Author.Tests.{lt-ltb, ltb-true, eqb-true, ne_eqb}
use Rattle.words.specs.Word.{idle, wider_than_a_word, even, first}
use Rattle.words.proofs.Claims.{idle_is_even}
use Rattle.words.proofs.Faults.{NoneHas, first_none}
use Rattle.words.proofs.Tests.{picked, passed, by_test}
use Rattle.reports.specs.Altitude.{AltitudeForm}
use Rattle.reports.specs.Forms.{word_count}
use Rattle.reports.specs.Conditions.{unknown_form, unassigned, spare_set, minus_zero}
use Rattle.reports.specs.Runs.{judged, read_run, answer_offset}
use Rattle.reports.specs.Claims.{first_seven}
use Rattle.reports.proofs.Refusals.{judged_is_read}
use Rattle.reports.proofs.Tests.{by_cond}
use Rattle.lines.specs.declared.Outcome.{Outcome}
use Rattle.lines.specs.Line.{most, gap, stretch, run_in, end_of, placed, outcome_at, run_at, read_by, read_at}
use Rattle.lines.specs.Bytes.{most_bytes, words_in, read_bytes}
use Rattle.lines.specs.Taking.{wide_refused, bytes_refused}
use Rattle.lines.proofs.Runs.{gap_all}
use Rattle.lines.proofs.Walked.{stretch_front}
use Rattle.line_reader.specs.declared.run.Places.{Places}
use Rattle.line_reader.specs.Places.{not_idle, faulty, is_idle, Ended, RunPlaces, run_words, answer_at, answered, found_in}
use Rattle.line_reader.proofs.Searches.{to_end, next_through}
use Rattle.reports.specs.declared.Report.{Report}
use Rattle.reports.specs.declared.RunRefusal.{RunRefusal}

-- ---- what the searches stop at, and the run

idle_faulty : (w : ℕ) → is_idle w ≡ true → faulty w ≡ true
idle_faulty w e = ap faulty (eqb-true w idle e) ∙ idle_is_even

too_wide_faulty : (w : ℕ) → wider_than_a_word w ≡ true → faulty w ≡ true
too_wide_faulty w e = picked _ _ e

gap_found : (ws : List ℕ) → first not_idle ws ≡ gap ws
unfolding first gap
gap_found [] = refl
gap_found (w ∷ ws) = by_test (eqb w idle) (λ e. rw e (ap suc (gap_found ws))) (λ e. rw e)

idle_found : (ws : List ℕ) → first is_idle ws ≡ length (stretch ws)
unfolding first stretch
idle_found [] = refl
idle_found (w ∷ ws) = by_test (eqb w idle) (λ e. rw e) (λ e. rw e (ap suc (idle_found ws)))

-- a fault of the run is where the line has it, if that is in front of the end of the run
fault_found : (fault : ℕ → Bool) (ws : List ℕ) → first fault (stretch ws) ≡ min (length (stretch ws)) (first fault ws)
unfolding first stretch
fault_found fault [] = refl
fault_found fault (w ∷ ws) =
    let k = fault_found fault ws in
    by_test (eqb w idle) (λ e. rw e (omega arith)) (λ e. rw e (by_test (fault w) (λ f. rw f (omega arith)) (λ f. rw f (omega arith))))

-- ---- the answer to a run

-- the word that is named is of the run, or the place after it
pub offset_within : (form : AltitudeForm) (ws : List ℕ) (n w e : ℕ) → answer_offset (judged form ws n w e) ≤ n
offset_within form ws n w e =
    by_cond Within (ltb w n) (λ h. let z = ltb-true w n h in omega arith)
    (λ h. by_cond Within (ltb e n) (λ h. let z = ltb-true e n h in omega arith)
    (λ h. by_cond Within (unknown_form ws) front
    (λ h. by_cond Within (not (eqb n (word_count ws))) front
    (λ h. by_cond Within (unassigned ws) front
    (λ h. by_cond Within (spare_set ws) front
    (λ h. by_cond Within (minus_zero form ws) front front))))))
  where
    Within : Result Report RunRefusal → Type 0
    Within a = answer_offset a ≤ n

    front : {b c : Bool} → b ≡ c → 0 ≤ n
    front e = omega arith

-- where no word is too wide, a word has a fault where it is even
fault_even : (ws : List ℕ) → NoneHas wider_than_a_word ws → first faulty ws ≡ first even ws
unfolding first
fault_even [] h = refl
fault_even (w ∷ ws) h = rw h.0 (ap (λ (n : ℕ). cond (even w) 0 (suc n)) (fault_even ws h.1))

judged_fault : (form : AltitudeForm) (ws run : List ℕ) → judged form ws (length run) (first wider_than_a_word run) (first faulty run) ≡ judged form ws (length run) (first wider_than_a_word run) (first even run)
judged_fault form ws run =
    by_test (ltb (first wider_than_a_word run) (length run)) (λ e. picked _ _ e ∙ sym (picked _ _ e))
    (λ e. ap (judged form ws (length run) (first wider_than_a_word run)) (fault_even run (first_none wider_than_a_word run e)))

-- a run with a fault is refused whatever its words hold
judged_any : (form : AltitudeForm) (ws other : List ℕ) (n w e : ℕ) → e < n → judged form ws n w e ≡ judged form other n w e
judged_any form ws other n w e h =
    let t = lt-ltb e n h in
    by_test (ltb w n) (λ k. picked _ _ k ∙ sym (picked _ _ k)) (λ k. passed _ _ k ∙ picked _ _ t ∙ sym (passed _ _ k ∙ picked _ _ t))

answer_is : (form : AltitudeForm) (n place : ℕ) (run : List ℕ) → (run ≡ [] → place ≡ n)
    → answer_at form place (length run) (first wider_than_a_word run) (first faulty run) (first_seven run) ≡ outcome_at (read_run form) n place run
answer_is form n place [] h = ap end_of (h refl)
answer_is form n place (w ∷ ws) h =
    passed _ _ (ne_eqb (suc (length ws)) 0 (λ (z : suc (length ws) ≡ 0). omega arith))
    ∙ ap (placed place (suc (length ws))) (judged_fault form (first_seven (w ∷ ws)) (w ∷ ws) ∙ judged_is_read form (w ∷ ws))

-- ---- the places of the run

-- four searches in a row, up to the line's end, find them
pub run_found : {line : List ℕ} {n place : ℕ} {run : Places} → n ≡ length line
    → Ended line place n not_idle run.first
    → Ended line run.first n faulty run.fault
    → Ended line run.fault n is_idle run.after
    → Ended line run.fault run.after wider_than_a_word run.too_wide
    → RunPlaces line place run
run_found {line} {n} {place} {run} e h k m o = record {
  first = subst (λ (j : ℕ). Ended line place j not_idle run.first) e h;
  fault = subst (λ (j : ℕ). Ended line run.first j faulty run.fault) e k;
  after = subst (λ (j : ℕ). Ended line run.fault j is_idle run.after) e m;
  too_wide = o;
}

module _ {line : List ℕ} {place : ℕ} {run : Places} (r : RunPlaces line place run) where
  first_at : run.first ≡ place + gap (drop place line)
  first_at = to_end r.first ∙ ap (λ (n : ℕ). place + n) (gap_found (drop place line))

  run_there : stretch (drop run.first line) ≡ run_in (drop place line)
  run_there = ap (λ (n : ℕ). stretch (drop n line)) first_at ∙ ap stretch (sym (drop-drop (gap (drop place line)) place line))

  after_at : run.after ≡ run.first + length (stretch (drop run.first line))
  after_at =
      to_end r.after
      ∙ next_through line run.first run.fault faulty is_idle idle_faulty (to_end r.fault)
      ∙ ap (λ (n : ℕ). run.first + n) (idle_found (drop run.first line))

  count_is : run.after - run.first ≡ length (run_in (drop place line))
  count_is = (let a = after_at in let n : run.after - run.first ≡ length (stretch (drop run.first line)) = omega arith in n) ∙ ap length run_there

  fault_at : run.fault - run.first ≡ first faulty (run_in (drop place line))
  fault_at =
      let a = after_at in
      let u = to_end r.fault in
      let o = r.after.onward in
      let k = fault_found faulty (drop run.first line) in
      let n : run.fault - run.first ≡ first faulty (stretch (drop run.first line)) = omega arith in
      n ∙ ap (first faulty) run_there

  too_wide_at : run.too_wide - run.first ≡ first wider_than_a_word (run_in (drop place line))
  too_wide_at =
      let a = after_at in
      let v = r.too_wide.there in
      let t = next_through line run.first run.fault faulty wider_than_a_word too_wide_faulty (to_end r.fault) in
      let k = fault_found wider_than_a_word (drop run.first line) in
      let n : run.too_wide - run.first ≡ first wider_than_a_word (stretch (drop run.first line)) = omega arith in
      n ∙ ap (first wider_than_a_word) run_there

  words_are : run_words line run ≡ run_in (drop place line)
  words_are =
      ap (λ (n : ℕ). take n (drop run.first line)) (count_is ∙ ap length (sym run_there)) ∙ stretch_front (drop run.first line) ∙ run_there

  no_words : run_in (drop place line) ≡ [] → place + gap (drop place line) ≡ length line
  no_words e =
      let rest = drop place line in
      let z = ap length (gap_all rest e) in
      let f = first_at in
      let w = r.first.within in
      omega (arith, length-drop (gap rest) rest, length-drop place line)

  -- ---- what run_at of each form cites: the answer is the definition's, with the run's first seven words or, where it has a fault, with any

  pub answer_law : (form : AltitudeForm) (ws : List ℕ) (o : Outcome) → ws ≡ first_seven (run_words line run) → o ≡ answered form run ws
      → o ≡ run_at (read_run form) line place
  answer_law form ws o q f =
      f
      ∙ (λ i. answer_at form (first_at i) (count_is i) (too_wide_at i) (fault_at i) ((q ∙ ap first_seven words_are) i))
      ∙ answer_is form (length line) (place + gap (drop place line)) (run_in (drop place line)) no_words

  pub faulty_law : (form : AltitudeForm) (ws : List ℕ) (o : Outcome) → run.fault < run.after → o ≡ answered form run ws → o ≡ run_at (read_run form) line place
  faulty_law form ws o h f =
      let k = r.fault.onward in
      let n = run.after - run.first in
      answer_law form (first_seven (run_words line run)) o refl
      (f
      ∙ ap (λ (a : Result Report RunRefusal). cond (eqb n 0) (end_of run.first) (placed run.first n a))
      (judged_any form ws (first_seven (run_words line run)) n (run.too_wide - run.first) (run.fault - run.first) (omega arith)))

-- ---- a word of the run

pub word_in : (line : List ℕ) (run : Places) (k : ℕ) → k < run.after - run.first → get_or line (run.first + k) 0 ≡ get_or (run_words line run) k 0
word_in line run k h = sym (get_or-take (run.after - run.first) (drop run.first line) k 0 h ∙ get_or-drop run.first line k 0)

pub word_past : (line : List ℕ) (run : Places) (k : ℕ) → run.after - run.first ≤ k → 0 ≡ get_or (run_words line run) k 0
word_past line run k h =
    let n = length-take (run.after - run.first) (drop run.first line) in
    sym (get_or-eq_default (run_words line run) 0 {n = k} (omega arith))

-- ---- what is found in each form of a line is what the definition of that form has

pub wide_found : (form : AltitudeForm) (line : List ℕ) (place : ℕ) → found_in form (wide_refused (length line)) line place ≡ read_at form line place
unfolding read_by
wide_found form line place = by_test (ltb most (length line)) (λ e. rw e refl) (λ e. rw e refl)

pub bytes_found : (form : AltitudeForm) (bytes : List ℕ) (place : ℕ) → found_in form (bytes_refused (length bytes)) (words_in bytes) place ≡ read_bytes form bytes place
unfolding read_bytes
bytes_found form bytes place =
    by_test (ltb most_bytes (length bytes)) (λ e. rw e refl) (λ e. rw e (by_test (eqb (length bytes % 2) 1) (λ f. rw f refl) (λ f. rw f refl)))
