-- Reading at a place: the end is told exactly where only idle words are left; a report has the words of its run; and what the writer left, as
-- words or as bytes, is read at its place. Assumes nothing.
use Rattle.std.specs.Prelude.{Ok, Result, Err}
use Prim.Native.Nat.{ℕ, zero, suc, ◌+◌, ◌-◌, ◌*◌, ◌%◌, ◌≤◌, ◌<◌}
use mathlib.Core.Path.{◌≡◌, refl, sym, ap, ◌∙◌}
use mathlib.Core.Bool.{false}
use mathlib.Core.List.{List, [], ◌∷◌, ◌++◌, cons≢nil}
use mathlib.Core.Logic.{◌↔◌, ⊎_elim}
use native.Mathlib.Nat.{add-zero}
use native.Mathlib.Omega.{arith}
use lib.Dec.{eqb, ltb}
use lib.ListN.{length, take, drop, replicate, length-drop, length-append}
use lib.Seq.{drop-drop, drop_at, length-take-le}
use borrow.Author.Tests.{eqb-true, eqb-false, ltb-false}
use Rattle.words.specs.Word.{idle}
use Rattle.refusals.specs.declared.LineRefusal.TheVariants.{LineTooLong, OddByteCount, PlaceBeyondLine}
use Rattle.reports.specs.declared.Report.{Report}
use Rattle.reports.specs.Altitude.{AltitudeForm, Sound}
use Rattle.reports.specs.Layouts.{words_of, Fits}
use Rattle.reports.specs.Records.{report_of}
use Rattle.reports.specs.Runs.{read_run}
use Rattle.reports.proofs.Demand2.{demand_2, words_good, words_length}
use Rattle.lines.specs.declared.What.TheVariants as W
use Rattle.lines.specs.declared.Outcome.{Outcome}
use Rattle.lines.specs.Line.{most, outcome_of, not_taken_at, what_of, placed, is_refusal, is_end, gap, stretch, run_in, outcome_at, read_by, read_at}
use Rattle.lines.specs.Bytes.{most_bytes, words_in, bytes_of, read_bytes}
use Rattle.lines.specs.Writing.{write_at, left_as, Writes}
use Rattle.lines.specs.ByteWriting.{write_bytes, bytes_left, WritesBytes}
use Rattle.words.proofs.Tests.{picked, passed, by_test}
use Rattle.lines.proofs.Runs.{Free, good_free}
use Rattle.lines.proofs.Puts.{write_cases}
use Rattle.lines.proofs.Walked.{read_there, goes_on}
use Rattle.lines.proofs.Back.{reader_returns}
use Rattle.lines.proofs.Written.{only_its_words}
use Rattle.lines.proofs.ByteWords as byte-words
use Rattle.lines.proofs.ByteWords.{bytes_length, bytes_as_words}
use Rattle.lines.proofs.ByteLeft.{same_words}
use Rattle.claims.specs.Demands.{OnlyIdleLeft, between}
use Rattle.reports.specs.declared.RunRefusal.{RunRefusal}
use Rattle.lines.specs.declared.NotWritten.{NotWritten}
use Rattle.reports.specs.Runs.{refused_at}
use Rattle.lines.specs.Writing.{not_written}

-- ---- idle words alone

-- no run behind the idle words in front: all are idle; and of idle words there is no run
all_idle : (ws : List ℕ) → run_in ws ≡ [] → ws ≡ replicate (length ws) idle
unfolding gap stretch
all_idle [] h = refl
all_idle (w ∷ ws) h =
    by_test (eqb w idle)
    (λ e. let k : gap (w ∷ ws) ≡ suc (gap ws) = picked _ _ e in
    let rest = all_idle ws (sym (ap (λ (g : ℕ). stretch (drop g (w ∷ ws))) k) ∙ h) in
    let i : w ≡ idle = eqb-true w idle e in
    λ j. i j ∷ rest j)
    (λ e. let k : gap (w ∷ ws) ≡ 0 = passed _ _ e in
    absurd (cons≢nil (sym (passed [] (w ∷ stretch ws) e) ∙ sym (ap (λ (g : ℕ). stretch (drop g (w ∷ ws))) k) ∙ h)))

no_run : (k : ℕ) → run_in (replicate k idle) ≡ []
unfolding gap stretch
no_run zero = refl
no_run (suc k) = no_run k

-- ---- at a place, in any form of the altitude

module _ (form : AltitudeForm) where
  abbrev answer : List ℕ → Result Report RunRefusal
  answer = read_run form

  bytes_read : (bytes : List ℕ) (place : ℕ) → length bytes ≤ most_bytes → length bytes % 2 ≡ 0 → read_bytes form bytes place ≡ read_at form (words_in bytes) place
  bytes_read bytes place few even = (bytes_as_words form bytes place (report_of form []) few even).0

  -- what is not refused is told of a line and a place that are taken
  within : (line : List ℕ) (place : ℕ) → is_refusal (read_at form line place).what ≡ false → (length line ≤ most) × (place ≤ length line)
  unfolding read_by
  within line place e =
      by_test (ltb most (length line))
      (λ a. let k : read_at form line place ≡ not_taken_at LineTooLong place = picked _ _ a in
      let f = ap (λ (o : Outcome). is_refusal o.what) k in let z : ◌≡◌ {A = ℕ} 0 1 = cc in absurd (omega arith))
      (λ a. by_test (ltb (length line) place)
      (λ b. let k : read_at form line place ≡ not_taken_at PlaceBeyondLine place = passed _ _ a ∙ picked _ _ b in
      let f = ap (λ (o : Outcome). is_refusal o.what) k in let z : ◌≡◌ {A = ℕ} 0 1 = cc in absurd (omega arith))
      (λ b. (ltb-false most (length line) a, ltb-false (length line) place b)))

  pub end_exactly : (line : List ℕ) (place : ℕ) → ((read_at form line place).what ≡ W.End) ↔ OnlyIdleLeft line place
  end_exactly line place = (there, back)
    where
      none : (n f : ℕ) (run : List ℕ) → (outcome_at answer n f run).what ≡ W.End → run ≡ []
      none n f [] e = refl
      none n f (w ∷ ws) e = let g = goes_on (answer (w ∷ ws)) in let q = sym (ap is_end e) ∙ g in let z : ◌≡◌ {A = ℕ} 0 1 = cc in absurd (omega arith)

      there : (read_at form line place).what ≡ W.End → OnlyIdleLeft line place
      there e =
          let k = within line place (ap is_refusal e) in
          let r = read_there answer line place k.0 k.1 in
          let ws = drop place line in
          let run = none (length line) (place + gap ws) (run_in ws) (sym (ap (λ (o : Outcome). o.what) r) ∙ e) in
          (k.0, k.1, all_idle ws run ∙ ap (λ (n : ℕ). replicate n idle) (length-drop place line))

      back : OnlyIdleLeft line place → (read_at form line place).what ≡ W.End
      back k =
          let n = length line - place in
          let run : run_in (drop place line) ≡ [] = ap run_in k.2 ∙ no_run n in
          ap (λ (o : Outcome). o.what)
          (read_there answer line place k.0 k.1 ∙ ap (outcome_at answer (length line) (place + gap (drop place line))) run)

  -- bytes that get something else than a refusal are read as the words that they hold
  as_words : (bytes : List ℕ) (place : ℕ) → is_refusal (read_bytes form bytes place).what ≡ false
      → (length bytes ≤ most_bytes) × (length bytes % 2 ≡ 0) × (read_bytes form bytes place ≡ read_at form (words_in bytes) place)
  unfolding read_bytes
  as_words bytes place e =
      by_test (ltb most_bytes (length bytes))
      (λ a. let k : read_bytes form bytes place ≡ not_taken_at LineTooLong place = picked _ _ a in
      let f = ap (λ (o : Outcome). is_refusal o.what) k in let z : ◌≡◌ {A = ℕ} 0 1 = cc in absurd (omega arith))
      (λ a. by_test (eqb (length bytes % 2) 1)
      (λ b. let k : read_bytes form bytes place ≡ not_taken_at OddByteCount place = passed _ _ a ∙ picked _ _ b in
      let f = ap (λ (o : Outcome). is_refusal o.what) k in let z : ◌≡◌ {A = ℕ} 0 1 = cc in absurd (omega arith))
      (λ b. taken (ltb-false most_bytes (length bytes) a) (eqb-false (length bytes % 2) 1 b)))
    where
      taken : length bytes ≤ most_bytes → (length bytes % 2 ≡ 1 → ⊥)
          → (length bytes ≤ most_bytes) × (length bytes % 2 ≡ 0) × (read_bytes form bytes place ≡ read_at form (words_in bytes) place)
      taken few odd = let even : length bytes % 2 ≡ 0 = omega arith in (few, even, bytes_read bytes place few even)

  pub end_of_bytes : (bytes : List ℕ) (place : ℕ)
      → ((read_bytes form bytes place).what ≡ W.End) ↔ ((length bytes ≤ most_bytes) × (length bytes % 2 ≡ 0) × OnlyIdleLeft (words_in bytes) place)
  end_of_bytes bytes place = (
    λ e. let k = as_words bytes place (ap is_refusal e) in (k.0, k.1, (end_exactly (words_in bytes) place).0 (sym (ap (λ (o : Outcome). o.what) k.2) ∙ e)),
    λ k. ap (λ (o : Outcome). o.what) (bytes_read bytes place k.0 k.1) ∙ (end_exactly (words_in bytes) place).1 k.2,
  )

-- ---- a report has the words of its run

-- a run is the front of what it was found in
stretch_front : (ws : List ℕ) → take (length (stretch ws)) ws ≡ stretch ws
unfolding stretch
stretch_front [] = refl
stretch_front (w ∷ ws) =
    by_test (eqb w idle)
    (λ e. let k : stretch (w ∷ ws) ≡ [] = picked _ _ e in ap (λ (l : List ℕ). take (length l) (w ∷ ws)) k ∙ sym k)
    (λ e. let k : stretch (w ∷ ws) ≡ w ∷ stretch ws = passed _ _ e in
    ap (λ (l : List ℕ). take (length l) (w ∷ ws)) k ∙ ap (λ (l : List ℕ). w ∷ l) (stretch_front ws) ∙ sym k)

module _ (rest : List ℕ) where
  stretch_there : (ws : List ℕ) → Free ws → stretch (ws ++ (idle ∷ rest)) ≡ ws
  unfolding stretch
  stretch_there [] f = refl
  stretch_there (w ∷ ws) f = passed [] (w ∷ stretch (ws ++ (idle ∷ rest))) f.0 ∙ ap (λ (l : List ℕ). w ∷ l) (stretch_there ws f.1)

  gap_there : (ws : List ℕ) → 0 < length ws → Free ws → gap (ws ++ (idle ∷ rest)) ≡ 0
  unfolding gap
  gap_there [] h f = absurd (omega arith)
  gap_there (w ∷ ws) h f = passed _ _ f.0

-- ---- in any sound form of the altitude

module _ (form : AltitudeForm) (sound : Sound form) where
  -- a report was found in a run, which is its words, with the run's places
  found : (n f : ℕ) (run : List ℕ) (r : Report) → (outcome_at (read_run form) n f run).what ≡ W.Accepted r
      → (run ≡ words_of form r) × ((outcome_at (read_run form) n f run).first ≡ f) × ((outcome_at (read_run form) n f run).after ≡ f + length run)
  found n f [] r e = let z : ◌≡◌ {A = ℕ} 0 1 = cc in absurd (omega arith)
  found n f (w ∷ ws) r e = (((demand_2 form sound (w ∷ ws) r).0 (accepted (read_run form (w ∷ ws)) e)).0, refl, refl)
    where
      accepted : (a : Result Report RunRefusal) → what_of a ≡ W.Accepted r → a ≡ Ok r
      accepted (Ok x) e = cc
      accepted (Err refusal) e = let z : ◌≡◌ {A = ℕ} 0 1 = cc in absurd (omega arith)

  pub report_words : (line : List ℕ) (place : ℕ) (r : Report) → (read_at form line place).what ≡ W.Accepted r
      → words_of form r ≡ between (read_at form line place).first (read_at form line place).after line
  report_words line place r e =
      let k = within form line place (ap is_refusal e) in
      let o = read_there (read_run form) line place k.0 k.1 in
      let rest = drop place line in
      let run = run_in rest in
      let f = place + gap rest in
      let h = found (length line) f run r (sym (ap (λ (x : Outcome). x.what) o) ∙ e) in
      let first : (read_at form line place).first ≡ f = ap (λ (x : Outcome). x.first) o ∙ h.1 in
      let after : (read_at form line place).after ≡ f + length run = ap (λ (x : Outcome). x.after) o ∙ h.2 in
      let size : f + length run - f ≡ length run = omega arith in
      sym h.0 ∙ sym (stretch_front (drop (gap rest) rest)) ∙ ap (take (length run)) (drop-drop (gap rest) place line)
      ∙ sym ((λ i. between (first i) (after i) line) ∙ ap (λ (n : ℕ). take n (drop f line)) size)

  pub report_words_of_bytes : (bytes : List ℕ) (place : ℕ) (r : Report) → (read_bytes form bytes place).what ≡ W.Accepted r
      → words_of form r ≡ between (read_bytes form bytes place).first (read_bytes form bytes place).after (words_in bytes)
  report_words_of_bytes bytes place r e =
      let k = (as_words form bytes place (ap is_refusal e)).2 in
      rw k (report_words (words_in bytes) place r (sym (ap (λ (o : Outcome). o.what) k) ∙ e))

  -- ---- what the writer left is read at its place

  at_run : (n f : ℕ) (ws : List ℕ) → 0 < length ws → outcome_at (read_run form) n f ws ≡ placed f (length ws) (read_run form ws)
  at_run n f [] h = absurd (omega arith)
  at_run n f (w ∷ ws) h = refl

  -- a line that is too long is not written
  taken_line : (line : List ℕ) (place next : ℕ) (r : Report) → write_at form line place r ≡ Ok next → length line ≤ most
  unfolding write_at
  taken_line line place next r e =
      by_test (ltb most (length line))
      (λ a. let k : write_at form line place r ≡ not_written LineTooLong place = picked _ _ a in let z : ◌≡◌ {A = ℕ} 0 1 = cc in absurd (omega arith))
      (λ a. ltb-false most (length line) a)

  -- a report's words on a line, with an idle word behind them, are read as the report
  read_there_again : (top rest : List ℕ) (place : ℕ) (r : Report) → Fits form r → length top ≡ place
      → length (top ++ (words_of form r ++ (idle ∷ rest))) ≤ most
      → read_at form (top ++ (words_of form r ++ (idle ∷ rest))) place
      ≡ outcome_of (W.Accepted r) place (place + length (words_of form r)) place
  read_there_again top rest place r fits e m =
      let ws = words_of form r in
      let behind = ws ++ (idle ∷ rest) in
      let line = top ++ behind in
      let d : drop place line ≡ behind = drop_at top behind place e in
      let free = good_free ws (words_good form r fits) in
      let some : 0 < length ws = ⊎_elim (λ h. omega arith) (λ h. omega arith) (words_length form r) in
      let g = gap_there rest ws some free in
      let p : place + 0 ≡ place = omega arith in
      read_there (read_run form) line place m (omega (arith, length-append top behind))
      ∙ (λ i. outcome_at (read_run form) (length line) (place + gap (d i)) (run_in (d i)))
      ∙ (λ i. outcome_at (read_run form) (length line) (place + g i) (stretch (drop (g i) behind)))
      ∙ ap (outcome_at (read_run form) (length line) (place + 0)) (stretch_there rest ws free)
      ∙ at_run (length line) (place + 0) ws some
      ∙ ap (placed (place + 0) (length ws)) (reader_returns form sound r fits)
      ∙ (λ i. outcome_of (W.Accepted r) (p i) (p i + length ws) (add-zero (p i) i))

  pub read_written : (line : List ℕ) (place : ℕ) (r : Report) (next : ℕ) (exit : List ℕ) → Writes form line place r (Ok next) exit
      → read_at form exit place ≡ outcome_of (W.Accepted r) place (next - 1) place
  read_written line place r next exit w =
      ⊎_elim
      (λ h. let f = h.1 in let a = w.answers in let z : ◌≡◌ {A = ℕ} 0 1 = cc in absurd (omega arith))
      (λ h. let f = h.3 in
      let a : write_at form line place r ≡ Ok next = sym w.answers in
      let ws = words_of form r in
      let n : next ≡ place + length ws + 1 = cc in
      let room = h.2 in
      let top = take place line in
      let rest = drop next line in
      let left : exit ≡ top ++ (ws ++ (idle ∷ rest)) = w.leaves ∙ ap (λ (x : Result ℕ NotWritten). left_as x line place ws) a in
      let size : length (top ++ (ws ++ (idle ∷ rest))) ≡ length line = (only_its_words form line place next r a).0 in
      let most-is = taken_line line place next r a in
      let last : place + length ws ≡ next - 1 = omega arith in
      ap (λ (l : List ℕ). read_at form l place) left
      ∙ read_there_again top rest place r h.0 (length-take-le place line (omega arith)) (omega arith)
      ∙ ap (λ (k : ℕ). outcome_of (W.Accepted r) place k place) last)
      (write_cases form line place r)

  -- as many bytes are left as were lent
  left_length : (bytes : List ℕ) (place : ℕ) (r : Report) (next : ℕ) (exit : List ℕ) → exit ≡ bytes_left (Ok next) bytes place (words_of form r)
      → write_at form (words_in bytes) place r ≡ Ok next → length exit ≡ length bytes
  left_length bytes place r next exit e a =
      ⊎_elim
      (λ h. let f = h.1 in let z : ◌≡◌ {A = ℕ} 0 1 = cc in absurd (omega arith))
      (λ h. let f = h.3 in
      let ws = words_of form r in
      let n : next ≡ place + length ws + 1 = cc in
      let room = h.2 in
      let words = byte-words.words_length bytes in
      let top = take (place * 2) bytes in
      let mid = bytes_of (ws ++ (idle ∷ [])) in
      let rest = drop (next * 2) bytes in
      ap length e
      ∙ omega (arith, length-append top (mid ++ rest), length-append mid rest, length-take-le (place * 2) bytes (omega arith), bytes_length (ws ++ (idle ∷ [])), length-append ws (idle ∷ []), length-drop (next * 2) bytes))
      (write_cases form (words_in bytes) place r)

  -- bytes that are written are few enough and even in number, and are written as the words that they hold
  taken_bytes : (bytes : List ℕ) (place next : ℕ) (r : Report) → write_bytes form bytes place r ≡ Ok next
      → (length bytes ≤ most_bytes) × (length bytes % 2 ≡ 0) × (write_at form (words_in bytes) place r ≡ Ok next)
  unfolding write_bytes
  taken_bytes bytes place next r e =
      by_test (ltb most_bytes (length bytes))
      (λ a. let k : write_bytes form bytes place r ≡ not_written LineTooLong place = picked _ _ a in let z : ◌≡◌ {A = ℕ} 0 1 = cc in absurd (omega arith))
      (λ a. by_test (eqb (length bytes % 2) 1)
      (λ b. let k : write_bytes form bytes place r ≡ not_written OddByteCount place = passed _ _ a ∙ picked _ _ b in let z : ◌≡◌ {A = ℕ} 0 1 = cc in absurd (omega arith))
      (λ b. taken (ltb-false most_bytes (length bytes) a) (eqb-false (length bytes % 2) 1 b)))
    where
      taken : length bytes ≤ most_bytes → (length bytes % 2 ≡ 1 → ⊥)
          → (length bytes ≤ most_bytes) × (length bytes % 2 ≡ 0) × (write_at form (words_in bytes) place r ≡ Ok next)
      taken few odd = let even : length bytes % 2 ≡ 0 = omega arith in (few, even, sym (bytes_as_words form bytes place r few even).1 ∙ e)

  pub read_written_bytes : (bytes : List ℕ) (place : ℕ) (r : Report) (next : ℕ) (exit : List ℕ) → WritesBytes form bytes place r (Ok next) exit
      → read_bytes form exit place ≡ outcome_of (W.Accepted r) place (next - 1) place
  read_written_bytes bytes place r next exit w =
      let e : write_bytes form bytes place r ≡ Ok next = sym w.answers in
      let t = taken_bytes bytes place next r e in
      let few = t.0 in
      let even = t.1 in
      let ws = words_of form r in
      let as_words : words_in exit ≡ left_as (write_at form (words_in bytes) place r) (words_in bytes) place ws =
      ap words_in w.leaves ∙ same_words form bytes place r ∙ ap (λ (x : Result ℕ NotWritten). left_as x (words_in bytes) place ws) (e ∙ sym t.2) in
      let size : length exit ≡ length bytes = left_length bytes place r next exit (w.leaves ∙ ap (λ (x : Result ℕ NotWritten). bytes_left x bytes place ws) e) t.2 in
      bytes_read form exit place (omega arith) (ap (λ (n : ℕ). n % 2) size ∙ even)
      ∙ read_written (words_in bytes) place r next (words_in exit) (record { answers = sym t.2; leaves = as_words })
