-- What a call of the writer answers, by its rows, and words put behind words. Assumes nothing.
use Rattle.std.specs.Prelude.{Result}
use Prim.Native.Nat.{ℕ, ◌+◌, ◌-◌, ◌%◌, ◌≤◌, ◌<◌}
use mathlib.Core.Path.{◌≡◌, refl, ap, sym, ◌∙◌}
use mathlib.Core.Bool.{Bool, true, false, not, cond}
use mathlib.Core.Logic.{◌⊎◌, inl, inr}
use mathlib.Core.List.{List, ◌++◌, append_assoc}
use native.Mathlib.Omega.{arith}
use lib.Dec.{eqb, ltb}
use lib.ListN.{length, take, drop, length-append}
use lib.Seq.{drop-drop, length-take-le, take_at, drop_at}
use borrow.Author.Tests.{ltb-false}
use Rattle.rows.specs.Rows.{first_of}
use Rattle.refusals.specs.declared.LineRefusal.{LineRefusal}
use Rattle.refusals.specs.declared.LineRefusal.TheVariants.{LineTooLong, OddByteCount, PlaceBeyondLine, NoRoom, ValueTooLarge}
use Rattle.reports.specs.declared.Report.{Report}
use Rattle.reports.specs.Altitude.{AltitudeForm}
use Rattle.reports.specs.Layouts.{words_of, takes, Takes}
use Rattle.lines.specs.Line.{most}
use Rattle.lines.specs.Bytes.{most_bytes, words_in}
use Rattle.lines.specs.Writing.{place_rows, wrote_after, write_at}
use Rattle.lines.specs.ByteWriting.{write_bytes}
use Rattle.lines.specs.Claims.{put}
use Rattle.words.proofs.Tests.{picked, passed, by_test, holds}
use Rattle.lines.specs.declared.NotWritten.{NotWritten}
use Rattle.lines.specs.Writing.{not_written}

-- ---- words and then others right behind them

-- a put line: its front and what stands behind
front_rest : (line : List ℕ) (place : ℕ) (ws : List ℕ) → put line place ws ≡ (take place line ++ ws) ++ drop (length ws) (drop place line)
front_rest line place ws = sym (append_assoc (take place line) ws (drop (length ws) (drop place line)))

pub put_put : (line : List ℕ) (place : ℕ) (ws vs : List ℕ) → place ≤ length line
    → put (put line place ws) (place + length ws) vs ≡ take place line ++ (ws ++ (vs ++ drop (place + length ws + length vs) line))
put_put line place ws vs h =
    let front = take place line ++ ws in
    let rest = drop (length ws) (drop place line) in
    let n : length front ≡ place + length ws = length-append (take place line) ws ∙ ap (λ (k : ℕ). k + length ws) (length-take-le place line h) in
    ap (λ (l : List ℕ). put l (place + length ws) vs) (front_rest line place ws)
    ∙ ap (λ (l : List ℕ). l ++ (vs ++ drop (length vs) (drop (place + length ws) (front ++ rest)))) (take_at front rest (place + length ws) n)
    ∙ ap (λ (l : List ℕ). front ++ (vs ++ drop (length vs) l)) (drop_at front rest (place + length ws) n ∙ drop-drop (length ws) place line)
    ∙ ap (λ (l : List ℕ). front ++ (vs ++ l)) (drop-drop (length vs) (place + length ws) line)
    ∙ append_assoc (take place line) ws (vs ++ drop (place + length ws + length vs) line)

-- ---- what a call answers

-- a call is refused, and gives the place back; or the report is taken and has room on a line of n words
abbrev Cases : AltitudeForm → ℕ → ℕ → Report → Result ℕ NotWritten → Type 0
Cases form n place r w =
    ((q : LineRefusal) × (w ≡ not_written q place))
    ⊎ (Takes form r × (place ≤ n) × (length (words_of form r) < n - place) × (w ≡ wrote_after form place r))

place_cases : (form : AltitudeForm) (n place : ℕ) (r : Report) → Cases form n place r (first_of (place_rows form n place r) (wrote_after form place r))
place_cases form n place r =
    let k = length (words_of form r) in
    by_test (ltb n place) (λ b. inl (PlaceBeyondLine, picked _ _ b))
    (λ b. by_test (not (takes form r)) (λ c. inl (ValueTooLarge, passed _ _ b ∙ picked _ _ c))
    (λ c. by_test (ltb (n - place) (k + 1)) (λ d. inl (NoRoom, passed _ _ b ∙ passed _ _ c ∙ picked _ _ d))
    (λ d. inr (
      holds (takes form r) c,
      ltb-false n place b,
      let z = ltb-false (n - place) (k + 1) d in omega arith,
      passed _ _ b ∙ passed _ _ c ∙ passed _ _ d,
    ))))

-- one row more, with a refusal that gives the place back
one_more : (form : AltitudeForm) (n place : ℕ) (r : Report) (b : Bool) (q : LineRefusal) (w : Result ℕ NotWritten) → Cases form n place r w → Cases form n place r (cond b (not_written q place) w)
one_more form n place r true q w h = inl (q, refl)
one_more form n place r false q w h = h

pub write_cases : (form : AltitudeForm) (line : List ℕ) (place : ℕ) (r : Report) → Cases form (length line) place r (write_at form line place r)
unfolding write_at
write_cases form line place r = one_more form (length line) place r (ltb most (length line)) LineTooLong _ (place_cases form (length line) place r)

pub byte_cases : (form : AltitudeForm) (bytes : List ℕ) (place : ℕ) (r : Report) → Cases form (length (words_in bytes)) place r (write_bytes form bytes place r)
unfolding write_bytes
byte_cases form bytes place r =
    let n = length (words_in bytes) in
    one_more form n place r (ltb most_bytes (length bytes)) LineTooLong _
    (one_more form n place r (eqb (length bytes % 2) 1) OddByteCount _ (place_cases form n place r))
