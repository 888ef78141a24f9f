-- The bytes that the byte writer leaves hold the words that the writer leaves: the claim SameWords. Assumes nothing.
use Rattle.std.specs.Prelude.{Ok, Result}
use Prim.Native.Nat.{ℕ, zero, suc, ◌+◌, ◌*◌, ◌-◌, ◌/◌, ◌%◌, ◌≤◌, ◌<◌}
use mathlib.Core.Path.{◌≡◌, refl, ap, sym, ◌∙◌}
use mathlib.Core.Logic.{⊎_elim}
use mathlib.Core.List.{List, [], ◌∷◌, ◌++◌}
use native.Mathlib.Omega.{arith}
use lib.ListN.{length, take, drop}
use Rattle.words.specs.Word.{idle, AllGood}
use Rattle.reports.specs.declared.Report.{Report}
use Rattle.reports.specs.Altitude.{AltitudeForm}
use Rattle.reports.specs.Layouts.{words_of}
use Rattle.reports.proofs.Demand2.{words_good}
use Rattle.lines.specs.Bytes.{words_in, bytes_of}
use Rattle.lines.specs.Writing.{left_as}
use Rattle.lines.specs.ByteWriting.{write_bytes, bytes_left}
use Rattle.lines.specs.Claims.{SameWords}
use Rattle.lines.proofs.ByteWords.{words_length}
use Rattle.lines.proofs.Puts.{byte_cases}
use Rattle.lines.specs.declared.NotWritten.{NotWritten}
use Rattle.lines.specs.Writing.{not_written}

-- ---- the words of bytes in parts

words_take : (k : ℕ) (bs cs : List ℕ) → k * 2 ≤ length bs → words_in (take (k * 2) bs ++ cs) ≡ take k (words_in bs) ++ words_in cs
unfolding words_in
words_take zero bs cs h = refl
words_take (suc k) [] cs h = absurd (omega arith)
words_take (suc k) (a ∷ []) cs h = absurd (omega arith)
words_take (suc k) (a ∷ b ∷ bs) cs h =
    let e : suc k * 2 ≡ suc (suc (k * 2)) = omega arith in
    ap (λ (j : ℕ). words_in (take j (a ∷ b ∷ bs) ++ cs)) e ∙ ap (λ (l : List ℕ). (a * 256 + b) ∷ l) (words_take k bs cs (omega arith))

words_drop : (k : ℕ) (bs : List ℕ) → k * 2 ≤ length bs → words_in (drop (k * 2) bs) ≡ drop k (words_in bs)
unfolding words_in
words_drop zero bs h = refl
words_drop (suc k) [] h = absurd (omega arith)
words_drop (suc k) (a ∷ []) h = absurd (omega arith)
words_drop (suc k) (a ∷ b ∷ bs) h =
    let e : suc k * 2 ≡ suc (suc (k * 2)) = omega arith in
    ap (λ (j : ℕ). words_in (drop j (a ∷ b ∷ bs))) e ∙ words_drop k bs (omega arith)

-- words of sixteen bits and the idle word come back from their bytes, whatever follows
idle_back : (ws bs : List ℕ) → AllGood ws → words_in (bytes_of (ws ++ (idle ∷ [])) ++ bs) ≡ ws ++ (idle ∷ words_in bs)
unfolding words_in bytes_of
idle_back [] bs g = refl
idle_back (w ∷ ws) bs g =
    let n = g.0.narrow in
    let e : w / 256 % 256 * 256 + w % 256 ≡ w = omega arith in
    λ i. e i ∷ idle_back ws bs g.1 i

-- ---- an accepted call

left_words : (form : AltitudeForm) (bytes : List ℕ) (place : ℕ) (r : Report) → AllGood (words_of form r) → length (words_of form r) < length (words_in bytes) - place
    → words_in (bytes_left (Ok (place + length (words_of form r) + 1)) bytes place (words_of form r))
    ≡ left_as (Ok (place + length (words_of form r) + 1)) (words_in bytes) place (words_of form r)
left_words form bytes place r g h =
    let ws = words_of form r in
    let next = place + length ws + 1 in
    let n = words_length bytes in
    words_take place bytes (bytes_of (ws ++ (idle ∷ [])) ++ drop (next * 2) bytes) (omega arith)
    ∙ ap (λ (l : List ℕ). take place (words_in bytes) ++ l)
    (idle_back ws (drop (next * 2) bytes) g ∙ ap (λ (l : List ℕ). ws ++ (idle ∷ l)) (words_drop next bytes (omega arith)))

-- a refused one leaves the bytes
same : (form : AltitudeForm) (bytes : List ℕ) (place : ℕ) (r : Report) (w : Result ℕ NotWritten) → write_bytes form bytes place r ≡ w
    → words_in (bytes_left w bytes place (words_of form r)) ≡ left_as w (words_in bytes) place (words_of form r)
    → words_in (bytes_left (write_bytes form bytes place r) bytes place (words_of form r)) ≡ left_as (write_bytes form bytes place r) (words_in bytes) place (words_of form r)
same form bytes place r w e h =
    ap (λ (x : Result ℕ NotWritten). words_in (bytes_left x bytes place (words_of form r))) e ∙ h ∙ ap (λ (x : Result ℕ NotWritten). left_as x (words_in bytes) place (words_of form r)) (sym e)

pub same_words : SameWords
same_words form bytes place r =
    ⊎_elim (λ h. same form bytes place r (not_written h.0 place) h.1 refl)
    (λ h. same form bytes place r (Ok (place + length (words_of form r) + 1)) h.3 (left_words form bytes place r (words_good form r h.0) h.2))
    (byte_cases form bytes place r)
