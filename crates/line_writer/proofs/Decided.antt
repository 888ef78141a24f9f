-- The answer from what a report was made into is the answer by the writer's rows; where it is a place, there is room. Assumes nothing.
use Rattle.std.specs.Prelude.{Err, Ok, Result, Option, Some, None}
use Prim.Native.Nat.{ℕ, ◌+◌, ◌-◌, ◌/◌, ◌%◌, ◌<◌}
use mathlib.Core.Path.{◌≡◌, refl, ap, sym, ◌∙◌}
use mathlib.Core.Bool.{Bool, true, false, not, cond}
use mathlib.Core.List.{List, [], ◌∷◌}
use native.Mathlib.Omega.{arith}
use lib.Dec.{eqb, ltb}
use lib.ListN.{length}
use borrow.Author.Tests.{ltb-false}
use Rattle.rows.specs.Rows.{first_of}
use Rattle.refusals.specs.declared.LineRefusal.{LineRefusal}
use Rattle.refusals.specs.declared.LineRefusal.TheVariants.{PlaceBeyondLine, ValueTooLarge}
use Rattle.words.specs.Word.{idle}
use Rattle.words.proofs.Tests.{picked, passed, by_test}
use Rattle.reports.specs.declared.Report.{Report}
use Rattle.reports.specs.declared.Words.{Words}
use Rattle.reports.specs.declared.Words.TheVariants.{Four, Seven}
use Rattle.reports.specs.Altitude.{AltitudeForm}
use Rattle.reports.specs.Layouts.{words_of, takes, words_in, as_written, written}
use Rattle.lines.specs.declared.NotWritten.{NotWritten}
use Rattle.lines.specs.Line.{most}
use Rattle.lines.specs.Bytes as lent
use Rattle.lines.specs.Bytes.{most_bytes}
use Rattle.lines.specs.Taking.{wide_refused, bytes_refused}
use Rattle.lines.specs.Claims.{put}
use Rattle.lines.specs.Writing.{not_written, place_rows, wrote_after, write_at, left_as, Writes}
use Rattle.lines.specs.ByteWriting.{write_bytes, bytes_left, WritesBytes}
use Rattle.lines.proofs.ByteWords as bytes
use Rattle.lines.proofs.Puts.{put_put}
use Rattle.line_writer.specs.Deciding.{room, room_for, decided, lent_answer, handed, left_by, put_bytes}
use Rattle.line_writer.proofs.Leaves.{bytes_put}

-- ---- a report's words

in_either : (b : Bool) (ws : List ℕ) → words_in (cond b (Four ws) (Seven ws)) ≡ ws
in_either true ws = refl
in_either false ws = refl

as_handed : (form : AltitudeForm) (r : Report) → takes form r ≡ true → handed (written form r) ≡ words_of form r
as_handed form r t = ap handed (picked (as_written (words_of form r)) (Err ValueTooLarge) t) ∙ in_either (eqb (length (words_of form r)) 4) (words_of form r)

-- ---- the answer by rows

decided_rows : (form : AltitudeForm) (n place : ℕ) (r : Report) → decided n place (written form r) ≡ first_of (place_rows form n place r) (wrote_after form place r)
unfolding decided
decided_rows form n place r = ap (cond (ltb n place) (not_written PlaceBeyondLine place)) (by_test (takes form r) taken refused)
  where
    ws : List ℕ
    ws = words_of form r

    Same : Type 0
    Same = room_for n place (written form r) ≡ cond (not (takes form r)) (not_written ValueTooLarge place) (room n place (length ws))

    taken : takes form r ≡ true → Same
    taken t =
        ap (room_for n place) (picked (as_written ws) (Err ValueTooLarge) t)
        ∙ ap (λ (l : List ℕ). room n place (length l)) (in_either (eqb (length ws) 4) ws)
        ∙ sym (passed _ _ (ap not t))

    refused : takes form r ≡ false → Same
    refused t = ap (room_for n place) (passed (as_written ws) (Err ValueTooLarge) t) ∙ sym (picked _ _ (ap not t))

pub wide_rows : (form : AltitudeForm) (line : List ℕ) (place : ℕ) (r : Report)
    → lent_answer (wide_refused (length line)) (length line) place (written form r) ≡ write_at form line place r
unfolding write_at
wide_rows form line place r = by_test (ltb most (length line)) (λ e. rw e refl) (λ e. rw e (decided_rows form (length line) place r))

pub byte_rows : (form : AltitudeForm) (bytes : List ℕ) (place : ℕ) (r : Report)
    → lent_answer (bytes_refused (length bytes)) (length bytes / 2) place (written form r) ≡ write_bytes form bytes place r
unfolding write_bytes
byte_rows form bs place r =
    by_test (ltb most_bytes (length bs)) (λ e. rw e refl)
    (λ e. rw e
    (by_test (eqb (length bs % 2) 1) (λ f. rw f refl)
    (λ f. rw f (ap (λ (n : ℕ). decided n place (written form r)) (sym (bytes.words_length bs)) ∙ decided_rows form (length (lent.words_in bs)) place r))))

-- ---- where the answer is a place

clash : {X : Type 0} (q : LineRefusal) (p x : ℕ) → not_written q p ≡ Ok x → X
clash q p x e = let z : ◌≡◌ {A = ℕ} 0 1 = cc in absurd (omega arith)

-- there is room for the words, and the place is the one behind them and the idle word
pub record Room (n place next : ℕ) (ws : List ℕ) : Type 0 where
  pub fits : place + length ws < n
  pub there : next ≡ place + length ws + 1

decided_room : (n place : ℕ) (ws : Words) (x : ℕ) → decided n place (Ok ws) ≡ Ok x → Room n place x (words_in ws)
unfolding decided
decided_room n place ws x e =
    let k = length (words_in ws) in
    by_test (ltb n place) (λ t. clash _ _ _ (sym (picked _ _ t) ∙ e))
    (λ t. by_test (ltb (n - place) (k + 1)) (λ u. clash _ _ _ (sym (passed _ _ t ∙ picked _ _ u) ∙ e))
    (λ u.
    let h = ltb-false n place t in
    let l = ltb-false (n - place) (k + 1) u in
    let f = sym (passed _ _ t ∙ passed _ _ u) ∙ e in
    record { fits = omega arith; there = cc }))

pub lent_room : (why : Option LineRefusal) (n place : ℕ) (ws : Words) (x : ℕ) → lent_answer why n place (Ok ws) ≡ Ok x → Room n place x (words_in ws)
lent_room (Some q) n place ws x e = clash q place x e
lent_room None n place ws x e = decided_room n place ws x e

-- a refusal has no words, and no place is answered to it
no_place : {X : Type 0} (n place : ℕ) (q : LineRefusal) (x : ℕ) → decided n place (Err q) ≡ Ok x → X
unfolding decided
no_place n place q x e = by_test (ltb n place) (λ t. clash _ _ _ (sym (picked _ _ t) ∙ e)) (λ t. clash _ _ _ (sym (passed _ _ t) ∙ e))

pub no_words : {X : Type 0} (why : Option LineRefusal) (n place : ℕ) (q : LineRefusal) (x : ℕ) → lent_answer why n place (Err q) ≡ Ok x → X
no_words (Some p) n place q x e = clash p place x e
no_words None n place q x e = no_place n place q x e

-- so a report was taken, and its words have room
pub taken_room : (why : Option LineRefusal) (n place : ℕ) (form : AltitudeForm) (r : Report) (x : ℕ) → lent_answer why n place (written form r) ≡ Ok x
    → (takes form r ≡ true) × Room n place x (handed (written form r))
taken_room why n place form r x e = go (takes form r) refl
  where
    go : (b : Bool) → takes form r ≡ b → (takes form r ≡ true) × Room n place x (handed (written form r))
    go true t =
        let w = picked (as_written (words_of form r)) (Err ValueTooLarge) t in
        (t, rw w (lent_room why n place _ x (sym (ap (lent_answer why n place) w) ∙ e)))
    go false t = no_words why n place ValueTooLarge x (sym (ap (lent_answer why n place) (passed (as_written (words_of form r)) (Err ValueTooLarge) t)) ∙ e)

-- ---- a call

pub wide_writes : (form : AltitudeForm) (line exit : List ℕ) (place : ℕ) (r : Report) (w : Result ℕ NotWritten)
    → w ≡ lent_answer (wide_refused (length line)) (length line) place (written form r)
    → exit ≡ left_by put w line place (handed (written form r)) → Writes form line place r w exit
wide_writes form line exit place r w a l =
    let b = a ∙ wide_rows form line place r in
    record { answers = b; leaves = go w a l ∙ ap (λ (v : Result ℕ NotWritten). left_as v line place (words_of form r)) b }
  where
    go : (v : Result ℕ NotWritten) → v ≡ lent_answer (wide_refused (length line)) (length line) place (written form r)
        → exit ≡ left_by put v line place (handed (written form r)) → exit ≡ left_as v line place (words_of form r)
    go (Err q) e f = f
    go (Ok x) e f =
        let k = taken_room _ _ _ form r x (sym e) in
        let room = k.1.fits in
        let ws = handed (written form r) in
        f
        ∙ put_put line place ws (idle ∷ []) (omega arith)
        ∙ ap (λ (n : ℕ). left_as (Ok n) line place ws) (sym k.1.there)
        ∙ ap (left_as (Ok x) line place) (as_handed form r k.0)

pub byte_writes : (form : AltitudeForm) (bytes exit : List ℕ) (place : ℕ) (r : Report) (w : Result ℕ NotWritten)
    → w ≡ lent_answer (bytes_refused (length bytes)) (length bytes / 2) place (written form r)
    → exit ≡ left_by put_bytes w bytes place (handed (written form r)) → WritesBytes form bytes place r w exit
byte_writes form bs exit place r w a l =
    let b = a ∙ byte_rows form bs place r in
    record { answers = b; leaves = go w a l ∙ ap (λ (v : Result ℕ NotWritten). bytes_left v bs place (words_of form r)) b }
  where
    go : (v : Result ℕ NotWritten) → v ≡ lent_answer (bytes_refused (length bs)) (length bs / 2) place (written form r)
        → exit ≡ left_by put_bytes v bs place (handed (written form r)) → exit ≡ bytes_left v bs place (words_of form r)
    go (Err q) e f = f
    go (Ok x) e f =
        let k = taken_room _ _ _ form r x (sym e) in
        let room = k.1.fits in
        let ws = handed (written form r) in
        f
        ∙ bytes_put bs place ws (omega arith)
        ∙ ap (λ (n : ℕ). bytes_left (Ok n) bs place ws) (sym k.1.there)
        ∙ ap (bytes_left (Ok x) bs place) (as_handed form r k.0)
