-- What a call answers and leaves: how the rows are gone through, and the claims of the calls. Assumes nothing.
use Prim.Native.Nat.{ℕ, ◌+◌, ◌*◌, ◌/◌, ◌%◌, ◌≤◌, ◌<◌}
use mathlib.Core.Path.{◌≡◌, refl, ap, sym, ◌∙◌}
use mathlib.Core.Bool.{Bool, false, cond}
use mathlib.Core.List.{List, ◌++◌}
use native.Mathlib.Omega.{arith}
use lib.Dec.{eqb, ltb}
use lib.ListN.{length, take, drop, length-append, length-drop}
use lib.Seq.{take-append_seam, drop-append_seam}
use borrow.Author.Tests.{lt-ltb, le-ltb, ne_eqb, ltb-true, ltb-false, eqb-false}
use Rattle.std.specs.Prelude.{Option, Some, None, Result, Ok, Err}
use Rattle.rows.proofs.Claims as law
use Rattle.rows.proofs.Claims.{differ}
use Rattle.refusals.specs.declared.LineRefusal.{LineRefusal}
use Rattle.words.proofs.Tests.{picked, passed, by_test}
use Rattle.reports.specs.Altitude.{AltitudeForm}
use Rattle.lines.specs.Line.{most}
use Rattle.lines.specs.Bytes.{most_bytes, words_in, bytes_of}
use Rattle.lines.specs.Taking.{wide_refused, bytes_refused}
use Rattle.lines.proofs.ByteWords.{words_length}
use Rattle.manners.specs.declared.MannersRefusal.TheVariants.{ListTooSmall}
use Rattle.manners.specs.declared.NotListed.{NotListed}
use Rattle.manners.specs.declared.NotListed.TheVariants as N
use Rattle.manners.specs.Breaches.{Breach, breaches, numbers_of}
use Rattle.manners.specs.Steps.{ListsAll}
use Rattle.manners.specs.Listing.{count_in, left_as, list_rows, listed, byte_list_rows, listed_bytes, Gives, Lists, ListsBytes}
use Rattle.manners.specs.Claims.{is_listed, ListRefuses, ByteListRefuses, ListedExactly, ByteListedExactly, RefusedStays, Fills, BehindStays, BytesAsWords}
use Rattle.manners.specs.Laws.{wide_laws, byte_laws}

-- ---- the answer of the rows

module _ (form : AltitudeForm) (line : List ℕ) (room : ℕ) (short : length line ≤ most) where
  pub small : room < length (breaches form line) * 2 → listed form line room ≡ Err (N.List ListTooSmall (length (breaches form line)))
  unfolding listed
  small h =
      let n = wide_laws.each (breaches form line) in
      passed _ _ (le-ltb most (length line) short) ∙ picked _ _ (lt-ltb room (length (numbers_of (breaches form line))) (omega arith))

  pub enough : length (breaches form line) * 2 ≤ room → listed form line room ≡ Ok (length (breaches form line))
  unfolding listed
  enough h =
      let n = wide_laws.each (breaches form line) in
      passed _ _ (le-ltb most (length line) short) ∙ passed _ _ (le-ltb room (length (numbers_of (breaches form line))) (omega arith))

-- ---- a line that is not taken

clash : {X : Type 0} (q : LineRefusal) → ◌≡◌ {A = Option LineRefusal} (Some q) None → X
clash q e = let z : ◌≡◌ {A = ℕ} 0 1 = cc in absurd (omega arith)

abbrev line_answer : Option LineRefusal → Result ℕ NotListed
line_answer (Some q) = Err (N.Line q)
line_answer None = Ok 0

pub words_taken : (n : ℕ) → wide_refused n ≡ None → n ≤ most
words_taken n e = by_test (ltb most n) (λ t. clash _ (sym (picked _ _ t) ∙ e)) (λ t. ltb-false most n t)

pub words_not_taken : (form : AltitudeForm) (line : List ℕ) (room : ℕ) {q : LineRefusal} → wide_refused (length line) ≡ Some q → listed form line room ≡ Err (N.Line q)
unfolding listed
words_not_taken form line room e =
    by_test (ltb most (length line))
    (λ t. picked _ _ t ∙ ap line_answer (sym (picked _ _ t) ∙ e))
    (λ t. clash _ (sym e ∙ passed _ _ t))

-- bytes are answered as the words that they hold, where neither 2 nor 14 is given
pub bytes_as_words : BytesAsWords
unfolding listed_bytes listed
bytes_as_words form bytes room m even =
    let bs = breaches form (words_in bytes) in
    let w = words_length bytes in
    passed _ _ (le-ltb most_bytes (length bytes) m)
    ∙ passed _ _ (ne_eqb (length bytes % 2) 1 (λ z. omega arith))
    ∙ ap (λ (b : Bool). cond b (Err (N.List ListTooSmall (length bs))) (Ok (length bs))) (half room (length bs) (wide_laws.each bs) (byte_laws.each bs))
    ∙ sym (passed _ _ (le-ltb most (length (words_in bytes)) (omega arith)))
  where
    half : (room n : ℕ) {w v : ℕ} → w ≡ n * 2 → v ≡ n * 4 → ltb room v ≡ ltb (room / 2) w
    half room n {w} {v} e f =
        by_test (ltb room v)
        (λ t. let l = ltb-true room v t in t ∙ sym (lt-ltb (room / 2) w (omega arith)))
        (λ t. let l = ltb-false room v t in t ∙ sym (le-ltb (room / 2) w (omega arith)))

pub bytes_taken : (n : ℕ) → bytes_refused n ≡ None → (n ≤ most_bytes) × (n % 2 ≡ 0)
bytes_taken n e =
    by_test (ltb most_bytes n) (λ t. clash _ (sym (picked _ _ t) ∙ e))
    (λ t. by_test (eqb (n % 2) 1) (λ u. clash _ (sym (passed _ _ t ∙ picked _ _ u) ∙ e))
    (λ u. (ltb-false most_bytes n t, let odd = eqb-false (n % 2) 1 u in omega arith)))

pub bytes_not_taken : (form : AltitudeForm) (bytes : List ℕ) (room : ℕ) {q : LineRefusal} → bytes_refused (length bytes) ≡ Some q → listed_bytes form bytes room ≡ Err (N.Line q)
unfolding listed_bytes
bytes_not_taken form bytes room e =
    by_test (ltb most_bytes (length bytes))
    (λ t. picked _ _ t ∙ ap line_answer (sym (picked _ _ t) ∙ e))
    (λ t. by_test (eqb (length bytes % 2) 1)
    (λ u. passed _ _ t ∙ picked _ _ u ∙ ap line_answer (sym (passed _ _ t ∙ picked _ _ u) ∙ e))
    (λ u. clash _ (sym e ∙ passed _ _ t ∙ passed _ _ u)))

module _ (form : AltitudeForm) (bytes : List ℕ) (room : ℕ) (short : length bytes ≤ most_bytes) (even : length bytes % 2 ≡ 0) where
  abbrev found : ℕ
  found = length (breaches form (words_in bytes))

  pub small_bytes : room < found * 4 → listed_bytes form bytes room ≡ Err (N.List ListTooSmall found)
  small_bytes h =
      let w = words_length bytes in
      bytes_as_words form bytes room short even ∙ small form (words_in bytes) (room / 2) (omega arith) (omega arith)

  pub enough_bytes : found * 4 ≤ room → listed_bytes form bytes room ≡ Ok found
  enough_bytes h =
      let w = words_length bytes in
      bytes_as_words form bytes room short even ∙ enough form (words_in bytes) (room / 2) (omega arith) (omega arith)

-- ---- what a call gives

refused_left : (a : Result ℕ NotListed) (needed list : List ℕ) → is_listed a ≡ false → left_as a needed list ≡ list
refused_left (Ok n) needed list e = differ e
refused_left (Err (N.Line q)) needed list e = refl
refused_left (Err (N.List q n)) needed list e = refl

stays : (due : Result ℕ NotListed) (needed list : List ℕ) (a : Result ℕ NotListed) (exit : List ℕ) → Gives due needed list a exit → is_listed a ≡ false → exit ≡ list
stays due needed list a exit w e = w.leaves ∙ refused_left due needed list (sym (ap is_listed w.answers) ∙ e)

pub refused_stays : RefusedStays
refused_stays = record { words = λ form line list. stays _ _ list; bytes = λ form bytes list. stays _ _ list }

-- a refusal leaves the list
pub gives_refusal : {to a : Result ℕ NotListed} {needed list : List ℕ} → to ≡ a → is_listed a ≡ false → Gives to needed list a list
gives_refusal {to} {a} {needed} {list} e r =
    record { answers = sym e; leaves = sym (ap (λ (x : Result ℕ NotListed). left_as x needed list) e ∙ refused_left a needed list r) }

-- what is listed, or why it is not, is what the rows say of a line that is taken
gives_listed : (needed : List Breach → List ℕ) (width : ℕ) {to a : Result ℕ NotListed} {all : List Breach} {list exit : List ℕ}
    → length (needed all) ≡ length all * width → (length list < length all * width → to ≡ Err (N.List ListTooSmall (length all)))
    → (length all * width ≤ length list → to ≡ Ok (length all)) → ListsAll width all needed list a exit → Gives to (needed all) list a exit
gives_listed needed width {to} {a} {all} {list} {exit} each small enough l =
    by_test (ltb (length list) (length all * width))
    (λ t.
    let is = small (ltb-true (length list) (length all * width) t) in
    record { answers = l.answers ∙ rw t (sym is); leaves = l.leaves ∙ rw (t, is) })
    (λ t.
    let is = enough (ltb-false (length list) (length all * width) t) in
    record { answers = l.answers ∙ rw t (sym is); leaves = l.leaves ∙ rw (t, is, each) })

pub gives_wide : (form : AltitudeForm) (line : List ℕ) {list exit : List ℕ} {a : Result ℕ NotListed} → length line ≤ most
    → ListsAll 2 (breaches form line) numbers_of list a exit → Lists form line list a exit
gives_wide form line {list} short =
    gives_listed numbers_of 2 (wide_laws.each (breaches form line)) (small form line (length list) short) (enough form line (length list) short)

pub gives_bytes : (form : AltitudeForm) (bytes : List ℕ) {list exit : List ℕ} {a : Result ℕ NotListed} → length bytes ≤ most_bytes → length bytes % 2 ≡ 0
    → ListsAll 4 (breaches form (words_in bytes)) (λ bs. bytes_of (numbers_of bs)) list a exit → ListsBytes form bytes list a exit
gives_bytes form bytes {list} short even =
    gives_listed (λ bs. bytes_of (numbers_of bs)) 4 (byte_laws.each (breaches form (words_in bytes)))
    (small_bytes form bytes (length list) short even)
    (enough_bytes form bytes (length list) short even)

-- ---- each refusal exactly under its condition

pub list_refuses : ListRefuses
unfolding listed
list_refuses form line room a bad =
    law.refused_exactly (Result ℕ NotListed) is_listed (list_rows form line room) (Ok (length (breaches form line))) a refl bad

pub byte_list_refuses : ByteListRefuses
unfolding listed_bytes
byte_list_refuses form bytes room a bad =
    law.refused_exactly (Result ℕ NotListed) is_listed (byte_list_rows form bytes room) (Ok (length (breaches form (words_in bytes)))) a refl bad

pub listed_exactly : ListedExactly
unfolding listed
listed_exactly form line room n = (
  λ e.
      let none = (law.accepted_exactly (Result ℕ NotListed) is_listed (list_rows form line room) (Ok (length (breaches form line))) (Ok n) (refl, (refl, tt)) refl).0 e in
      let w = wide_laws.each (breaches form line) in
      let l = ltb-false room (length (numbers_of (breaches form line))) none.0.1.0 in
      (ltb-false most (length line) none.0.0, omega arith, ap count_in none.1),
  λ h. enough form line room h.0 h.1 ∙ ap Ok h.2,
)

pub byte_listed_exactly : ByteListedExactly
unfolding listed_bytes
byte_listed_exactly form bytes room n =
    let bs = breaches form (words_in bytes) in (
      λ e.
          let none = (law.accepted_exactly (Result ℕ NotListed) is_listed (byte_list_rows form bytes room) (Ok (length bs)) (Ok n) (refl, (refl, (refl, tt))) refl).0 e in
          let w = byte_laws.each bs in
          let odd = eqb-false (length bytes % 2) 1 none.0.1.0 in
          let l = ltb-false room (length (bytes_of (numbers_of bs))) none.0.1.1.0 in
          (ltb-false most_bytes (length bytes) none.0.0, omega arith, omega arith, ap count_in none.1),
      λ h. enough_bytes form bytes room h.0 h.1 h.2 ∙ ap Ok h.3,
    )

-- ---- what stands behind the list

fills : (due : Result ℕ NotListed) (needed list : List ℕ) (n k : ℕ) (exit : List ℕ) → Gives due needed list (Ok n) exit → length needed ≡ k → k ≤ length list → Fills needed k list exit
fills due needed list n k exit w e h =
    let rest = drop (length needed) list in
    let is : exit ≡ needed ++ rest = w.leaves ∙ ap (λ (x : Result ℕ NotListed). left_as x needed list) (sym w.answers) in
    let d = length-drop (length needed) list in
    record {
      filled = ap (take k) is ∙ ap (λ (i : ℕ). take i (needed ++ rest)) (sym e) ∙ take-append_seam needed rest;
      behind = ap (drop k) is ∙ ap (λ (i : ℕ). drop i (needed ++ rest)) (sym e) ∙ drop-append_seam needed rest ∙ ap (λ (i : ℕ). drop i list) e;
      long = ap length is ∙ length-append needed rest ∙ (let z : length needed + length rest ≡ length list = omega arith in z);
    }

pub behind_stays : BehindStays
behind_stays = record {
  words =
      λ form line list n exit w.
      let k = (listed_exactly form line (length list) n).0 (sym w.answers) in
      let e = wide_laws.each (breaches form line) in
      let c = k.2 in
      let room = k.1 in
      fills _ (numbers_of (breaches form line)) list n (n * 2) exit w (omega arith) (omega arith);
  bytes =
      λ form bytes list n exit w.
      let k = (byte_listed_exactly form bytes (length list) n).0 (sym w.answers) in
      let e = byte_laws.each (breaches form (words_in bytes)) in
      let c = k.3 in
      let room = k.2 in
      fills _ (bytes_of (numbers_of (breaches form (words_in bytes)))) list n (n * 4) exit w (omega arith) (omega arith);
}
