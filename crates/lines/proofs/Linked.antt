-- The link of an outcome: the claims WithItsNumber, DifferInTheNumber, NumberInRange, NoSuchLinkExactly, NoSuchLinkGives,
-- BytesAsTheirWords and OnOneLink. Each is proved once, of whatever is found at a place. Assumes nothing.
use Prim.Native.Nat.{ℕ, zero, suc, ◌+◌, ◌≤◌, ◌<◌}
use mathlib.Core.Path.{◌≡◌, refl, sym, ap, ◌∙◌}
use mathlib.Core.Bool.{Bool, true, false, cond}
use mathlib.Core.Logic.{◌↔◌}
use mathlib.Core.List.{List, [], ◌∷◌, map}
use native.Mathlib.Omega.{arith}
use lib.Dec.{eqb, ltb}
use lib.ListN.{length, drop}
use borrow.Author.Tests.{lt-ltb, le-ltb, ltb-true, ltb-false}
use Rattle.rows.specs.Rows.{Row, first_of}
use Rattle.rows.specs.Claims.{Refusing}
use Rattle.rows.proofs.Claims.{differ}
use Rattle.refusals.specs.declared.LineRefusal.TheVariants.{NoSuchLink}
use Rattle.refusals.specs.Numbers.{line_number}
use Rattle.words.proofs.Tests.{picked, passed, by_test}
use Rattle.reports.specs.Altitude.{AltitudeForm}
use Rattle.reports.specs.Records.{report_of}
use Rattle.reports.specs.Runs.{read_run}
use Rattle.lines.specs.declared.What.{What}
use Rattle.lines.specs.declared.What.TheVariants as W
use Rattle.lines.specs.declared.Outcome.{Outcome}
use Rattle.lines.specs.declared.Received.{Received}
use Rattle.lines.specs.Line.{not_taken_at, is_end, gap, run_in, outcome_at, line_rows, read_by, read_at, calls}
use Rattle.lines.specs.Bytes.{words_in, byte_rows, read_bytes}
use Rattle.lines.specs.Rows.{run_rows}
use Rattle.lines.specs.Links.{last_link, no_link, received_on, on_link, calls_on}
use Rattle.lines.specs.Claims.{Answer, WithItsNumber, DifferInTheNumber, NumberInRange, NoSuchLinkExactly, NoSuchLinkGives, BytesAsTheirWords, OnOneLink}
use Rattle.lines.proofs.ByteWords.{bytes_as_words}
use Rattle.lines.proofs.Refused.{other, by_run}

-- ---- whatever is found

module _ (link place : ℕ) (found : Outcome) where
  pub given : link ≤ last_link → on_link link place found ≡ received_on link found
  given h = passed _ _ (le-ltb _ _ h)

  pub refused : last_link < link → on_link link place found ≡ received_on no_link (not_taken_at NoSuchLink place)
  refused h = picked _ _ (lt-ltb _ _ h)

  in_range : (on_link link place found).link ≤ last_link
  in_range =
      by_test (ltb last_link link)
      (λ e. let k : (on_link link place found).link ≡ 0 = ap (λ (r : Received). r.link) (picked _ _ e) in omega arith)
      (λ e. let k : (on_link link place found).link ≡ link = ap (λ (r : Received). r.link) (passed _ _ e) in
      let h = ltb-false last_link link e in omega arith)

pub with_its_number : WithItsNumber
with_its_number = record {
  any = λ answer link line place. given link place (read_by answer line place);
  words = λ form link line place. given link place (read_at form line place);
  bytes = λ form link bytes place. given link place (read_bytes form bytes place);
}

number_alone : (link other place : ℕ) (found : Outcome) → link ≤ last_link → other ≤ last_link
    → on_link other place found ≡ received_on other (on_link link place found).outcome
number_alone link other place found h k = given other place found k ∙ sym (ap (λ (r : Received). received_on other r.outcome) (given link place found h))

pub differ_in_the_number : DifferInTheNumber
differ_in_the_number = record {
  words = λ form link other line place. number_alone link other place (read_at form line place);
  bytes = λ form link other bytes place. number_alone link other place (read_bytes form bytes place);
}

pub number_in_range : NumberInRange
number_in_range = record {
  words = λ form link line place. in_range link place (read_at form line place);
  bytes = λ form link bytes place. in_range link place (read_bytes form bytes place);
}

pub no_such_link_gives : NoSuchLinkGives
no_such_link_gives = record {
  words = λ form link line place. refused link place (read_at form line place);
  bytes = λ form link bytes place. refused link place (read_bytes form bytes place);
}

-- ---- 13 is not found on a line

-- by its number
abbrev is_thirteen_in : What → Bool
is_thirteen_in (W.Accepted r) = false
is_thirteen_in (W.Refused q) = eqb (line_number q) (line_number NoSuchLink)
is_thirteen_in W.End = false

abbrev is_thirteen : Outcome → Bool
is_thirteen o = is_thirteen_in o.what

-- no row answers 13, and the other answer is not 13
no_row : (rows : List (Row Outcome)) (o : Outcome) → Refusing is_thirteen rows → is_thirteen o ≡ false → is_thirteen (first_of rows o) ≡ false
no_row [] o h k = k
no_row (x ∷ rows) o h k =
    by_test x.holds (λ e. ap is_thirteen (picked _ _ e) ∙ h.0) (λ e. ap is_thirteen (passed _ _ e) ∙ no_row rows o h.1 k)

-- a run is refused by document 01's table, which has no 13
run_not : (form : AltitudeForm) (n f : ℕ) (run : List ℕ) → is_thirteen (outcome_at (read_run form) n f run) ≡ false
run_not form n f [] = refl
run_not form n f (w ∷ ws) =
    ap is_thirteen (sym (by_run form n f (w ∷ ws)))
    ∙ no_row (run_rows form f (w ∷ ws)) (other form n f (w ∷ ws)) (refl, (refl, (refl, (refl, (refl, (refl, (refl, tt))))))) refl

words_not : (form : AltitudeForm) (line : List ℕ) (place : ℕ) → is_thirteen (read_at form line place) ≡ false
unfolding read_by
words_not form line place =
    let rest = drop place line in
    no_row (line_rows line place) _ (refl, (refl, tt)) (run_not form (length line) (place + gap rest) (run_in rest))

bytes_not : (form : AltitudeForm) (bytes : List ℕ) (place : ℕ) → is_thirteen (read_bytes form bytes place) ≡ false
unfolding read_bytes
bytes_not form bytes place =
    let rest = drop place (words_in bytes) in
    no_row (byte_rows bytes place) _ (refl, (refl, (refl, tt))) (run_not form (length (words_in bytes)) (place + gap rest) (run_in rest))

exactly : (link place : ℕ) (found : Outcome) → is_thirteen found ≡ false
    → ((on_link link place found).outcome.what ≡ W.Refused NoSuchLink) ↔ (last_link < link)
exactly link place found n = (there, λ h. ap (λ (r : Received). r.outcome.what) (refused link place found h))
  where
    there : (on_link link place found).outcome.what ≡ W.Refused NoSuchLink → last_link < link
    there e =
        by_test (ltb last_link link)
        (λ t. ltb-true last_link link t)
        (λ t. let k = given link place found (ltb-false last_link link t) in
        differ (sym (ap is_thirteen_in e) ∙ ap (λ (r : Received). is_thirteen r.outcome) k ∙ n))

pub no_such_link_exactly : NoSuchLinkExactly
no_such_link_exactly = record {
  words = λ form link line place. exactly link place (read_at form line place) (words_not form line place);
  bytes = λ form link bytes place. exactly link place (read_bytes form bytes place) (bytes_not form bytes place);
}

-- ---- bytes and words

pub bytes_as_their_words : BytesAsTheirWords
bytes_as_their_words form link bytes place few even = ap (on_link link place) (bytes_as_words form bytes place (report_of form []) few even).0

-- ---- the calls with one number

calls_are : (answer : Answer) (link k : ℕ) (line : List ℕ) (place : ℕ) → link ≤ last_link
    → calls_on answer link k line place ≡ map (received_on link) (calls answer k line place)
unfolding calls_on calls
calls_are answer link zero line place h = refl
calls_are answer link (suc k) line place h =
    let o = read_by answer line place in
    let e = given link place o h in
    (λ i. e i ∷ cond (is_end (e i).outcome.what) [] (calls_on answer link k line (e i).outcome.after))
    ∙ ap (λ (rs : List Received). received_on link o ∷ rs)
    (ap (cond (is_end o.what) []) (calls_are answer link k line o.after h) ∙ go (is_end o.what) (calls answer k line o.after))
  where
    go : (b : Bool) (os : List Outcome) → cond b [] (map (received_on link) os) ≡ map (received_on link) (cond b [] os)
    go true os = refl
    go false os = refl

pub on_one_link : OnOneLink
on_one_link = record { calls_are = calls_are; outcomes_are = λ answer link line. calls_are answer link (suc (length line)) line 0 }
