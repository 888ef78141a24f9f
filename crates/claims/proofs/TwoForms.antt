-- The two forms of the altitude: what the new one answers by what document 01's answers (specs/TwoForms.antt). What is read of a report goes by one
-- law on any two forms (`mapped`). Assumes nothing.
use Rattle.std.specs.Prelude.{Err, Ok, Result}
use Prim.Native.Nat.{ℕ, zero, suc, ◌+◌, ◌-◌, ◌/◌, ◌%◌}
use mathlib.Core.Path.{◌≡◌, refl, sym, ap, ◌∙◌}
use mathlib.Core.Bool.{Bool, true, false, not, cond}
use mathlib.Core.List.{List, [], ◌∷◌, ◌++◌}
use native.Mathlib.Omega.{arith}
use borrow.Author.Tests.{eqb-true, ltb-true, lt-ltb}
use lib.Dec.{eqb, ltb}
use lib.IntN.{ℤ, pos, neg_ℤ, ◌-ℤ◌}
use lib.ListN.{length, get_or, take}
use Rattle.rows.specs.Rows.{Row, row, first_of, each}
use Rattle.rows.specs.Claims.{NoneHolds, Refusing}
use Rattle.rows.proofs.Claims as rows
use Rattle.rows.proofs.Claims.{differ}
use Rattle.refusals.specs.declared.LineRefusal.TheVariants.{WordTooWide, EvenWord, UnknownForm, WrongLength, UnassignedRadar, SpareBitSet, MinusZero, LineTooLong, OddByteCount, PlaceBeyondLine, ValueTooLarge, NoRoom}
use Rattle.words.specs.Tests.{all, any}
use Rattle.words.specs.Word.{bits, bit, wider_than_a_word, even, first}
use Rattle.words.specs.Layout.{Field, count, words_by, fitting_all, fitting_by}
use Rattle.words.proofs.Layouts.{both}
use Rattle.words.proofs.Tests.{picked, passed, by_test}
use Rattle.reports.specs.declared.Height.{Height}
use Rattle.reports.specs.declared.Height.TheVariants as H
use Rattle.reports.specs.declared.Dabs.{Dabs}
use Rattle.reports.specs.declared.Atcrbs.{Atcrbs}
use Rattle.reports.specs.declared.Report.{Report}
use Rattle.reports.specs.declared.Report.TheVariants as R
use Rattle.reports.specs.declared.altitude.Form.{Form}
use Rattle.reports.specs.declared.altitude.Form.TheVariants as F
use Rattle.reports.specs.Altitude.{AltitudeForm, sign, magnitude, negative, sign_magnitude, twos_complement, form_of}
use Rattle.reports.specs.Forms.{is_seven, is_search, is_strobe, is_status, is_map, is_dabs, is_cd, is_mtd, is_rdas, is_mtd_search, is_rdas_search}
use Rattle.reports.specs.Records.{height_of, dabs_of, atcrbs_of, mtd_of, rdas_of, four_of, seven_of, report_of}
use Rattle.reports.specs.Conditions.{too_wide_word, even_word, unknown_form, wrong_length, unassigned, spare_set, minus_zero}
use Rattle.reports.specs.Layouts.{last_word, layout_of, words_of, takes, as_written, written}
use Rattle.reports.specs.Runs.{read_run, table_of, answer_offset}
use Rattle.reports.specs.Values.{counted_of}
use Rattle.reports.specs.Kinds.{dabs_kind, atcrbs_kind, kind_of, kind_number}
use Rattle.reports.specs.Claims.{InRange}
use Rattle.reports.proofs.Altitudes.{forms_sound, range_of_each, same_from_zero}
use Rattle.reports.proofs.Tests.{by_cond, by_conds, holds_not}
use Rattle.reports.proofs.Demand2.{demand_2}
use Rattle.lines.specs.declared.What.{What}
use Rattle.lines.specs.declared.What.TheVariants as W
use Rattle.lines.specs.declared.Outcome.{Outcome}
use Rattle.lines.specs.Line.{outcome_of, what_of, placed, outcome_at, line_rows, most, read_by, read_at}
use Rattle.lines.specs.Bytes.{most_bytes, words_in, byte_rows, read_bytes}
use Rattle.lines.specs.Writing.{place_rows, write_at, left_as}
use Rattle.lines.specs.ByteWriting.{write_bytes, bytes_left}
use Rattle.index.specs.Entries.{file_of, number_in, kind_in, entry_of}
use Rattle.claims.specs.TwoForms.{dabs_with, atcrbs_with, height_by, altitude_by, of_height, of_altitude, turn, turned, lowest, is_minus_zero, answer_anew, NewReading, MinusZeroIsLowest, low_altitude, EqualReadings, RestStays, NeverMinusZero, NeverMinusZeroInBytes, what_anew, outcome_anew, run_from, NewOutcome, NewOutcomeOfBytes, is_nine, SameEntry, ElevenFollows, EqualWriting, TurnedWords, WriteAlike, SameCalls}
use Rattle.reports.specs.declared.RunRefusal.{RunRefusal}
use Rattle.reports.specs.Runs.{refused_at}
use Rattle.lines.specs.Writing.{not_written}

-- ---- the height of a report in two forms

-- of tests that do not all hold, the second does not, where the first holds and the third does because none of its five do
second_not : (a b c d e f g : Bool) → a ≡ true → c ≡ false → d ≡ false → e ≡ false → f ≡ false → g ≡ false
    → all (a ∷ b ∷ not (any (c ∷ d ∷ e ∷ f ∷ g ∷ [])) ∷ []) ≡ false → b ≡ false
second_not a b c d e f g i j k l m o h = holds_not b (simp (i, j, k, l, m, o) at h)

-- no code of a radar is told: bit 12 is zero
no-radar : (ws : List ℕ) → is_seven ws ≡ true → unassigned ws ≡ false → is_mtd_search ws ≡ false → is_rdas_search ws ≡ false
    → is_cd ws ≡ false → is_mtd ws ≡ false → is_rdas ws ≡ false → bit ws 12 ≡ false
no-radar ws seven assigned f g c d e =
    second_not (is_seven ws) (bit ws 12) (is_cd ws) (is_mtd ws) (is_rdas ws) (is_mtd_search ws) (is_rdas_search ws) seven c d e f g assigned

module _ (f g : AltitudeForm) (by : ℤ → ℤ) (ws : List ℕ) where
  abbrev n : ℕ
  n = bits ws 79 90

  -- the altitudes that the twelve bits are, where they are one
  abbrev Plain : Type 0
  Plain = is_seven ws ≡ true → bit ws 12 ≡ false → bit ws 6 ≡ true → by (f.altitude n) ≡ g.altitude n

  height-by : is_seven ws ≡ true → (is_cd ws ≡ false → is_mtd ws ≡ false → is_rdas ws ≡ false → bit ws 12 ≡ false) → Plain → height_by by (height_of f ws) ≡ height_of g ws
  unfolding height_of
  height-by seven none plain = go (is_cd ws) (is_mtd ws) (is_rdas ws) (bit ws 6) refl refl refl refl
    where
      height : AltitudeForm → Bool → Bool → Bool → Bool → Height
      height form a b c d =
          cond a (H.Cd (bit ws 6) (record { 0 = bits ws 79 81 }))
          (cond b (H.Mtd (bit ws 6) (bits ws 79 80))
          (cond c (H.Rdas (bit ws 6) (bits ws 79 82))
          (cond d (H.Altitude (form.altitude n)) (H.Carried n))))

      go : (a b c d : Bool) → is_cd ws ≡ a → is_mtd ws ≡ b → is_rdas ws ≡ c → bit ws 6 ≡ d → height_by by (height f a b c d) ≡ height g a b c d
      go true b c d k l m p = refl
      go false true c d k l m p = refl
      go false false true d k l m p = refl
      go false false false true k l m p = ap H.Altitude (plain seven (none k l m) p)
      go false false false false k l m p = refl

  seven_by : is_seven ws ≡ true → unassigned ws ≡ false → Plain → altitude_by by (seven_of f ws) ≡ seven_of g ws
  unfolding seven_of
  seven_by seven assigned plain = go (is_dabs ws) (is_mtd_search ws) (is_rdas_search ws) refl refl refl
    where
      report : AltitudeForm → Bool → Bool → Bool → Report
      report form a b c =
          cond a (R.Dabs (dabs_of ws (height_of form ws)))
          (cond b (R.Mtd (mtd_of ws))
          (cond c (R.Rdas (rdas_of ws))
          (R.Atcrbs (atcrbs_of ws (height_of form ws)))))

      go : (a b c : Bool) → is_dabs ws ≡ a → is_mtd_search ws ≡ b → is_rdas_search ws ≡ c → altitude_by by (report f a b c) ≡ report g a b c
      go true b c k l m =
          let four = (both (bit ws 4) _ (both (is_seven ws) _ k).1).0 in
          ap (λ (h : Height). R.Dabs (dabs_of ws h)) (height-by seven (no-radar ws seven assigned (simp (seven, four)) (simp (seven, four))) plain)
      go false true c k l m = refl
      go false false true k l m = refl
      go false false false k l m = ap (λ (h : Height). R.Atcrbs (atcrbs_of ws h)) (height-by seven (no-radar ws seven assigned l m) plain)

  -- four words have no altitude
  four_by : altitude_by by (four_of ws) ≡ four_of ws
  unfolding four_of
  four_by =
      by_cond Stays (is_search ws) (λ k. refl) (λ k.
      by_cond Stays (is_strobe ws) (λ l. refl) (λ l.
      by_cond Stays (is_status ws) (λ m. refl) (λ m.
      by_cond Stays (is_map ws) (λ o. refl) (λ o. refl))))
    where
      Stays : Report → Type 0
      Stays r = altitude_by by r ≡ r

  -- so of every report, once no radar's code is unassigned
  mapped : unassigned ws ≡ false → Plain → altitude_by by (report_of f ws) ≡ report_of g ws
  unfolding report_of
  mapped assigned plain = go (is_seven ws) refl
    where
      go : (b : Bool) → is_seven ws ≡ b → altitude_by by (cond b (seven_of f ws) (four_of ws)) ≡ cond b (seven_of g ws) (four_of ws)
      go true k = seven_by k assigned plain
      go false k = four_by

-- ---- what twelve bits are in the two

-- the first bit of the twelve, and of the word
first_bit : (ws : List ℕ) → sign (bits ws 79 90) ≡ bit ws 79
first_bit ws = ap (λ (n : ℕ). eqb n 1) (let e : bits ws 79 90 / 2048 ≡ bits ws 79 79 = omega arith in e)

-- below zero in document 01's form: the altitude turned is the same bits in the new one
turn_minus : (m : ℕ) → eqb m 0 ≡ false → turn (neg_ℤ (pos m)) ≡ pos m -ℤ pos 2048
turn_minus zero h = differ h
turn_minus (suc m) h = refl

-- what is no minus zero: the altitude turned
turn_plain : (n : ℕ) → sign_magnitude.refused n ≡ false → turn (sign_magnitude.altitude n) ≡ twos_complement.altitude n
turn_plain n h =
    by_test (sign n)
    (λ s. ap turn (picked _ _ s) ∙ turn_minus (magnitude n) (holds_not _ (sym (picked _ _ s) ∙ h)) ∙ sym (picked _ _ s))
    (λ s. ap turn (passed _ _ s) ∙ sym (passed _ _ s))

-- minus zero: -2048
lowest_plain : (n : ℕ) → sign_magnitude.refused n ≡ true → neg_ℤ (pos 2048) ≡ twos_complement.altitude n
lowest_plain n h =
    let t = both (sign n) _ h in
    let z = eqb-true (magnitude n) 0 (both (eqb (magnitude n) 0) true t.1).0 in
    sym (picked _ _ t.0 ∙ ap (λ (m : ℕ). pos m -ℤ pos 2048) z)

-- the first bit zero: the same
same_plain : (n : ℕ) → sign n ≡ false → sign_magnitude.altitude n ≡ twos_complement.altitude n
same_plain n h = passed _ _ h ∙ sym (passed _ _ h)

-- ---- the answers to a run

-- the rows before the last do not ask the form, and where none of them holds, the last decides
abbrev common : List ℕ → List (Row (Result Report RunRefusal))
common ws =
    row (too_wide_word ws) (refused_at WordTooWide (first wider_than_a_word ws))
    ∷ row (even_word ws) (refused_at EvenWord (first even ws))
    ∷ row (unknown_form ws) (refused_at UnknownForm 0)
    ∷ row (wrong_length ws) (refused_at WrongLength 0)
    ∷ row (unassigned ws) (refused_at UnassignedRadar 0)
    ∷ row (spare_set ws) (refused_at SpareBitSet 0)
    ∷ []

abbrev last_of : AltitudeForm → List ℕ → Result Report RunRefusal
last_of form ws = cond (minus_zero form ws) (refused_at MinusZero 0) (Ok (report_of form ws))

-- rows are asked alike, and where none holds the other answers are the same
alike : {X : Type 0} (rs : List (Row X)) (x y : X) → (NoneHolds rs → x ≡ y) → first_of rs x ≡ first_of rs y
alike [] x y e = e tt
alike (r ∷ rs) x y e =
    by_test r.holds
    (λ t. picked _ _ t ∙ sym (picked _ _ t))
    (λ t. passed _ _ t ∙ alike rs x y (λ n. e (t, n)) ∙ sym (passed _ _ t))

-- the new form has no minus zero
no_minus : (ws : List ℕ) → minus_zero twos_complement ws ≡ false
no_minus ws = go (is_seven ws) (not (bit ws 12)) (bit ws 6)
  where
    go : (a b c : Bool) → all (a ∷ b ∷ c ∷ false ∷ []) ≡ false
    go true true true = refl
    go true true false = refl
    go true false c = refl
    go false b c = refl

not-false : (b : Bool) → not b ≡ true → b ≡ false
not-false true e = sym e
not-false false e = refl

-- of four tests the last, where the others hold
fourth : (a b c d : Bool) → all (a ∷ b ∷ c ∷ d ∷ []) ≡ true → d ≡ true
fourth a b c d h = (both d true (both c _ (both b _ (both a _ h).1).1).1).0

fourth_not : (a b c d : Bool) → a ≡ true → b ≡ false → c ≡ true → all (a ∷ not b ∷ c ∷ d ∷ []) ≡ false → d ≡ false
fourth_not a b c d i j k h = holds_not d (simp (i, j, k) at h)

module _ (ws : List ℕ) where
  abbrev twelve : ℕ
  twelve = bits ws 79 90

  accepted : last_of twos_complement ws ≡ Ok (report_of twos_complement ws)
  accepted = passed _ _ (no_minus ws)

  last_anew : NoneHolds (common ws) → last_of twos_complement ws ≡ answer_anew ws (last_of sign_magnitude ws)
  last_anew none =
      let assigned = none.1.1.1.1.0 in
      by_test (minus_zero sign_magnitude ws)
      (λ t.
      accepted
      ∙ ap Ok (sym (mapped sign_magnitude twos_complement (λ z. neg_ℤ (pos 2048)) ws assigned (λ s r c. lowest_plain twelve (fourth (is_seven ws) (not (bit ws 12)) (bit ws 6) _ t))))
      ∙ sym (ap (answer_anew ws) (picked _ _ t)))
      (λ t.
      accepted
      ∙ ap Ok (sym (mapped sign_magnitude twos_complement turn ws assigned (λ s r c. turn_plain twelve (fourth_not (is_seven ws) (bit ws 12) (bit ws 6) _ s r c t))))
      ∙ sym (ap (answer_anew ws) (passed _ _ t)))

pub new_reading : NewReading
new_reading ws = alike (common ws) _ _ (last_anew ws) ∙ rows.each_of (Result Report RunRefusal) (Result Report RunRefusal) (answer_anew ws) (common ws) (last_of sign_magnitude ws)

-- ---- minus zero

-- a run that gets 9 is minus zero: no row before the last gives it
abbrev ninth : Result Report RunRefusal → Bool
ninth (Ok r) = false
ninth (Err refusal) = is_minus_zero refusal.why

not_given : (rs : List (Row (Result Report RunRefusal))) (x : Result Report RunRefusal) → Refusing ninth rs → ninth x ≡ false → ninth (first_of rs x) ≡ false
not_given [] x none e = e
not_given (r ∷ rs) x none e = by_cond (λ y. ninth y ≡ false) r.holds (λ t. none.0) (λ t. not_given rs x none.1 e)

is_minus : (ws : List ℕ) (o : ℕ) → read_run sign_magnitude ws ≡ refused_at MinusZero o → minus_zero sign_magnitude ws ≡ true
is_minus ws o e =
    by_test (minus_zero sign_magnitude ws) (λ t. t)
    (λ t. differ (sym (ap ninth e) ∙ not_given (common ws) (last_of sign_magnitude ws) (refl, (refl, (refl, (refl, (refl, (refl, tt)))))) (ap ninth (passed _ _ t))))

-- it has an altitude
has_altitude : (form : AltitudeForm) (ws : List ℕ) → is_seven ws ≡ true → bit ws 12 ≡ false → bit ws 6 ≡ true → of_altitude (λ v. true) (report_of form ws) ≡ true
unfolding report_of seven_of height_of
has_altitude form ws s r c = by_test (bit ws 4) (λ b. simp (s, r, c, b)) (λ b. simp (s, r, c, b))

-- a test of an altitude that is put in its place
put_height : (test : ℤ → Bool) (z : ℤ) (h : Height) → of_height test (height_by (λ v. z) h) ≡ of_height (λ v. test z) h
put_height test z (H.Altitude v) = refl
put_height test z (H.Carried n) = refl
put_height test z (H.Cd c n) = refl
put_height test z (H.Mtd c n) = refl
put_height test z (H.Rdas c n) = refl

put_altitude : (test : ℤ → Bool) (z : ℤ) (r : Report) → of_altitude test (altitude_by (λ v. z) r) ≡ of_altitude (λ v. test z) r
put_altitude test z (R.Search s) = refl
put_altitude test z (R.Strobe s) = refl
put_altitude test z (R.Map m) = refl
put_altitude test z (R.Status s) = refl
put_altitude test z (R.Rtqc s) = refl
put_altitude test z (R.Dabs d) = put_height test z d.height
put_altitude test z (R.Atcrbs a) = put_height test z a.height
put_altitude test z (R.Mtd m) = refl
put_altitude test z (R.Rdas r) = refl

pub minus_zero_is_lowest : MinusZeroIsLowest
minus_zero_is_lowest ws o e =
    let m = is_minus ws o e in
    let seven = both (is_seven ws) _ m in
    let plain = both (not (bit ws 12)) _ seven.1 in
    let mode = (both (bit ws 6) _ plain.1).0 in (
      lowest (report_of sign_magnitude ws),
      new_reading ws ∙ ap (answer_anew ws) e,
      put_altitude _ (neg_ℤ (pos 2048)) (report_of sign_magnitude ws) ∙ has_altitude sign_magnitude ws seven.0 (not-false (bit ws 12) plain.0) mode,
    )

-- ---- where the first bit is not one

-- a report stays where f leaves each altitude that it can have
height_stays : (f : ℤ → ℤ) (test : ℤ → Bool) → ((z : ℤ) → test z ≡ false → f z ≡ z) → (h : Height) → of_height test h ≡ false → height_by f h ≡ h
height_stays f test e (H.Altitude z) k = ap H.Altitude (e z k)
height_stays f test e (H.Carried n) k = refl
height_stays f test e (H.Cd c n) k = refl
height_stays f test e (H.Mtd c n) k = refl
height_stays f test e (H.Rdas c n) k = refl

report_stays : (f : ℤ → ℤ) (test : ℤ → Bool) → ((z : ℤ) → test z ≡ false → f z ≡ z) → (r : Report) → of_altitude test r ≡ false → altitude_by f r ≡ r
report_stays f test e (R.Search s) k = refl
report_stays f test e (R.Strobe s) k = refl
report_stays f test e (R.Map m) k = refl
report_stays f test e (R.Status s) k = refl
report_stays f test e (R.Rtqc s) k = refl
report_stays f test e (R.Dabs d) k = ap (λ (h : Height). R.Dabs (dabs_with d h)) (height_stays f test e d.height k)
report_stays f test e (R.Atcrbs a) k = ap (λ (h : Height). R.Atcrbs (atcrbs_with a h)) (height_stays f test e a.height k)
report_stays f test e (R.Mtd m) k = refl
report_stays f test e (R.Rdas r) k = refl

-- a report with its own altitude is itself
own_height : (h : Height) → height_by (λ z. z) h ≡ h
own_height (H.Altitude z) = refl
own_height (H.Carried n) = refl
own_height (H.Cd c n) = refl
own_height (H.Mtd c n) = refl
own_height (H.Rdas c n) = refl

own_report : (r : Report) → altitude_by (λ z. z) r ≡ r
own_report (R.Search s) = refl
own_report (R.Strobe s) = refl
own_report (R.Map m) = refl
own_report (R.Status s) = refl
own_report (R.Rtqc s) = refl
own_report (R.Dabs d) = ap (λ (h : Height). R.Dabs (dabs_with d h)) (own_height d.height)
own_report (R.Atcrbs a) = ap (λ (h : Height). R.Atcrbs (atcrbs_with a h)) (own_height a.height)
own_report (R.Mtd m) = refl
own_report (R.Rdas r) = refl

-- where four tests do not all hold, they do not with one more added to the last
not_both : (a b c d e : Bool) → all (a ∷ b ∷ c ∷ d ∷ []) ≡ false → all (a ∷ b ∷ c ∷ all (d ∷ e ∷ []) ∷ []) ≡ false
not_both true true true true e h = differ h
not_both true true true false e h = refl
not_both true true false d e h = refl
not_both true false c d e h = refl
not_both false b c d e h = refl

last_same : (ws : List ℕ) → low_altitude ws ≡ false → NoneHolds (common ws) → last_of twos_complement ws ≡ last_of sign_magnitude ws
last_same ws low none =
    let n = bits ws 79 90 in
    let low-sign : all (is_seven ws ∷ not (bit ws 12) ∷ bit ws 6 ∷ sign n ∷ []) ≡ false = ap (λ (b : Bool). all (is_seven ws ∷ not (bit ws 12) ∷ bit ws 6 ∷ b ∷ [])) (first_bit ws) ∙ low in
    let report : report_of sign_magnitude ws ≡ report_of twos_complement ws =
    sym (own_report (report_of sign_magnitude ws))
    ∙ mapped sign_magnitude twos_complement (λ z. z) ws none.1.1.1.1.0 (λ s r c. same_plain n (fourth_not (is_seven ws) (bit ws 12) (bit ws 6) (sign n) s r c low-sign)) in
    accepted ws ∙ ap Ok (sym report) ∙ sym (passed (refused_at MinusZero 0) _ (not_both (is_seven ws) (not (bit ws 12)) (bit ws 6) (sign n) (eqb (magnitude n) 0) low-sign))

pub equal_readings : EqualReadings
equal_readings = record {
  by_bits = λ ws low. alike (common ws) _ _ (last_same ws low);
  by_record = report_stays turn negative (λ z e. passed _ _ e);
}

-- ---- the outcome at a place

-- no refusal's place moves: minus zero is named at its first word, as a report is
offset_stays : (ws : List ℕ) → answer_offset (answer_anew ws (read_run sign_magnitude ws)) ≡ answer_offset (read_run sign_magnitude ws)
offset_stays ws =
    sym (rows.each_of (Result Report RunRefusal) ℕ (λ a. answer_offset (answer_anew ws a)) (table_of sign_magnitude ws) (Ok (report_of sign_magnitude ws)))
    ∙ rows.each_of (Result Report RunRefusal) ℕ answer_offset (table_of sign_magnitude ws) (Ok (report_of sign_magnitude ws))

what-anew : (ws : List ℕ) (a : Result Report RunRefusal) → what_of (answer_anew ws a) ≡ what_anew ws (what_of a)
what-anew ws (Ok r) = refl
what-anew ws (Err refusal) = by_conds (λ x y. what_of x ≡ y) (is_minus_zero refusal.why) (λ t. refl) (λ t. refl)

run_anew : (n f : ℕ) (run : List ℕ) → outcome_at (read_run twos_complement) n f run ≡ outcome_anew run (outcome_at (read_run sign_magnitude) n f run)
run_anew n f [] = refl
run_anew n f (w ∷ ws) =
    let run = w ∷ ws in
    let a = read_run sign_magnitude run in
    ap (placed f (length run)) (new_reading run) ∙ (λ i. outcome_of (what-anew run a i) f (f + length run) (f + offset_stays run i))

-- rows of the line and the place that minus zero is none of: they answer alike, and then the run does
place_anew : (rs : List (Row Outcome)) (n f : ℕ) (run : List ℕ) → each (outcome_anew run) rs ≡ rs
    → first_of rs (outcome_at (read_run twos_complement) n f run) ≡ outcome_anew run (first_of rs (outcome_at (read_run sign_magnitude) n f run))
place_anew rs n f run same =
    let o = outcome_at (read_run sign_magnitude) n f run in
    ap (first_of rs) (run_anew n f run)
    ∙ ap (λ (q : List (Row Outcome)). first_of q (outcome_anew run o)) (sym same)
    ∙ rows.each_of Outcome Outcome (outcome_anew run) rs o

pub new_outcome : NewOutcome
unfolding read_by
new_outcome line place = place_anew (line_rows line place) _ _ (run_from line place) refl

pub new_outcome_of_bytes : NewOutcomeOfBytes
unfolding read_bytes
new_outcome_of_bytes bytes place = place_anew (byte_rows bytes place) _ _ (run_from (words_in bytes) place) refl

-- ---- 9 is never given in the new form

not_nine : (ws : List ℕ) (w : What) → is_nine (what_anew ws w) ≡ false
not_nine ws (W.Accepted r) = refl
not_nine ws (W.Refused q) = by_cond (λ x. is_nine x ≡ false) (is_minus_zero q) (λ t. refl) (λ t. t)
not_nine ws W.End = refl

never : {X : Type 0} (ws : List ℕ) (o p : Outcome) → o ≡ outcome_anew ws p → o.what ≡ W.Refused MinusZero → X
never ws o p e k = differ (sym (ap is_nine k) ∙ ap (λ (x : Outcome). is_nine x.what) e ∙ not_nine ws p.what)

pub never_minus_zero : NeverMinusZero
never_minus_zero line place = never (run_from line place) _ (read_at sign_magnitude line place) (new_outcome line place)

pub never_minus_zero_in_bytes : NeverMinusZeroInBytes
never_minus_zero_in_bytes bytes place = never (run_from (words_in bytes) place) _ (read_bytes sign_magnitude bytes place) (new_outcome_of_bytes bytes place)

-- ---- what else a report says

dabs-kind : (f : ℤ → ℤ) (h : Height) → dabs_kind (height_by f h) ≡ dabs_kind h
dabs-kind f (H.Altitude z) = refl
dabs-kind f (H.Carried n) = refl
dabs-kind f (H.Cd c n) = refl
dabs-kind f (H.Mtd c n) = refl
dabs-kind f (H.Rdas c n) = refl

atcrbs-kind : (f : ℤ → ℤ) (h : Height) → atcrbs_kind (height_by f h) ≡ atcrbs_kind h
atcrbs-kind f (H.Altitude z) = refl
atcrbs-kind f (H.Carried n) = refl
atcrbs-kind f (H.Cd c n) = refl
atcrbs-kind f (H.Mtd c n) = refl
atcrbs-kind f (H.Rdas c n) = refl

-- of a report, what is told alike of every kind but DABS and ATCRBS, and of these with any height, does not depend on the altitude
rest : {X : Type 0} (say : Report → X) (f : ℤ → ℤ)
    → ((d : Dabs) → say (R.Dabs (dabs_with d (height_by f d.height))) ≡ say (R.Dabs d))
    → ((a : Atcrbs) → say (R.Atcrbs (atcrbs_with a (height_by f a.height))) ≡ say (R.Atcrbs a))
    → (r : Report) → say (altitude_by f r) ≡ say r
rest say f dabs atcrbs (R.Search s) = refl
rest say f dabs atcrbs (R.Strobe s) = refl
rest say f dabs atcrbs (R.Map m) = refl
rest say f dabs atcrbs (R.Status s) = refl
rest say f dabs atcrbs (R.Rtqc s) = refl
rest say f dabs atcrbs (R.Dabs d) = dabs d
rest say f dabs atcrbs (R.Atcrbs a) = atcrbs a
rest say f dabs atcrbs (R.Mtd m) = refl
rest say f dabs atcrbs (R.Rdas r) = refl

pub rest_stays : RestStays
rest_stays = record {
  kind = λ f. rest kind_of f (λ d. dabs-kind f d.height) (λ a. atcrbs-kind f a.height);
  file = λ f. rest file_of f (λ d. refl) (λ a. refl);
  values = λ f. rest counted_of f (λ d. refl) (λ a. refl);
}

entry_anew : (ws : List ℕ) (o : Outcome) (scan : ℕ) → is_nine o.what ≡ false → entry_of (outcome_anew ws o) scan ≡ entry_of o scan
entry_anew ws o scan e = λ i. record { number = number o.what e i; kind = kind o.what e i; scan = scan; place = o.first }
  where
    number : (w : What) → is_nine w ≡ false → number_in (what_anew ws w) ≡ number_in w
    number (W.Accepted r) e = rest_stays.file turn r
    number (W.Refused q) e = ap number_in (passed _ _ e)
    number W.End e = refl

    kind : (w : What) → is_nine w ≡ false → kind_in (what_anew ws w) ≡ kind_in w
    kind (W.Accepted r) e = ap kind_number (rest_stays.kind turn r)
    kind (W.Refused q) e = ap kind_in (passed _ _ e)
    kind W.End e = refl

pub same_entry : SameEntry
same_entry bytes place scan e =
    ap (λ (o : Outcome). entry_of o scan) (new_outcome_of_bytes bytes place) ∙ entry_anew _ (read_bytes sign_magnitude bytes place) scan e

-- ---- writing

pub turned_words : TurnedWords
turned_words r fits =
    let ws = words_of sign_magnitude r in
    let old = (demand_2 sign_magnitude (forms_sound F.SignMagnitude) ws r).1 (refl, fits) in
    let new = (demand_2 twos_complement (forms_sound F.TwosComplement) ws (turned r)).0 (new_reading ws ∙ ap (answer_anew ws) old) in
    (new.1, sym new.0)

-- ---- what is too large

-- seven tests of which the last is of one: the first six, and it
six_and : (a b c d e f t : Bool) → cond a (cond b (cond c (cond d (cond e (cond f (cond (cond t true false) true false) false) false) false) false) false) false
    ≡ all (cond a (cond b (cond c (cond d (cond e (cond f true false) false) false) false) false) false ∷ t ∷ [])
six_and true true true true true true true = refl
six_and true true true true true true false = refl
six_and true true true true true false t = refl
six_and true true true true false f t = refl
six_and true true true false e f t = refl
six_and true true false d e f t = refl
six_and true false c d e f t = refl
six_and false b c d e f t = refl

-- seven words of which the last is this number in twelve bits
abbrev ending : List (List Field) → ℕ → List (List Field)
ending l n = get_or l 0 [] ∷ get_or l 1 [] ∷ get_or l 2 [] ∷ get_or l 3 [] ∷ get_or l 4 [] ∷ get_or l 5 [] ∷ (count 12 n ∷ []) ∷ []

fits_and : (l : List (List Field)) (n : ℕ) → fitting_by (ending l n) ≡ all (fitting_by (ending l 0) ∷ ltb n 4096 ∷ [])
fits_and l n =
    six_and (fitting_all (get_or l 0 [])) (fitting_all (get_or l 1 [])) (fitting_all (get_or l 2 [])) (fitting_all (get_or l 3 [])) (fitting_all (get_or l 4 [])) (fitting_all (get_or l 5 [])) (ltb n 4096)

-- a height that is an altitude, and one that is none
by_altitude : (P : Height → Type 0) → ((z : ℤ) → P (H.Altitude z)) → (h : Height) → of_height (λ v. true) h ≡ true → P h
by_altitude P p (H.Altitude z) e = p z
by_altitude P p (H.Carried n) e = differ (sym e)
by_altitude P p (H.Cd c n) e = differ (sym e)
by_altitude P p (H.Mtd c n) e = differ (sym e)
by_altitude P p (H.Rdas c n) e = differ (sym e)

module _ (form : AltitudeForm) (z : ℤ) where
  abbrev Ranges : Report → Type 0
  Ranges r = takes form (altitude_by (λ v. z) r) ≡ all (takes sign_magnitude (altitude_by (λ v. pos 0) r) ∷ ltb (form.bits_of z) 4096 ∷ [])

  range : (r : Report) → of_altitude (λ v. true) r ≡ true → Ranges r
  range (R.Search s) e = differ (sym e)
  range (R.Strobe s) e = differ (sym e)
  range (R.Map m) e = differ (sym e)
  range (R.Status s) e = differ (sym e)
  range (R.Rtqc s) e = differ (sym e)
  range (R.Dabs d) e =
      by_altitude (λ h. Ranges (R.Dabs (dabs_with d h))) (λ v. fits_and (layout_of form (R.Dabs (dabs_with d (H.Altitude z)))) (form.bits_of z)) d.height e
  range (R.Atcrbs a) e =
      by_altitude (λ h. Ranges (R.Atcrbs (atcrbs_with a h))) (λ v. fits_and (layout_of form (R.Atcrbs (atcrbs_with a (H.Altitude z)))) (form.bits_of z)) a.height e
  range (R.Mtd m) e = differ (sym e)
  range (R.Rdas r) e = differ (sym e)

-- where two forms have the same bits for each altitude that the test passes, a report that it passes has the same words in both
module _ (f g : AltitudeForm) (test : ℤ → Bool) (same : (z : ℤ) → test z ≡ false → f.bits_of z ≡ g.bits_of z) where
  last_alike : (h : Height) → of_height test h ≡ false → last_word f h ≡ last_word g h
  last_alike (H.Altitude z) e = ap (λ (n : ℕ). count 12 n ∷ []) (same z e)
  last_alike (H.Carried n) e = refl
  last_alike (H.Cd c n) e = refl
  last_alike (H.Mtd c n) e = refl
  last_alike (H.Rdas c n) e = refl

  layout_alike : (r : Report) → of_altitude test r ≡ false → layout_of f r ≡ layout_of g r
  layout_alike (R.Search s) e = refl
  layout_alike (R.Strobe s) e = refl
  layout_alike (R.Map m) e = refl
  layout_alike (R.Status s) e = refl
  layout_alike (R.Rtqc s) e = refl
  layout_alike (R.Dabs d) e = ap (λ (l : List Field). take 6 (layout_of f (R.Dabs d)) ++ (l ∷ [])) (last_alike d.height e)
  layout_alike (R.Atcrbs a) e = ap (λ (l : List Field). take 6 (layout_of f (R.Atcrbs a)) ++ (l ∷ [])) (last_alike a.height e)
  layout_alike (R.Mtd m) e = refl
  layout_alike (R.Rdas r) e = refl

-- ---- 11

alone : (b : Bool) → all (b ∷ true ∷ []) ≡ b
alone true = refl
alone false = refl

neither : (b : Bool) → all (b ∷ false ∷ []) ≡ false
neither true = refl
neither false = refl

outside : (form : Form) (r : Report) (z : ℤ) → of_altitude (λ v. true) r ≡ true → (InRange form z → ⊥)
    → written (form_of form) (altitude_by (λ v. z) r) ≡ Err ValueTooLarge
outside form r z e none =
    let n = (form_of form).bits_of z in
    let over : ltb n 4096 ≡ false = by_test (ltb n 4096) (λ t. absurd (none ((range_of_each form z).0 (ltb-true n 4096 t)))) (λ t. t) in
    passed _ _ (range (form_of form) z r e ∙ ap (λ (b : Bool). all (takes sign_magnitude (altitude_by (λ v. pos 0) r) ∷ b ∷ [])) over ∙ neither (takes sign_magnitude (altitude_by (λ v. pos 0) r)))

inside : (form : Form) (r : Report) (z : ℤ) → InRange form z
    → takes (form_of form) (altitude_by (λ v. z) r) ≡ takes sign_magnitude (altitude_by (λ v. pos 0) r)
inside form r z within =
    by_test (of_altitude (λ v. true) r)
    (λ e.
    range (form_of form) z r e
    ∙ ap (λ (b : Bool). all (takes sign_magnitude (altitude_by (λ v. pos 0) r) ∷ b ∷ [])) (lt-ltb _ 4096 ((range_of_each form z).1 within))
    ∙ alone (takes sign_magnitude (altitude_by (λ v. pos 0) r)))
    (λ e.
    ap (takes (form_of form)) (stays z e)
    ∙ ap fitting_by (layout_alike (form_of form) sign_magnitude (λ v. true) (λ v k. differ k) r e)
    ∙ sym (ap (takes sign_magnitude) (stays (pos 0) e)))
  where
    stays : (z : ℤ) → of_altitude (λ v. true) r ≡ false → altitude_by (λ v. z) r ≡ r
    stays z = report_stays (λ v. z) (λ v. true) (λ v k. differ k) r

pub eleven_follows : ElevenFollows
eleven_follows = record { outside = outside; inside = inside }

-- ---- calls of the writers

pub equal_writing : EqualWriting
equal_writing r e =
    ap (λ (l : List (List Field)). cond (fitting_by l) (as_written (words_by l)) (Err ValueTooLarge))
    (layout_alike twos_complement sign_magnitude negative same_from_zero r e)

-- a writer asks of a report only whether it is taken, and its words
module _ (f : AltitudeForm) (r : Report) (g : AltitudeForm) (s : Report) (taken : takes f r ≡ takes g s) (words : words_of f r ≡ words_of g s) where
  same_rows : (n place : ℕ) → place_rows f n place r ≡ place_rows g n place s
  same_rows n place =
      λ i. row (ltb n place) (not_written PlaceBeyondLine place) ∷ row (not (taken i)) (not_written ValueTooLarge place) ∷ row (ltb (n - place) (length (words i) + 1)) (not_written NoRoom place) ∷ []

  on_words : (line : List ℕ) (place : ℕ) → write_at f line place r ≡ write_at g line place s
  unfolding write_at
  on_words line place =
      λ i. first_of (row (ltb most (length line)) (not_written LineTooLong place) ∷ same_rows (length line) place i) (Ok (place + length (words i) + 1))

  on_bytes : (bytes : List ℕ) (place : ℕ) → write_bytes f bytes place r ≡ write_bytes g bytes place s
  unfolding write_bytes
  on_bytes bytes place =
      λ i.
      first_of (row (ltb most_bytes (length bytes)) (not_written LineTooLong place) ∷ row (eqb (length bytes % 2) 1) (not_written OddByteCount place) ∷ same_rows (length (words_in bytes)) place i) (Ok (place + length (words i) + 1))

  write_alike : WriteAlike f r g s
  write_alike = record {
    words = λ line place answer exit w.
        record { answers = w.answers ∙ on_words line place; leaves = w.leaves ∙ (λ i. left_as (on_words line place i) line place (words i)) };
    bytes = λ bytes place answer exit w.
        record { answers = w.answers ∙ on_bytes bytes place; leaves = w.leaves ∙ (λ i. bytes_left (on_bytes bytes place i) bytes place (words i)) };
  }

pub same_calls : SameCalls
same_calls = record {
  equal = λ r e.
      let l = sym (layout_alike twos_complement sign_magnitude negative same_from_zero r e) in
      write_alike sign_magnitude r twos_complement r (ap fitting_by l) (ap words_by l);
  turned = λ r fits.
      let w = turned_words r fits in
      write_alike sign_magnitude r twos_complement (turned r) (fits ∙ sym w.0) (sym w.1);
}
