-- The list of a line's breaches: the claims RulesNumbered, ExactlyTheBreaches, ByPlace, ReadThere, FromTheOutcomes, SameInBothForms, NoMore,
-- NumbersInBytes, Splits and Replaced. Assumes nothing.
use Rattle.std.specs.Prelude.{Ok, Result, Err}
use Prim.Native.Nat.{ℕ, zero, suc, ◌+◌, ◌*◌, ◌/◌, ◌%◌, ◌≤◌, ◌<◌}
use native.Mathlib.Nat.{add-zero}
use mathlib.Core.Path.{◌≡◌, refl, ap, sym, ◌∙◌, subst}
use mathlib.Core.Bool.{Bool, true, false, not, cond}
use mathlib.Core.List.{List, [], ◌∷◌, ◌++◌, map}
use mathlib.Core.Logic.{◌↔◌, ◌⊎◌, inl, inr, ⊎_elim}
use native.Mathlib.Omega.{arith}
use lib.Dec.{eqb, ltb}
use lib.ListN.{length, length-append}
use borrow.Author.Tests.{eqb-true}
use Rattle.rows.specs.Rows.{row, first_of}
use Rattle.rows.proofs.Claims as law
use Rattle.rows.proofs.Claims.{differ}
use Rattle.words.specs.Tests.{all}
use Rattle.words.specs.Word.{idle, bits, bit}
use Rattle.words.proofs.Tests.{picked, passed, by_test, holds}
use Rattle.reports.specs.declared.altitude.Form.{Form}
use Rattle.reports.specs.declared.Report.{Report}
use Rattle.reports.specs.Altitude.{AltitudeForm, sign_magnitude, twos_complement, form_of}
use Rattle.reports.specs.Forms.{four_words, seven_words, is_four, is_seven, word_count, is_map, is_dabs}
use Rattle.reports.specs.Records.{report_of}
use Rattle.reports.specs.Conditions.{too_wide_word, even_word, unknown_form, wrong_length, unassigned, spare_set, minus_zero}
use Rattle.reports.specs.Runs.{table_of, read_run, is_accepted}
use Rattle.reports.proofs.Refusals.{accepted_layout}
use Rattle.reports.proofs.Tests.{by_cond}
use Rattle.lines.specs.declared.Outcome.{Outcome}
use Rattle.lines.specs.declared.Received.{Received}
use Rattle.lines.specs.declared.What.TheVariants as W
use Rattle.lines.specs.Line.{most, outcome_of, end_of, placed, is_end, read_by, calls, outcomes}
use Rattle.lines.specs.Bytes.{words_in, bytes_of}
use Rattle.lines.specs.Links.{last_link, received_on, read_on}
use Rattle.lines.specs.Stretches.{Run, runs_from, runs, runs_at, gathered}
use Rattle.lines.specs.Claims as whole
use Rattle.lines.specs.Claims.{Answer, Stretches, outcome_of_run, Meets}
use Rattle.lines.proofs.ByteWords.{words_length}
use Rattle.lines.proofs.Linked.{given, on_one_link}
use Rattle.lines.proofs.Runs as lines
use Rattle.lines.proofs.Runs.{All, all_runs}
use Rattle.lines.proofs.Stretched.{runs_are}
use Rattle.lines.proofs.Walked.{gathered_append, goes_on, along_the_walk}
use Rattle.lines.proofs.Outcomes.{few_runs}
use Rattle.lines.proofs.Parts as parts
use Rattle.manners.specs.declared.Rule.{Rule}
use Rattle.manners.specs.declared.Rule.TheVariants as R
use Rattle.std.specs.Prelude.{Option, Some, None}
use Rattle.manners.specs.Numbers.{rule_number}
use Rattle.manners.specs.Rules.{is_substitution, broken, breaks}
use Rattle.manners.specs.Breaches.{Breach, breach, rules, passing, broken_by, breaches_of, breaches, numbers_of, manners_link, found_in, list_of, brought_by}
use Rattle.manners.specs.Listing.{most_in}
use Rattle.manners.specs.Claims.{Among, ExactlyTheBreaches, RisingFrom, ByPlace, RulesNumbered, ReadThere, FromTheOutcomes, SameInBothForms, NoMore, along, Splits, outside, Replaced, NumbersInBytes}
use Rattle.manners.proofs.Broken.{splits, is_false, substitution_told, could, told, rules_differ, same_of_record, brought}
use Rattle.manners.proofs.Answered as answered
use Rattle.reports.specs.declared.RunRefusal.{RunRefusal}

-- ---- a run has one breach at most

-- words break no other rule than the one that they could break
other_holds : (ws : List ℕ) (rule c : Rule) → could ws ≡ c → (rule_number rule ≡ rule_number c → ⊥) → broken rule ws ≡ false
other_holds ws rule c e d =
    by_test (broken rule ws) (λ t. absurd (d (ap rule_number (sym (told rule ws t) ∙ e)))) (λ t. t)

-- the rules that pass, by the four answers
abbrev four : Bool → Bool → Bool → Bool → List Rule
four a b c d =
    let e = cond d (R.MapStopBelowStart ∷ []) [] in
    let f = cond c (R.ModeCAllZeros ∷ e) e in
    let g = cond b (R.RelayWithoutModeC ∷ f) f in
    cond a (R.SubstitutionMode3a ∷ g) g

one_broken : (ws : List ℕ) → broken_by ws ≡ cond (broken (could ws) ws) (could ws ∷ []) []
one_broken ws = by_rule (could ws) refl
  where
    by_rule : (c : Rule) → could ws ≡ c → broken_by ws ≡ cond (broken c ws) (c ∷ []) []
    by_rule R.SubstitutionMode3a e =
        let b = other_holds ws R.RelayWithoutModeC _ e (λ z. omega arith) in
        let c = other_holds ws R.ModeCAllZeros _ e (λ z. omega arith) in
        let d = other_holds ws R.MapStopBelowStart _ e (λ z. omega arith) in
        λ i. four (broken R.SubstitutionMode3a ws) (b i) (c i) (d i)
    by_rule R.RelayWithoutModeC e =
        let a = other_holds ws R.SubstitutionMode3a _ e (λ z. omega arith) in
        let c = other_holds ws R.ModeCAllZeros _ e (λ z. omega arith) in
        let d = other_holds ws R.MapStopBelowStart _ e (λ z. omega arith) in
        λ i. four (a i) (broken R.RelayWithoutModeC ws) (c i) (d i)
    by_rule R.ModeCAllZeros e =
        let a = other_holds ws R.SubstitutionMode3a _ e (λ z. omega arith) in
        let b = other_holds ws R.RelayWithoutModeC _ e (λ z. omega arith) in
        let d = other_holds ws R.MapStopBelowStart _ e (λ z. omega arith) in
        λ i. four (a i) (b i) (broken R.ModeCAllZeros ws) (d i)
    by_rule R.MapStopBelowStart e =
        let a = other_holds ws R.SubstitutionMode3a _ e (λ z. omega arith) in
        let b = other_holds ws R.RelayWithoutModeC _ e (λ z. omega arith) in
        let c = other_holds ws R.ModeCAllZeros _ e (λ z. omega arith) in
        λ i. four (a i) (b i) (c i) (broken R.MapStopBelowStart ws)

-- so its list has one breach or none; with one, the run has four words or seven
pub data Few (r : Run) : List Breach → Type 0 where
  none : Few r []
  one : (rule : Rule) → 4 ≤ length r.words → Few r (breach r.place rule ∷ [])

accepted_long : (form : AltitudeForm) (ws : List ℕ) → is_accepted (read_run form ws) ≡ true → 4 ≤ length ws
accepted_long form ws = by_answer (read_run form ws) refl
  where
    counts : (b : Bool) → 4 ≤ cond b 7 4
    counts true = omega arith
    counts false = omega arith

    by_answer : (a : Result Report RunRefusal) → read_run form ws ≡ a → is_accepted a ≡ true → 4 ≤ length ws
    by_answer (Ok r) e t =
        let l : length ws ≡ word_count ws = eqb-true (length ws) (word_count ws) (holds (eqb (length ws) (word_count ws)) (accepted_layout form ws r e).0.whole) in
        let c = counts (is_seven ws) in
        omega arith
    by_answer (Err refusal) e t = differ (sym t)

few : (form : AltitudeForm) (r : Run) → Few r (breaches_of form r)
few form r =
    by_cond (Few r) (is_accepted (read_run form r.words))
    (λ t. subst (λ (l : List Rule). Few r (map (breach r.place) l)) (sym (one_broken r.words))
    (by_cond (λ (l : List Rule). Few r (map (breach r.place) l)) (broken (could r.words) r.words)
    (λ b. one (could r.words) (accepted_long form r.words t))
    (λ b. none)))
    (λ t. none)

-- ---- by place, and no more than a line has room for

later : (p q : ℕ) (bs : List Breach) → p ≤ q → RisingFrom q bs → RisingFrom p bs
later p q [] h r = tt
later p q (b ∷ bs) h r = (let a = r.0 in omega arith, r.1)

run_rises : (p : ℕ) (r : Run) (bs rest : List Breach) → Few r bs → p ≤ r.place → RisingFrom (r.place + length r.words + 1) rest → RisingFrom p (bs ++ rest)
run_rises p r [] rest none h s = later p (r.place + length r.words + 1) rest (omega arith) s
run_rises p r (b ∷ bs) rest (one rule l) h s = (h, later (r.place + 1) (r.place + length r.words + 1) rest (omega arith) s)

rises : (form : AltitudeForm) (p : ℕ) (rs : List Run) → Stretches p rs → RisingFrom p (gathered (breaches_of form) rs)
unfolding gathered
rises form p [] s = tt
rises form p (r ∷ rs) s =
    run_rises p r (breaches_of form r) (gathered (breaches_of form) rs) (few form r) s.0 (rises form (r.place + length r.words + 1) rs s.3)

pub by_place : ByPlace
by_place form line = rises form 0 (runs line) (runs_are line).0

-- a breach takes five words: its run's four at least, and an idle one
five : (r : Run) (bs : List Breach) → Few r bs → 5 * length bs ≤ length r.words + 1
five r [] none = omega arith
five r (b ∷ bs) (one rule l) = omega arith

-- the runs lie inside the line
Inside : ℕ → Run → Type 0
Inside n r = r.place + length r.words ≤ n

all_inside : (line : List ℕ) → All (Inside (length line)) (runs line)
unfolding Inside
all_inside line = all_runs (Inside (length line)) 0 (length line) (λ p w ws f a b. b) 0 [] line tt (omega arith) (omega arith)

fives : (form : AltitudeForm) (n p : ℕ) (rs : List Run) → p ≤ n + 1 → Stretches p rs → All (Inside n) rs → 5 * length (gathered (breaches_of form) rs) + p ≤ n + 1
unfolding gathered Inside
fives form n p [] h s i = omega arith
fives form n p (r ∷ rs) h s i =
    let here = i.0 in
    let ahead = s.0 in
    let more = fives form n (r.place + length r.words + 1) rs (omega arith) s.3 i.1 in
    let c = five r (breaches_of form r) (few form r) in
    let l = length-append (breaches_of form r) (gathered (breaches_of form) rs) in
    omega arith

in_words : (form : AltitudeForm) (line : List ℕ) → length (breaches form line) ≤ most_in (length line)
in_words form line =
    let h = fives form (length line) 0 (runs line) (omega arith) (runs_are line).0 (all_inside line) in
    omega arith

pub no_more : NoMore
no_more = record {
  in_words = in_words;
  in_any = λ form line m. let h = in_words form line in omega arith;
  enough = λ form line room m h. let k = in_words form line in answered.enough form line room m (omega arith);
  enough_bytes =
      λ form bytes room m even h.
      let k = in_words form (words_in bytes) in
      let w = words_length bytes in
      answered.enough_bytes form bytes room m even (omega arith);
}

-- ---- the numbers in bytes

pair_back : (form : AltitudeForm) (r : Run) (bs rest : List Breach) → Few r bs → r.place < 65536
    → words_in (bytes_of (numbers_of rest)) ≡ numbers_of rest → words_in (bytes_of (numbers_of (bs ++ rest))) ≡ numbers_of (bs ++ rest)
unfolding numbers_of bytes_of words_in
pair_back form r [] rest none h e = e
pair_back form r (b ∷ bs) rest (one rule l) h e =
    let p : r.place / 256 % 256 * 256 + r.place % 256 ≡ r.place = omega arith in
    λ i. p i ∷ small rule i ∷ e i
  where
    small : (rule : Rule) → rule_number rule / 256 % 256 * 256 + rule_number rule % 256 ≡ rule_number rule
    small R.SubstitutionMode3a = refl
    small R.RelayWithoutModeC = refl
    small R.ModeCAllZeros = refl
    small R.MapStopBelowStart = refl

none_back : words_in (bytes_of (numbers_of [])) ≡ numbers_of []
unfolding numbers_of bytes_of words_in
none_back = refl

pairs_back : (form : AltitudeForm) (n : ℕ) (rs : List Run) → n ≤ most → All (Inside n) rs
    → words_in (bytes_of (numbers_of (gathered (breaches_of form) rs))) ≡ numbers_of (gathered (breaches_of form) rs)
unfolding gathered Inside
pairs_back form n [] m i = none_back
pairs_back form n (r ∷ rs) m i =
    let here = i.0 in
    pair_back form r (breaches_of form r) (gathered (breaches_of form) rs) (few form r) (omega arith) (pairs_back form n rs m i.1)

pub numbers_in_bytes : NumbersInBytes
numbers_in_bytes form line m = pairs_back form (length line) (runs line) m (all_inside line)

-- ---- from the outcomes

module _ (f : Form) (line : List ℕ) (m : length line ≤ most) where
  abbrev answer : Answer
  answer = read_run (form_of f)

  abbrev Brings : ℕ → List Run → Type 0
  Brings p rs = (k : ℕ) → length rs < k → gathered brought_by (calls answer k line p) ≡ gathered (breaches_of (form_of f)) rs

  -- what a call brings, and the calls after it
  abbrev then : ℕ → Outcome → List Breach
  then k o = brought_by o ++ gathered brought_by (cond (is_end o.what) [] (calls answer k line o.after))

  end_brings : (p : ℕ) → p ≤ length line → read_by answer line p ≡ end_of (length line) → Brings p []
  unfolding calls gathered
  end_brings p h e zero b = absurd (omega arith)
  end_brings p h e (suc k) b = ap (then k) e

  run_brings : (p : ℕ) (r : Run) (rs : List Run) → Meets answer line p r → Brings (r.place + length r.words) rs → Brings p (r ∷ rs)
  unfolding calls gathered
  run_brings p r rs meets more zero b = absurd (omega arith)
  run_brings p r rs meets more (suc k) b =
      let q = r.place + length r.words in
      ap (then k) meets.outcome
      ∙ ap (λ (os : List Outcome). brought_by (outcome_of_run answer r) ++ gathered brought_by os) (passed [] (calls answer k line q) (goes_on (answer r.words)))
      ∙ (λ i. brought f r i ++ more k (omega arith) i)

from_outcomes : (f : Form) (line : List ℕ) → length line ≤ most → breaches (form_of f) line ≡ gathered brought_by (outcomes (read_run (form_of f)) line)
from_outcomes f line m =
    sym (along_the_walk (read_run (form_of f)) line m (Brings f line m) (end_brings f line m) (λ p r. run_brings f line m p r (runs_at line (r.place + length r.words))) 0 (omega arith) (suc (length line)) (let h = few_runs line in omega arith))

-- with a link number and without it again
without : (link : ℕ) (os : List Outcome) → map (λ (r : Received). r.outcome) (map (received_on link) os) ≡ os
without link [] = refl
without link (o ∷ os) = ap (λ (xs : List Outcome). o ∷ xs) (without link os)

pub from_the_outcomes : FromTheOutcomes
from_the_outcomes f line m =
    let os = outcomes (read_run (form_of f)) line in
    let e = on_one_link.outcomes_are (read_run (form_of f)) manners_link line (omega arith) in
    from_outcomes f line m ∙ ap (gathered brought_by) (sym (ap (map (λ (r : Received). r.outcome)) e ∙ without manners_link os))

-- ---- exactly the breaches

among_append : {X : Type 0} (x : X) (xs ys : List X) → Among x (xs ++ ys) ↔ (Among x xs ⊎ Among x ys)
among_append x [] ys = (λ h. inr h, λ h. ⊎_elim (λ k. absurd k) (λ k. k) h)
among_append x (z ∷ xs) ys =
    let more = among_append x xs ys in (
      λ h. ⊎_elim (λ e. inl (inl e)) (λ k. ⊎_elim (λ l. inl (inr l)) (λ l. inr l) (more.0 k)) h,
      λ h. ⊎_elim (λ k. ⊎_elim (λ e. inl e) (λ l. inr (more.1 (inl l))) k) (λ l. inr (more.1 (inr l))) h,
    )

-- what is gathered is what some run brings
among_gathered : {X : Type 0} (brings : Run → List X) (x : X) (rs : List Run) → Among x (gathered brings rs) ↔ ((r : Run) × Among r rs × Among x (brings r))
unfolding gathered
among_gathered brings x [] = (λ h. absurd h, λ h. absurd h.1)
among_gathered brings x (r ∷ rs) =
    let here = among_append x (brings r) (gathered brings rs) in
    let more = among_gathered brings x rs in (
      λ h. ⊎_elim (λ k. (r, inl refl, k)) (λ k. let t = more.0 k in (t.0, inr t.1, t.2)) (here.0 h),
      λ h. here.1 (⊎_elim (λ e. inl (subst (λ (t : Run). Among x (brings t)) e h.2)) (λ k. inr (more.1 (h.0, k, h.2))) h.1),
    )

-- a breach of a run is at its place, and of a rule that passes the test
among_passing : (p : ℕ) (test : Rule → Bool) (place : ℕ) (rule : Rule) (more : List Rule)
    → Among (breach place rule) (map (breach p) (passing test more)) → (place ≡ p) × (test rule ≡ true)
among_passing p test place rule [] = λ h. absurd h
among_passing p test place rule (r ∷ more) =
    by_cond (λ (l : List Rule). Among (breach place rule) (map (breach p) l) → (place ≡ p) × (test rule ≡ true)) (test r)
    (λ t h.
    ⊎_elim
    (λ e. (ap (λ (b : Breach). b.place) e, ap test (ap (λ (b : Breach). b.rule) e) ∙ t))
    (λ k. among_passing p test place rule more k)
    h)
    (λ t h. among_passing p test place rule more h)

passing_among : (p : ℕ) (test : Rule → Bool) (rule : Rule) (more : List Rule) → Among rule more → test rule ≡ true → Among (breach p rule) (map (breach p) (passing test more))
passing_among p test rule [] h e = absurd h
passing_among p test rule (r ∷ more) h e =
    by_cond (λ (l : List Rule). Among (breach p rule) (map (breach p) l)) (test r)
    (λ t. ⊎_elim (λ k. inl (ap (breach p) k)) (λ k. inr (passing_among p test rule more k e)) h)
    (λ t. ⊎_elim (λ k. differ (sym e ∙ ap test k ∙ t)) (λ k. passing_among p test rule more k e) h)

each_rule : (rule : Rule) → Among rule rules
each_rule R.SubstitutionMode3a = inl refl
each_rule R.RelayWithoutModeC = inr (inl refl)
each_rule R.ModeCAllZeros = inr (inr (inl refl))
each_rule R.MapStopBelowStart = inr (inr (inr (inl refl)))

of_run : (form : AltitudeForm) (r : Run) (place : ℕ) (rule : Rule) → Among (breach place rule) (breaches_of form r)
    → (place ≡ r.place) × (is_accepted (read_run form r.words) ≡ true) × (broken rule r.words ≡ true)
of_run form r place rule =
    by_cond (λ (l : List Breach). Among (breach place rule) l → (place ≡ r.place) × (is_accepted (read_run form r.words) ≡ true) × (broken rule r.words ≡ true)) (is_accepted (read_run form r.words))
    (λ t h. let k = among_passing r.place (λ x. broken x r.words) place rule rules h in (k.0, t, k.1))
    (λ t h. absurd h)

pub exactly_the_breaches : ExactlyTheBreaches
exactly_the_breaches form line place rule =
    let all = among_gathered (breaches_of form) (breach place rule) (runs line) in (
      λ h.
          let t = all.0 h in
          let r = t.0 in
          let k = of_run form r place rule t.2 in
          (r.words, subst (λ (q : Run). Among q (runs line)) (λ i. record { place = sym k.0 i; words = r.words }) t.1, k.1, k.2),
      λ h.
          all.1 (
            record { place = place; words = h.0 },
            h.1,
            subst (Among (breach place rule)) (sym (picked _ _ h.2)) (passing_among place (λ x. broken x h.0) rule rules (each_rule rule) h.3),
          ),
    )

pub rules_numbered : RulesNumbered
rules_numbered = record { in_order = refl; all = each_rule; differ = rules_differ }

-- ---- what is read at a place of the list

module _ (answer : Answer) (line : List ℕ) where
  abbrev Read : ℕ → List Run → Type 0
  Read p rs = (r : Run) → Among r rs → read_by answer line r.place ≡ outcome_of_run answer r

  read-run : (p : ℕ) (r : Run) (rs : List Run) → Meets answer line p r → Read (r.place + length r.words) rs → Read p (r ∷ rs)
  read-run p r rs meets more q h =
      ⊎_elim (λ e. subst (λ (t : Run). read_by answer line t.place ≡ outcome_of_run answer t) (sym e) meets.again) (λ k. more q k) h

  -- every run of the line is read at its place
  read_each : length line ≤ most → Read 0 (runs line)
  read_each m =
      along_the_walk answer line m Read (λ p h e r k. absurd k) (λ p r. read-run p r (runs_at line (r.place + length r.words))) 0 (omega arith)

pub read_there : ReadThere
read_there f line place rule m h =
    let k = (exactly_the_breaches (form_of f) line place rule).0 h in
    let o = read_each (read_run (form_of f)) line m (record { place = place; words = k.0 }) k.1 in
    by_answer k.0 (read_run (form_of f) k.0) refl o k.2 k.3
  where
    by_answer : (ws : List ℕ) (a : Result Report RunRefusal) → read_run (form_of f) ws ≡ a → read_by (read_run (form_of f)) line place ≡ placed place (length ws) (read_run (form_of f) ws)
        → is_accepted (read_run (form_of f) ws) ≡ true → broken rule ws ≡ true
        → (r : Report)
        × (after : ℕ)
        × ((link : ℕ) → link ≤ last_link → read_on (form_of f) link line place ≡ received_on link (outcome_of (W.Accepted r) place after place))
        × (breaks r rule ≡ true)
    by_answer ws (Ok r) e o t b = (
      r,
      place + length ws,
      λ link l.
          given link place _ l
          ∙ ap (received_on link) (o ∙ ap (placed place (length ws)) e ∙ ap (outcome_of (W.Accepted r) place (place + length ws)) (add-zero place)),
      sym (same_of_record f ws r e rule) ∙ b,
    )
    by_answer ws (Err refusal) e o t b = differ (sym t ∙ ap is_accepted e)

-- ---- the two forms of the altitude

-- one test that fails, and all do
fails : (bs cs : List Bool) → all (bs ++ (false ∷ cs)) ≡ false
fails [] cs = refl
fails (true ∷ bs) cs = fails bs cs
fails (false ∷ bs) cs = refl

-- a run that breaks a rule is not refused with 9, in a form that does not refuse twelve zeros
not_nine : (form : AltitudeForm) → form.refused 0 ≡ false → (rule : Rule) (ws : List ℕ) → broken rule ws ≡ true → minus_zero form ws ≡ false
not_nine form z R.SubstitutionMode3a ws e =
    let t = (substitution_told ws (splits (is_substitution ws) _ e).0).1 in
    (λ i. all (is_seven ws ∷ not (t i) ∷ bit ws 6 ∷ form.refused (bits ws 79 90) ∷ []))
    ∙ fails (is_seven ws ∷ []) (bit ws 6 ∷ form.refused (bits ws 79 90) ∷ [])
not_nine form z R.RelayWithoutModeC ws e =
    let six = is_false (bit ws 6) (splits (not (bit ws 6)) _ (splits (bit ws 47) _ (splits (is_dabs ws) _ e).1).1).0 in
    (λ i. all (is_seven ws ∷ not (bit ws 12) ∷ six i ∷ form.refused (bits ws 79 90) ∷ []))
    ∙ fails (is_seven ws ∷ not (bit ws 12) ∷ []) (form.refused (bits ws 79 90) ∷ [])
not_nine form z R.ModeCAllZeros ws e =
    let b = splits (not (bit ws 4)) _ (splits (is_seven ws) _ e).1 in
    let d = splits (not (bit ws 12)) _ (splits (bit ws 6) _ b.1).1 in
    let n = eqb-true (bits ws 79 90) 0 (splits (eqb (bits ws 79 90) 0) _ d.1).0 in
    (λ i. all (is_seven ws ∷ not (bit ws 12) ∷ bit ws 6 ∷ form.refused (n i) ∷ []))
    ∙ (λ i. all (is_seven ws ∷ not (bit ws 12) ∷ bit ws 6 ∷ z i ∷ []))
    ∙ fails (is_seven ws ∷ not (bit ws 12) ∷ bit ws 6 ∷ []) []
not_nine form z R.MapStopBelowStart ws e =
    let four = eqb-true (bits ws 2 3) four_words (splits (is_four ws) _ (splits (is_map ws) _ e).0).0 in
    λ i. all (eqb (four i) seven_words ∷ not (bit ws 12) ∷ bit ws 6 ∷ form.refused (bits ws 79 90) ∷ [])

-- whether a run is accepted depends on the form by the row of 9 alone
abbrev passes : Bool → List ℕ → Bool
passes nine ws =
    first_of
    (row (too_wide_word ws) false
    ∷ row (even_word ws) false
    ∷ row (unknown_form ws) false
    ∷ row (wrong_length ws) false
    ∷ row (unassigned ws) false
    ∷ row (spare_set ws) false
    ∷ row nine false
    ∷ [])
    true

accepted_by : (form : AltitudeForm) (ws : List ℕ) → is_accepted (read_run form ws) ≡ passes (minus_zero form ws) ws
accepted_by form ws = sym (law.each_of (Result Report RunRefusal) Bool is_accepted (table_of form ws) (Ok (report_of form ws)))

same_run : (form other : AltitudeForm) → form.refused 0 ≡ false → other.refused 0 ≡ false → (r : Run) → breaches_of form r ≡ breaches_of other r
same_run form other z y r =
    let ws = r.words in
    let l = map (breach r.place) (broken_by ws) in
    by_test (broken (could ws) ws)
    (λ b.
    ap (λ (t : Bool). cond t l [])
    (accepted_by form ws
    ∙ ap (λ (t : Bool). passes t ws) (not_nine form z (could ws) ws b ∙ sym (not_nine other y (could ws) ws b))
    ∙ sym (accepted_by other ws)))
    (λ b.
    let e : broken_by ws ≡ [] = one_broken ws ∙ passed _ _ b in
    ap (λ (m : List Rule). cond (is_accepted (read_run form ws)) (map (breach r.place) m) []) e
    ∙ none_either (is_accepted (read_run form ws))
    ∙ sym (none_either (is_accepted (read_run other ws)))
    ∙ ap (λ (m : List Rule). cond (is_accepted (read_run other ws)) (map (breach r.place) m) []) (sym e))
  where
    none_either : (b : Bool) → cond b (map (breach r.place) []) [] ≡ []
    none_either true = refl
    none_either false = refl

gathered_same : {X : Type 0} (f g : Run → List X) → ((r : Run) → f r ≡ g r) → (rs : List Run) → gathered f rs ≡ gathered g rs
unfolding gathered
gathered_same f g e [] = refl
gathered_same f g e (r ∷ rs) = λ i. e r i ++ gathered_same f g e rs i

pub same_in_both_forms : SameInBothForms
same_in_both_forms line =
    gathered_same (breaches_of sign_magnitude) (breaches_of twos_complement) (same_run sign_magnitude twos_complement refl refl) (runs line)

-- ---- a line in parts

run_along : (form : AltitudeForm) (q : ℕ) (r : Run) → breaches_of form (record { place = q + r.place; words = r.words }) ≡ map (along q) (breaches_of form r)
run_along form q r = by_test' (is_accepted (read_run form r.words))
  where
    each_along : (l : List Rule) → map (breach (q + r.place)) l ≡ map (along q) (map (breach r.place) l)
    each_along [] = refl
    each_along (rule ∷ l) = ap (λ (bs : List Breach). breach (q + r.place) rule ∷ bs) (each_along l)

    by_test' : (b : Bool) → cond b (map (breach (q + r.place)) (broken_by r.words)) [] ≡ map (along q) (cond b (map (breach r.place) (broken_by r.words)) [])
    by_test' true = each_along (broken_by r.words)
    by_test' false = refl

map-append : {X Y : Type 0} (f : X → Y) (xs ys : List X) → map f (xs ++ ys) ≡ map f xs ++ map f ys
map-append f [] ys = refl
map-append f (x ∷ xs) ys = ap (λ (l : List _). f x ∷ l) (map-append f xs ys)

runs_along_line : (form : AltitudeForm) (q : ℕ) (rs : List Run) → gathered (breaches_of form) (map (lines.along q) rs) ≡ map (along q) (gathered (breaches_of form) rs)
unfolding gathered
runs_along_line form q [] = refl
runs_along_line form q (r ∷ rs) =
    (λ i. run_along form q r i ++ runs_along_line form q rs i) ∙ sym (map-append (along q) (breaches_of form r) (gathered (breaches_of form) rs))

part : (form : AltitudeForm) (q : ℕ) (ws : List ℕ) → gathered (breaches_of form) (runs_from q [] ws) ≡ map (along q) (breaches form ws)
part form q ws =
    ap (λ (k : ℕ). gathered (breaches_of form) (runs_from k [] ws)) (sym (add-zero q))
    ∙ ap (gathered (breaches_of form)) (lines.runs_along q 0 [] ws)
    ∙ runs_along_line form q (runs ws)

pub splits_in_parts : Splits
splits_in_parts form pre mid post a b =
    let p = length pre in
    let q = p + length mid in
    ap (gathered (breaches_of form)) (lines.runs_three pre mid post a b)
    ∙ gathered_append (breaches_of form) (runs pre) (runs_from p [] mid ++ runs_from q [] post)
    ∙ ap (λ (l : List Breach). breaches form pre ++ l)
    (gathered_append (breaches_of form) (runs_from p [] mid) (runs_from q [] post) ∙ (λ i. part form p mid i ++ part form q post i))

-- ---- what stands outside

abbrev kept : Bool → Bool → List Breach → List Breach → List Breach
kept s t new rest = cond s (new ++ rest) (cond t rest (new ++ rest))

module _ (lo hi : ℕ) where
  one_outside : (p : ℕ) (x : Option Rule) (rest : List Breach) → outside lo hi (list_of p x ++ rest) ≡ kept (ltb p lo) (ltb p hi) (list_of p x) (outside lo hi rest)
  unfolding outside
  one_outside p None rest = either (ltb p lo) (ltb p hi)
    where
      either : (s t : Bool) → outside lo hi rest ≡ kept s t [] (outside lo hi rest)
      either true t = refl
      either false true = refl
      either false false = refl
  one_outside p (Some rule) rest = refl

  brought_kept : (s t : Bool) (o : Outcome) (os : List Outcome) → gathered brought_by (cond s (o ∷ os) (cond t os (o ∷ os))) ≡ kept s t (brought_by o) (gathered brought_by os)
  unfolding gathered
  brought_kept true t o os = refl
  brought_kept false true o os = refl
  brought_kept false false o os = refl

  -- the breaches outside are what the outcomes outside bring
  brought_outside : (os : List Outcome) → outside lo hi (gathered brought_by os) ≡ gathered brought_by (whole.outside lo hi os)
  unfolding gathered outside whole.outside
  brought_outside [] = refl
  brought_outside (o ∷ os) =
      one_outside o.first (found_in o.what) (gathered brought_by os)
      ∙ ap (kept (ltb o.first lo) (ltb o.first hi) (brought_by o)) (brought_outside os)
      ∙ sym (brought_kept (ltb o.first lo) (ltb o.first hi) o (whole.outside lo hi os))

pub replaced : Replaced
replaced f a x y b e m =
    let lo = length a + 1 in
    let hi = lo + length x in
    let size = length-append a (idle ∷ (x ++ (idle ∷ b))) in
    let other = length-append a (idle ∷ (y ++ (idle ∷ b))) in
    let u = length-append x (idle ∷ b) in
    let v = length-append y (idle ∷ b) in
    ap (outside lo hi) (from_outcomes f (a ++ (idle ∷ (x ++ (idle ∷ b)))) m)
    ∙ brought_outside lo hi (outcomes (read_run (form_of f)) (a ++ (idle ∷ (x ++ (idle ∷ b)))))
    ∙ ap (gathered brought_by) (parts.replaced (read_run (form_of f)) a x y b e m)
    ∙ sym (brought_outside lo hi (outcomes (read_run (form_of f)) (a ++ (idle ∷ (y ++ (idle ∷ b))))))
    ∙ ap (outside lo hi) (sym (from_outcomes f (a ++ (idle ∷ (y ++ (idle ∷ b)))) (omega arith)))
