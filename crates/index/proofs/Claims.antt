-- The claims of specs/Claims.antt: what is answered and refused by the rows, the table after calls by History.antt, what is found by Afresh.antt, and a
-- line by the law of lines that each run gets one outcome. Assumes nothing.
use Rattle.std.specs.Prelude.{Ok, Result}
use Prim.Native.Nat.{ℕ, ◌≤◌}
use mathlib.Core.Bool.{Bool, true, false, not, cond, ◌||◌}
use mathlib.Core.List.{List, [], ◌∷◌, ◌++◌, map}
use mathlib.Core.Logic.{◌↔◌, ◌⊎◌, inl, inr, ⊎_elim}
use mathlib.Core.Path.{◌≡◌, refl, sym, ap, ◌∙◌}
use native.Mathlib.Omega.{arith}
use lib.Dec.{eqb}
use lib.ListN.{length, take, drop, length-append, take-append-drop}
use lib.Seq.{drop_at, length-take-le}
use borrow.Author.Tests.{eqb-true, eqb-false, eq-eqb, ne_eqb, ltb-false}
use Rattle.std.specs.Prelude.{Option, Some, None, Result, Ok, Err, is_ok}
use Rattle.rows.specs.Rows.{Row, first_of}
use Rattle.rows.proofs.Claims as law
use Rattle.words.proofs.Tests.{picked, passed, by_test}
use Rattle.words.specs.Tests.{all}
use Rattle.words.specs.Word.{bits, bit}
use Rattle.reports.specs.declared.Height.{Height}
use Rattle.reports.specs.declared.Report.{Report}
use Rattle.reports.specs.declared.Report.TheVariants as R
use Rattle.reports.specs.Altitude.{AltitudeForm}
use Rattle.reports.specs.Forms.{is_seven, is_search, is_strobe, is_status, is_map, is_dabs, is_mtd_search, is_rdas_search}
use Rattle.reports.specs.Records.{search_of, strobe_of, status_of, map_of, rtqc_of, dabs_of, mtd_of, rdas_of, atcrbs_of, height_of, four_of, seven_of, report_of}
use Rattle.reports.specs.Runs.{table_of, is_accepted}
use Rattle.lines.specs.declared.Outcome.{Outcome}
use Rattle.lines.specs.Line.{most as most_words, end_of, outcomes}
use Rattle.lines.specs.Stretches.{Run, runs}
use Rattle.lines.specs.Claims.{alone}
use Rattle.lines.proofs.Runs.{All, all_runs}
use Rattle.lines.proofs.Outcomes.{alone_free, one_each}
use Rattle.index.specs.declared.Entry.{Entry}
use Rattle.index.specs.declared.Indexed.{Indexed}
use Rattle.index.specs.declared.Indexed.TheVariants as I
use Rattle.index.specs.declared.IndexRefusal.{IndexRefusal}
use Rattle.index.specs.declared.IndexRefusal.TheVariants.{TableBroken, TableFull}
use Rattle.index.specs.Entries.{uncorrelated, file_of, entry_of}
use Rattle.index.specs.Table.{most, numbers_of, holds, place_of, used_in, broken_rows, is_broken}
use Rattle.index.specs.Indexing.{enter_rows, taken, indexed, left_as, find_rows, found}
use Rattle.index.specs.Afresh.{afresh, after, not_refused, brought_by, reports_of}
use Rattle.index.specs.Claims.{printed_number, NumberAsPrinted, EnteredExactly, ReplacedExactly, FoundExactly, EnterRefuses, FindRefuses, BrokenExactly, FullExactly, MissingExactly, LeftExactly, RefusedStays, ZeroStays, Unused, HoldsIndex, FromUnused, Begins, Onward, NeverBroken, RoomForAll, FoundIsLatest, OverALine}
use Rattle.index.proofs.Afresh.{first_with, afresh_distinct, afresh_own, latest_first}
use Rattle.index.proofs.Sound.{first_front, sound, used_in_front, none_broken, behind, answer_by, answered, zero_stays, found_first, front_used}
use Rattle.index.proofs.History.{Stands, stays_sound, calls_stand, room}
use Rattle.reports.specs.declared.RunRefusal.{RunRefusal}

-- ---- what is entered

-- of a report by cases, the numbers by cases
either : (b : Bool) (x y : Report) → file_of (cond b x y) ≡ cond b (file_of x) (file_of y)
either true x y = refl
either false x y = refl

-- four words have no file number
four : (ws : List ℕ) → file_of (four_of ws) ≡ uncorrelated
unfolding four_of
four ws = go (is_search ws) (is_strobe ws) (is_status ws) (is_map ws)
  where
    go : (a b c d : Bool)
        → file_of (cond a (R.Search (search_of ws)) (cond b (R.Strobe (strobe_of ws)) (cond c (R.Status (status_of ws)) (cond d (R.Map (map_of ws)) (R.Rtqc (rtqc_of ws))))))
        ≡ uncorrelated
    go true b c d = refl
    go false true c d = refl
    go false false true d = refl
    go false false false true = refl
    go false false false false = refl

-- seven words have it, but not a DABS
seven : (form : AltitudeForm) (ws : List ℕ) → file_of (seven_of form ws) ≡ cond (is_dabs ws) uncorrelated (bits ws 66 77)
unfolding seven_of
seven form ws = go (is_dabs ws) (is_mtd_search ws) (is_rdas_search ws) (height_of form ws)
  where
    go : (a b c : Bool) (h : Height)
        → file_of (cond a (R.Dabs (dabs_of ws h)) (cond b (R.Mtd (mtd_of ws)) (cond c (R.Rdas (rdas_of ws)) (R.Atcrbs (atcrbs_of ws h)))))
        ≡ cond a uncorrelated (bits ws 66 77)
    go true b c h = refl
    go false true c h = refl
    go false false true h = refl
    go false false false h = refl

by_bits : (b c : Bool) (n : ℕ) → cond b (cond (all (b ∷ c ∷ [])) uncorrelated n) uncorrelated ≡ cond b (cond c uncorrelated n) uncorrelated
by_bits true true n = refl
by_bits true false n = refl
by_bits false c n = refl

by_form : (form : AltitudeForm) (ws : List ℕ) → file_of (report_of form ws) ≡ printed_number ws
unfolding report_of
by_form form ws =
    either (is_seven ws) (seven_of form ws) (four_of ws)
    ∙ ap (λ (n : ℕ). cond (is_seven ws) n (file_of (four_of ws))) (seven form ws)
    ∙ ap (λ (n : ℕ). cond (is_seven ws) (cond (is_dabs ws) uncorrelated (bits ws 66 77)) n) (four ws)
    ∙ by_bits (is_seven ws) (bit ws 4) (bits ws 66 77)

-- an accepted run is the report of its words
pub number_as_printed : NumberAsPrinted
number_as_printed form ws r e =
    let is = (law.accepted_exactly (Result Report RunRefusal) is_accepted (table_of form ws) (Ok (report_of form ws)) (Ok r) (refl, (refl, (refl, (refl, (refl, (refl, (refl, tt))))))) refl).0 e in
    let same : report_of form ws ≡ r = (let k = is.1 in cc) in
    ap file_of (sym same) ∙ by_form form ws

-- ---- the refusals

pub enter_refuses : EnterRefuses
unfolding indexed
enter_refuses table x q = law.refused_exactly (Result Indexed IndexRefusal) is_ok (enter_rows table x) (Ok (taken (numbers_of table) x)) (Err q) refl refl

pub find_refuses : FindRefuses
unfolding found
find_refuses table x q =
    law.refused_exactly (Result (Option ℕ) IndexRefusal) is_ok (find_rows table x) (Ok (Some (place_of x (numbers_of table)))) (Err q) refl refl

-- where no row behind those of 50 answers as they do, which is said as 0 ≡ 1, their answer is given exactly for a broken table
exactly : {A : Type 0} (broken : A) (table : List Entry) (more : List (Row A)) (other : A) → (first_of more other ≡ broken → ◌≡◌ {A = ℕ} 0 1)
    → (first_of (broken_rows broken table ++ more) other ≡ broken) ↔ (is_broken table ≡ true)
exactly broken table more other never =
    let k = behind broken table more other in (
      λ e. by_test (is_broken table) (λ t. t) (λ t. let z = never (sym (k ∙ passed _ _ t) ∙ e) in absurd (omega arith)),
      λ t. k ∙ picked _ _ t,
    )

enter_other : (a b : Bool) (t : Indexed) → cond a (Ok I.Left) (cond b (Err TableFull) (Ok t)) ≡ Err TableBroken → ◌≡◌ {A = ℕ} 0 1
enter_other true b t e = cc
enter_other false true t e = cc
enter_other false false t e = cc

find_other : (a b : Bool) (i : ℕ) → ◌≡◌ {A = Result (Option ℕ) IndexRefusal} (cond a (Ok None) (cond b (Ok None) (Ok (Some i)))) (Err TableBroken) → ◌≡◌ {A = ℕ} 0 1
find_other true b i e = cc
find_other false true i e = cc
find_other false false i e = cc

pub broken_exactly : BrokenExactly
unfolding indexed found
broken_exactly table x =
    let ns = numbers_of table in (
      exactly (Err TableBroken) table (drop 3 (enter_rows table x)) (Ok (taken ns x))
          (enter_other (eqb x uncorrelated) (not (holds x ns || holds uncorrelated ns)) (taken ns x)),
      exactly (Err TableBroken) table (drop 3 (find_rows table x)) (Ok (Some (place_of x ns)))
          (find_other (eqb x uncorrelated) (not (holds x ns)) (place_of x ns)),
    )

-- 51 is given only where none of the tests before it holds
full_when : (broken zero' held room : Bool) (ns : List ℕ) (x : ℕ) → answer_by broken zero' held room ns x ≡ Err TableFull
    → (broken ≡ false) × (zero' ≡ false) × (held ≡ false) × (room ≡ false)
full_when true z h r ns x e = (cc, cc, cc, cc)
full_when false true h r ns x e = (cc, cc, cc, cc)
full_when false false true r ns x e = (cc, cc, cc, cc)
full_when false false false true ns x e = (cc, cc, cc, cc)
full_when false false false false ns x e = (refl, refl, refl, refl)

pub full_exactly : FullExactly
full_exactly table x =
    let ns = numbers_of table in
    let a = answered table x in (
      λ e.
          let k = full_when (is_broken table) (eqb x uncorrelated) (holds x ns) (holds uncorrelated ns) ns x (sym a ∙ e) in
          (k.0, eqb-false x uncorrelated k.1, k.2, k.3),
      λ k. a ∙ rw (k.0, ne_eqb x uncorrelated k.1, k.2, k.3),
    )

entered_when : (b z h r : Bool) (ns : List ℕ) (x i : ℕ) → answer_by b z h r ns x ≡ Ok (I.Entered i)
    → (b ≡ false) × (z ≡ false) × (h ≡ false) × (r ≡ true) × (place_of uncorrelated ns ≡ i)
entered_when true z h r ns x i e = (cc, cc, cc, cc, cc)
entered_when false true h r ns x i e = (cc, cc, cc, cc, cc)
entered_when false false true r ns x i e = (cc, cc, cc, cc, cc)
entered_when false false false true ns x i e = (cc, cc, cc, cc, cc)
entered_when false false false false ns x i e = (cc, cc, cc, cc, cc)

pub entered_exactly : EnteredExactly
entered_exactly table x i =
    let ns = numbers_of table in
    let a = answered table x in (
      λ e.
          let k = entered_when (is_broken table) (eqb x uncorrelated) (holds x ns) (holds uncorrelated ns) ns x i (sym a ∙ e) in
          (k.0, eqb-false x uncorrelated k.1, k.2, k.3, k.4),
      λ k. a ∙ rw (k.0, ne_eqb x uncorrelated k.1, k.2, k.3, k.4),
    )

replaced_when : (b z h r : Bool) (ns : List ℕ) (x i : ℕ) → answer_by b z h r ns x ≡ Ok (I.Replaced i) → (b ≡ false) × (z ≡ false) × (h ≡ true) × (place_of x ns ≡ i)
replaced_when true z h r ns x i e = (cc, cc, cc, cc)
replaced_when false true h r ns x i e = (cc, cc, cc, cc)
replaced_when false false true r ns x i e = (cc, cc, cc, cc)
replaced_when false false false true ns x i e = (cc, cc, cc, cc)
replaced_when false false false false ns x i e = (cc, cc, cc, cc)

pub replaced_exactly : ReplacedExactly
replaced_exactly table x i =
    let ns = numbers_of table in
    let a = answered table x in (
      λ e.
          let k = replaced_when (is_broken table) (eqb x uncorrelated) (holds x ns) (holds uncorrelated ns) ns x i (sym a ∙ e) in
          (k.0, eqb-false x uncorrelated k.1, k.2, k.3),
      λ k. a ∙ rw (k.0, ne_eqb x uncorrelated k.1, k.2, k.3),
    )

found_when : (b z h : Bool) (p i : ℕ) → cond b (Err TableBroken) (cond z (Ok None) (cond (not h) (Ok None) (Ok (Some p)))) ≡ Ok (Some i)
    → (b ≡ false) × (z ≡ false) × (h ≡ true) × (p ≡ i)
found_when true z h p i e = (cc, cc, cc, cc)
found_when false true h p i e = (cc, cc, cc, cc)
found_when false false true p i e = (cc, cc, cc, cc)
found_when false false false p i e = (cc, cc, cc, cc)

pub found_exactly : FoundExactly
unfolding found
found_exactly table x i =
    let ns = numbers_of table in
    let a = behind (Err TableBroken) table (drop 3 (find_rows table x)) (Ok (Some (place_of x ns))) in (
      λ e.
          let k = found_when (is_broken table) (eqb x uncorrelated) (holds x ns) (place_of x ns) i (sym a ∙ e) in
          (k.0, eqb-false x uncorrelated k.1, k.2, k.3),
      λ k. a ∙ rw (k.0, ne_eqb x uncorrelated k.1, k.2, k.3),
    )

missing_when : (b z h : Bool) (p : ℕ) → cond b (Err TableBroken) (cond z (Ok None) (cond (not h) (Ok None) (Ok (Some p)))) ≡ Ok None
    → (b ≡ false) × ((z ≡ true) ⊎ (h ≡ false))
missing_when true z h p e = absurd (let n : ◌≡◌ {A = ℕ} 0 1 = cc in omega arith)
missing_when false true h p e = (refl, inl refl)
missing_when false false true p e = absurd (let n : ◌≡◌ {A = ℕ} 0 1 = cc in omega arith)
missing_when false false false p e = (refl, inr refl)

when_missing : (b z h : Bool) (p : ℕ) → b ≡ false → (z ≡ true) ⊎ (h ≡ false)
    → cond b (Err TableBroken) (cond z (Ok None) (cond (not h) (Ok None) (Ok (Some p)))) ≡ Ok None
when_missing b true h p e k = rw e
when_missing b false h p e (inl k) = absurd (let n : ◌≡◌ {A = ℕ} 0 1 = cc in omega arith)
when_missing b false h p e (inr k) = rw (e, k)

pub missing_exactly : MissingExactly
unfolding found
missing_exactly table x =
    let ns = numbers_of table in
    let a = behind (Err TableBroken) table (drop 3 (find_rows table x)) (Ok (Some (place_of x ns))) in (
      λ e.
          let k = missing_when (is_broken table) (eqb x uncorrelated) (holds x ns) (place_of x ns) (sym a ∙ e) in
          (k.0, ⊎_elim (λ z. inl (eqb-true x uncorrelated z)) inr k.1),
      λ k.
          a
          ∙ when_missing
          (is_broken table)
          (eqb x uncorrelated)
          (holds x ns)
          (place_of x ns)
          k.0
          (⊎_elim (λ z. inl (eq-eqb x uncorrelated z)) inr k.1),
    )

left_when : (b z h r : Bool) (ns : List ℕ) (x : ℕ) → answer_by b z h r ns x ≡ Ok I.Left → (b ≡ false) × (z ≡ true)
left_when true z h r ns x e = (cc, cc)
left_when false true h r ns x e = (cc, cc)
left_when false false true r ns x e = (cc, cc)
left_when false false false true ns x e = (cc, cc)
left_when false false false false ns x e = (cc, cc)

pub left_exactly : LeftExactly
left_exactly table x =
    let ns = numbers_of table in
    let a = answered table x in (
      λ e. let k = left_when (is_broken table) (eqb x uncorrelated) (holds x ns) (holds uncorrelated ns) ns x (sym a ∙ e) in (k.0, eqb-true x uncorrelated k.1),
      λ k. a ∙ rw (k.0, eq-eqb x uncorrelated k.1),
    )

pub refused_stays : RefusedStays
refused_stays table e q h = rw h

pub zero_is_left : ZeroStays
zero_is_left table e z = zero_stays table e z

-- ---- the table after calls

holds_index : (seen first now : List Entry) → Stands (afresh seen) first now → HoldsIndex seen first now
holds_index seen first now s =
    let there : drop (length (afresh seen)) first ≡ s.rest = rw s.was (drop_at s.old s.rest (length (afresh seen)) s.many) in
    let n = ap length s.was in
    let m = s.many in
    record {
      used = ap used_in s.is ∙ front_used (afresh seen) s.rest (afresh_distinct seen) s.unused;
      is = rw there s.is;
      fits = omega (arith, length-append s.old s.rest);
      rest = rw there s.unused;
    }

-- a table that is not broken is that of the reports in its used entries
own : (table : List Entry) → is_broken table ≡ false → Stands (afresh (used_in table)) table table
own table h =
    let k = used_in_front table h in
    let both = sym (take-append-drop (place_of uncorrelated (numbers_of table)) table) in
    rw (afresh_own (used_in table) k.0)
    (record { old = used_in table; rest = drop (place_of uncorrelated (numbers_of table)) table; was = both; many = refl; is = both; unused = k.1 })

fits_most : (table : List Entry) → is_broken table ≡ false → length table ≤ most
fits_most table h = ltb-false most (length table) (none_broken table h).0

went_on : (table es : List Entry) → is_broken table ≡ false → Stands (afresh (used_in table ++ not_refused table es)) table (after table es)
went_on table es h = calls_stand table (fits_most table h) es (used_in table) table (own table h)

-- nothing was seen
nothing : (table : List Entry) → Unused table → Stands [] table table
nothing table u = record { old = []; rest = table; was = refl; many = refl; is = refl; unused = u }

pub begins : Begins
unfolding afresh
begins = (λ table u. holds_index [] table table (nothing table u), λ table h. holds_index (used_in table) table table (own table h))

pub onward : Onward
onward seen first now es m h =
    holds_index (seen ++ not_refused now es) first (after now es)
    (calls_stand first m es seen now
    (record {
      old = take (length (afresh seen)) first;
      rest = drop (length (afresh seen)) first;
      was = sym (take-append-drop (length (afresh seen)) first);
      many = length-take-le (length (afresh seen)) first h.fits;
      is = h.is;
      unused = h.rest;
    }))

-- a broken table stays so, and every call is refused
broken_stays : (table es : List Entry) → is_broken table ≡ true → (after table es ≡ table) × (not_refused table es ≡ [])
unfolding after not_refused
broken_stays table [] h = (refl, refl)
broken_stays table (e ∷ es) h = rw ((broken_exactly table e.number).0.1 h) (broken_stays table es h)

pub from_unused : FromUnused
unfolding afresh
from_unused table es u =
    by_test (is_broken table)
    (λ b. let k = broken_stays table es b in rw (k.0, k.1) (begins.0 table u))
    (λ b. holds_index (not_refused table es) table (after table es) (calls_stand table (fits_most table b) es [] table (nothing table u)))

pub never_broken : NeverBroken
never_broken = (
  λ table s u. sound [] table tt u s,
  λ table es h. stays_sound table (fits_most table h) (used_in table ++ not_refused table es) (after table es) (went_on table es h),
)

pub room_for_all : RoomForAll
room_for_all table es h fits = room table (fits_most table h) es (used_in table) table (own table h) fits

pub found_is_latest : FoundIsLatest
found_is_latest table es x h z =
    let seen = used_in table ++ not_refused table es in
    let s = went_on table es h in
    let other = ne_eqb x uncorrelated z in
    found_first (after table es) x (never_broken.1 table es h) other
    ∙ ap (first_with x) s.is
    ∙ first_front x other (afresh seen) s.rest s.unused
    ∙ sym (latest_first x seen other)

-- ---- a line

-- a call with number 0 behind the others changes nothing
zero_behind : (table es : List Entry) (e : Entry) → e.number ≡ uncorrelated → after table (es ++ (e ∷ [])) ≡ after table es
unfolding after
zero_behind table [] e z = zero_stays table e z
zero_behind table (x ∷ es) e z = zero_behind (left_as (indexed table x.number) table x) es e z

module _ (answer : List ℕ → Result Report RunRefusal) (scan : ℕ) where
  abbrev brings : Outcome → Entry
  brings o = entry_of o scan

  -- a run's outcome brings what its words do
  abbrev Same : Run → Type 0
  Same r = brings (alone answer r) ≡ brought_by answer scan r

  all_bring : (n : ℕ) (rs : List Run) → All Same rs
      → map brings (map (alone answer) rs ++ (end_of n ∷ [])) ≡ map (brought_by answer scan) rs ++ (brings (end_of n) ∷ [])
  all_bring n [] h = refl
  all_bring n (r ∷ rs) h = λ i. h.0 i ∷ all_bring n rs h.1 i

  -- so do the outcomes of a line; the end brings number 0
  line_brings : (line : List ℕ) → length line ≤ most_words
      → map brings (outcomes answer line) ≡ reports_of answer scan line ++ (brings (end_of (length line)) ∷ [])
  line_brings line m =
      ap (map brings) (one_each answer line m)
      ∙ all_bring (length line) (runs line)
      (all_runs Same 0 (length line) (λ p w ws f a b. ap brings (alone_free answer p w ws (omega arith) f)) 0 [] line tt (omega arith) (omega arith))

pub over_a_line : OverALine
over_a_line answer line scan seen first now m room' h =
    rw
    (line_brings answer scan line m, zero_behind now (reports_of answer scan line) (entry_of (end_of (length line)) scan) refl)
    (onward seen first now (reports_of answer scan line) room' h)
