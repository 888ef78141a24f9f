-- From what the items say to the record: every field has its own value back. Assumes nothing.
use Rattle.std.specs.Prelude.{None, Option, Some}
use mathlib.Core.Path.{◌≡◌, refl, ap, sym, ◌∙◌}
use mathlib.Core.Bool.{Bool, true, false, cond}
use mathlib.Core.List.{List, [], ◌∷◌}
use Prim.Native.Nat.{ℕ, zero, suc, ◌-◌, ◌^◌, ◌≤◌, ◌<◌}
use native.Mathlib.Nat.{mod-eq_of_lt}
use native.Mathlib.Omega.{arith}
use borrow.Author.Tests.{ltb-true, ltb-false, leb-true}
use lib.Dec.{eqb, leb, ltb}
use lib.IntN.{ℤ, pos, negsuc, nat_abs}
use lib.ListN.{get_or}
use Rattle.words.specs.Tests.{all}
use Rattle.words.proofs.Tests.{picked, by_test}
use Rattle.pairs.specs.Pairs.{Pair, find_in, value_of, each_from, gathered_from}
use Rattle.reports.specs.declared.Search.{Search}
use Rattle.reports.specs.declared.Strobe.{Strobe}
use Rattle.reports.specs.declared.Map.{Map}
use Rattle.reports.specs.declared.Status.{Status}
use Rattle.reports.specs.declared.Rtqc.{Rtqc}
use Rattle.reports.specs.declared.Height.{Height}
use Rattle.reports.specs.declared.Height.TheVariants as Ht
use Rattle.reports.specs.declared.Dabs.{Dabs}
use Rattle.reports.specs.declared.Atcrbs.{Atcrbs}
use Rattle.reports.specs.declared.Mtd.{Mtd}
use Rattle.reports.specs.declared.Rdas.{Rdas}
use Rattle.reports.specs.declared.Report.{Report}
use Rattle.reports.specs.declared.Report.TheVariants as R
use Rattle.reports.specs.declared.kinds.Kind.TheVariants as K
use Rattle.reports.specs.Altitude.{AltitudeForm}
use Rattle.reports.specs.Kinds.{kind_of, kind_number, dabs_kind, atcrbs_kind}
use Rattle.words.specs.Layout.{Field, flag, count, rest, fixed, fitting, fitting_all, fitting_by}
use Rattle.reports.specs.Layouts.{Fits, layout_of, last_word}
use Rattle.report_items.specs.Items as N
use Rattle.report_items.specs.Items.{last, height_items, lookup, item_of}
use Rattle.report_items.specs.Given.{as_signed, item_of_pairs, item_given, plain_by, plain_given, cd_given, mtd_height_given, rdas_height_given, dabs_given, atcrbs_given, built, built_from}
use Rattle.report_items.specs.Claims.{InSixteenBits, FitsSixteenBits}
use Rattle.report_items.proofs.Signed.{low, high}

-- ---- one value

-- two's complement of 64 bits loses nothing
signed_pos : (v k : ℕ) → as_signed 9223372036854775808 v ≡ pos k → v ≡ k
unfolding as_signed
signed_pos v k e =
    by_test (ltb v 9223372036854775808)
    (λ t. let q : pos v ≡ pos k = sym (picked _ _ t) ∙ e in ap nat_abs q)
    (λ t.
    let l : 9223372036854775808 ≤ v = ltb-false _ _ t in
    let m : 18446744073709551615 - v < 9223372036854775808 = omega arith in
    let q : negsuc (18446744073709551615 - v) ≡ pos k = sym (high 9223372036854775808 v l m) ∙ e in
    let z : ◌≡◌ {A = ℕ} 0 1 = cc in
    absurd (omega arith))

-- ---- what an item counts

-- a flag or a count; an altitude may be none
abbrev is_count : Option ℤ → Bool
is_count (Some (pos k)) = true
is_count (Some (negsuc k)) = false
is_count None = false

abbrev count_in : Option ℤ → ℕ
count_in (Some (pos k)) = k
count_in (Some (negsuc k)) = 0
count_in None = 0

found_count : (f : Option ℕ) (i : Option ℤ) → is_count i ≡ true → item_of_pairs f ≡ i → value_of f ≡ count_in i
found_count (Some v) (Some (pos k)) h e = let q : as_signed 9223372036854775808 v ≡ pos k = cc in signed_pos v k q
found_count None (Some (pos k)) h e = cc
found_count f (Some (negsuc k)) h e = cc
found_count f None h e = cc

-- a number that sixteen bits hold is held by them
signed_small : (v : ℕ) (z : ℤ) → InSixteenBits z → as_signed 9223372036854775808 v ≡ z → as_signed 32768 v ≡ z
signed_small v (pos n) s e =
    let q : v ≡ n = signed_pos v n e in
    low 32768 v (omega arith) ∙ ap pos q
signed_small v (negsuc n) s e =
    by_test (ltb v 9223372036854775808)
    (λ t.
    let q : pos v ≡ negsuc n = sym (low 9223372036854775808 v (ltb-true _ _ t)) ∙ e in
    let z : ◌≡◌ {A = ℕ} 0 1 = cc in
    absurd (omega arith))
    (λ t.
    let l : 9223372036854775808 ≤ v = ltb-false _ _ t in
    let q : negsuc (18446744073709551615 - v) ≡ negsuc n = sym (high 9223372036854775808 v l (omega arith)) ∙ e in
    let m : 18446744073709551615 - v ≡ n = cc in
    high 32768 v (omega arith) (omega arith) ∙ q)

-- bits 79 to 90, where an altitude is given, and where none is
found_high : (f : Option ℕ) (k : ℕ) (z : ℤ) → InSixteenBits z → item_of_pairs f ≡ Some z → plain_by f k ≡ Ht.Altitude z
found_high (Some v) k z s e = let q : as_signed 9223372036854775808 v ≡ z = cc in ap Ht.Altitude (signed_small v z s q)
found_high None k z s e = cc

found_low : (f : Option ℕ) (k : ℕ) → item_of_pairs f ≡ None → plain_by f k ≡ Ht.Carried k
found_low (Some v) k e = cc
found_low None k e = refl

-- ---- what fits

pub both : (a b : Bool) → cond a b false ≡ true → (a ≡ true) × (b ≡ true)
both true b e = (refl, e)
both false b e = cc

-- where all words fit, each does
word_fits : (l : List (List Field)) (i : ℕ) → fitting_by l ≡ true → fitting_all (get_or l i []) ≡ true
word_fits [] i e = refl
word_fits (w ∷ l) zero e = (both (fitting_all w) (fitting_by l) e).0
word_fits (w ∷ l) (suc i) e = word_fits l i (both (fitting_all w) (fitting_by l) e).1

-- a value that fits, as omega reads it
abbrev Fitting : Field → Type 0
Fitting (flag b) = Unit {0}
Fitting (count k n) = n < 2 ^ k
Fitting (rest k n) = Unit {0}
Fitting (fixed k n) = n < 2 ^ k

fitting_is : (f : Field) → fitting f ≡ true → Fitting f
fitting_is (flag b) e = tt
fitting_is (count k n) e = ltb-true n (2 ^ k) e
fitting_is (rest k n) e = tt
fitting_is (fixed k n) e = ltb-true n (2 ^ k) e

-- where all fields of a word fit, field j does
in_word : (w : List Field) → fitting_all w ≡ true → (j : ℕ) → Fitting (get_or w j (flag true))
in_word [] e j = tt
in_word (f ∷ w) e zero = fitting_is f (both (fitting f) (fitting_all w) e).0
in_word (f ∷ w) e (suc j) = in_word w (both (fitting f) (fitting_all w) e).1 j

-- and where all words fit, field j of word i
field_fits : (l : List (List Field)) → fitting_by l ≡ true → (i j : ℕ) → Fitting (get_or (get_or l i []) j (flag true))
field_fits l e i j = in_word (get_or l i []) (word_fits l i e) j

-- ---- what is given of a report

abbrev Said : List Pair → Report → Type 0
Said ps r = (n : ℕ) → 0 < n → n ≤ last → item_given ps n ≡ item_of r n

module _ (ps : List Pair) (r : Report) (t : Said ps r) where
  said : (n : ℕ) → all (ltb 0 n ∷ leb n last ∷ []) ≡ true → item_given ps n ≡ item_of r n
  said n h =
      let a = both _ _ h in
      t n (ltb-true _ _ a.0) (leb-true _ _ (both _ _ a.1).0)

  -- the value of a flag or a count
  own : (n : ℕ) → all (ltb 0 n ∷ leb n last ∷ is_count (item_of r n) ∷ []) ≡ true → value_of (find_in n ps) ≡ count_in (item_of r n)
  unfolding item_given
  own n h =
      let a = both _ _ h in
      let b = both _ _ a.1 in
      found_count (find_in n ps) (item_of r n) (both _ _ b.1).0 (t n (ltb-true _ _ a.0) (leb-true _ _ b.0))

-- a flag by its value
flag_own : (b : Bool) → eqb (cond b 1 0) 1 ≡ b
flag_own true = refl
flag_own false = refl

-- ---- four words

module _ (form : AltitudeForm) (narrow : FitsSixteenBits form) (ps : List Pair) where
  search_back : (s : Search) → Fits form (R.Search s) → Said ps (R.Search s) → built_from (kind_number K.Search) ps ≡ R.Search s
  unfolding built gathered_from each_from
  search_back s f t =
      let at = field_fits (layout_of form (R.Search s)) f in
      let range : s.range.0 < 65536 = omega (arith, at 1 0) in
      let azimuth : s.azimuth.0 < 65536 = omega (arith, at 2 0) in
      let code : s.code < 256 = omega (arith, at 3 1) in
      let run : s.run.0 < 256 = omega (arith, at 3 2) in
      let time : s.time.0 < 256 = omega (arith, at 3 3) in
      simp (own ps (R.Search s) t, flag_own, mod-eq_of_lt)

  strobe_back : (s : Strobe) → Fits form (R.Strobe s) → Said ps (R.Strobe s) → built_from (kind_number K.Strobe) ps ≡ R.Strobe s
  unfolding built gathered_from each_from
  strobe_back s f t =
      let at = field_fits (layout_of form (R.Strobe s)) f in
      let range : s.range.0 < 65536 = omega (arith, at 1 0) in
      let azimuth : s.azimuth.0 < 65536 = omega (arith, at 2 0) in
      let run : s.run.0 < 256 = omega (arith, at 3 0) in
      let time : s.time.0 < 256 = omega (arith, at 3 1) in
      simp (own ps (R.Strobe s) t, flag_own, mod-eq_of_lt)

  map_back : (m : Map) → Fits form (R.Map m) → Said ps (R.Map m) → built_from (kind_number K.Map) ps ≡ R.Map m
  unfolding built gathered_from each_from
  map_back m f t =
      let at = field_fits (layout_of form (R.Map m)) f in
      let variation : m.variation < 256 = omega (arith, at 0 3) in
      let start : m.start.0 < 65536 = omega (arith, at 1 0) in
      let azimuth : m.azimuth.0 < 65536 = omega (arith, at 2 0) in
      let stop : m.stop.0 < 65536 = omega (arith, at 3 0) in
      simp (own ps (R.Map m) t, flag_own, mod-eq_of_lt)

  status_back : (s : Status) → Fits form (R.Status s) → Said ps (R.Status s) → built_from (kind_number K.Status) ps ≡ R.Status s
  unfolding built gathered_from each_from
  status_back s f t =
      let at = field_fits (layout_of form (R.Status s)) f in
      let second : s.second < 65536 = omega (arith, at 1 0) in
      let third : s.third < 65536 = omega (arith, at 2 0) in
      let fourth : s.fourth < 65536 = omega (arith, at 3 0) in
      simp (own ps (R.Status s) t, flag_own, mod-eq_of_lt)

  rtqc_back : (s : Rtqc) → Fits form (R.Rtqc s) → Said ps (R.Rtqc s) → built_from (kind_number K.Rtqc) ps ≡ R.Rtqc s
  unfolding built gathered_from each_from
  rtqc_back s f t =
      let at = field_fits (layout_of form (R.Rtqc s)) f in
      let range : s.range.0 < 65536 = omega (arith, at 1 0) in
      let azimuth : s.azimuth.0 < 65536 = omega (arith, at 2 0) in
      let run : s.run.0 < 256 = omega (arith, at 3 0) in
      let time : s.time.0 < 256 = omega (arith, at 3 1) in
      simp (own ps (R.Rtqc s) t, flag_own, mod-eq_of_lt)

  -- ---- seven words: bits 79 to 90

  -- the form that the kind's number says
  abbrev height_for : Height → Height
  height_for (Ht.Altitude z) = plain_given (gathered_from 0 ps)
  height_for (Ht.Carried n) = plain_given (gathered_from 0 ps)
  height_for (Ht.Cd m n) = cd_given (gathered_from 0 ps)
  height_for (Ht.Mtd m n) = mtd_height_given (gathered_from 0 ps)
  height_for (Ht.Rdas m n) = rdas_height_given (gathered_from 0 ps)

  -- what is given at the number of one of its items
  abbrev HeightSaid : Height → ℕ → Type 0
  HeightSaid h n = item_given ps n ≡ lookup n (height_items h)

  height_back : (h : Height) → fitting_all (last_word form h) ≡ true
      → HeightSaid h N.run → HeightSaid h N.mode_c_of → HeightSaid h N.altitude → HeightSaid h N.carried → HeightSaid h N.quality → height_for h ≡ h
  unfolding gathered_from each_from item_given
  height_back (Ht.Altitude z) f r m a c q = found_high (find_in N.altitude ps) _ z (narrow z (in_word (last_word form (Ht.Altitude z)) f 0)) a
  height_back (Ht.Carried n) f r m a c q =
      let small : n < 65536 = omega (arith, in_word (last_word form (Ht.Carried n)) f 0) in
      found_low (find_in N.altitude ps) _ a ∙ simp (found_count (find_in N.carried ps) (Some (pos n)) refl c, mod-eq_of_lt)
  height_back (Ht.Cd b n) f r m a c q =
      let small : n.0 < 256 = omega (arith, in_word (last_word form (Ht.Cd b n)) f 0) in
      simp (found_count (find_in N.mode_c_of ps) (Some (pos (cond b 1 0))) refl m, found_count (find_in N.run ps) (Some (pos n.0)) refl r, flag_own, mod-eq_of_lt)
  height_back (Ht.Mtd b n) f r m a c q =
      let small : n < 256 = omega (arith, in_word (last_word form (Ht.Mtd b n)) f 0) in
      simp (found_count (find_in N.mode_c_of ps) (Some (pos (cond b 1 0))) refl m, found_count (find_in N.quality ps) (Some (pos n)) refl q, flag_own, mod-eq_of_lt)
  height_back (Ht.Rdas b n) f r m a c q =
      let small : n < 256 = omega (arith, in_word (last_word form (Ht.Rdas b n)) f 0) in
      simp (found_count (find_in N.mode_c_of ps) (Some (pos (cond b 1 0))) refl m, found_count (find_in N.quality ps) (Some (pos n)) refl q, flag_own, mod-eq_of_lt)

  dabs_built : (h : Height) → built_from (kind_number (dabs_kind h)) ps ≡ R.Dabs (dabs_given (gathered_from 0 ps) (height_for h))
  unfolding built
  dabs_built (Ht.Altitude z) = refl
  dabs_built (Ht.Carried n) = refl
  dabs_built (Ht.Cd m n) = refl
  dabs_built (Ht.Mtd m n) = refl
  dabs_built (Ht.Rdas m n) = refl

  atcrbs_built : (h : Height) → built_from (kind_number (atcrbs_kind h)) ps ≡ R.Atcrbs (atcrbs_given (gathered_from 0 ps) (height_for h))
  unfolding built
  atcrbs_built (Ht.Altitude z) = refl
  atcrbs_built (Ht.Carried n) = refl
  atcrbs_built (Ht.Cd m n) = refl
  atcrbs_built (Ht.Mtd m n) = refl
  atcrbs_built (Ht.Rdas m n) = refl

  -- ---- seven words

  dabs_fields : (d : Dabs) → Fits form (R.Dabs d) → Said ps (R.Dabs d) → dabs_given (gathered_from 0 ps) d.height ≡ d
  unfolding gathered_from each_from
  dabs_fields d f t =
      let at = field_fits (layout_of form (R.Dabs d)) f in
      let range : d.range.0 < 65536 = omega (arith, at 1 0) in
      let azimuth : d.azimuth.0 < 65536 = omega (arith, at 2 1) in
      let time : d.time.0 < 256 = omega (arith, at 3 4) in
      let address : d.address < 4294967296 = omega (arith, at 4 0) in
      simp (own ps (R.Dabs d) t, flag_own, mod-eq_of_lt)

  dabs_back : (d : Dabs) → Fits form (R.Dabs d) → Said ps (R.Dabs d) → built_from (kind_number (dabs_kind d.height)) ps ≡ R.Dabs d
  dabs_back d f t =
      let g = said ps (R.Dabs d) t in
      dabs_built d.height
      ∙ ap (λ (h : Height). R.Dabs (dabs_given (gathered_from 0 ps) h))
      (height_back d.height (word_fits (layout_of form (R.Dabs d)) 6 f) (g N.run refl) (g N.mode_c_of refl) (g N.altitude refl) (g N.carried refl) (g N.quality refl))
      ∙ ap R.Dabs (dabs_fields d f t)

  atcrbs_fields : (a : Atcrbs) → Fits form (R.Atcrbs a) → Said ps (R.Atcrbs a) → atcrbs_given (gathered_from 0 ps) a.height ≡ a
  unfolding gathered_from each_from
  atcrbs_fields a f t =
      let at = field_fits (layout_of form (R.Atcrbs a)) f in
      let range : a.range.0 < 65536 = omega (arith, at 1 0) in
      let azimuth : a.azimuth.0 < 65536 = omega (arith, at 2 1) in
      let time : a.time.0 < 256 = omega (arith, at 3 5) in
      let code : a.code < 65536 = omega (arith, at 4 0) in
      let file : a.file < 65536 = omega (arith, at 5 0) in
      simp (own ps (R.Atcrbs a) t, flag_own, mod-eq_of_lt)

  atcrbs_back : (a : Atcrbs) → Fits form (R.Atcrbs a) → Said ps (R.Atcrbs a) → built_from (kind_number (atcrbs_kind a.height)) ps ≡ R.Atcrbs a
  atcrbs_back a f t =
      let g = said ps (R.Atcrbs a) t in
      atcrbs_built a.height
      ∙ ap (λ (h : Height). R.Atcrbs (atcrbs_given (gathered_from 0 ps) h))
      (height_back a.height (word_fits (layout_of form (R.Atcrbs a)) 6 f) (g N.run refl) (g N.mode_c_of refl) (g N.altitude refl) (g N.carried refl) (g N.quality refl))
      ∙ ap R.Atcrbs (atcrbs_fields a f t)

  mtd_back : (m : Mtd) → Fits form (R.Mtd m) → Said ps (R.Mtd m) → built_from (kind_number K.Mtd) ps ≡ R.Mtd m
  unfolding built gathered_from each_from
  mtd_back m f t =
      let at = field_fits (layout_of form (R.Mtd m)) f in
      let range : m.range.0 < 65536 = omega (arith, at 1 0) in
      let azimuth : m.azimuth.0 < 65536 = omega (arith, at 2 1) in
      let time : m.time.0 < 256 = omega (arith, at 3 3) in
      let doppler1 : m.doppler1 < 256 = omega (arith, at 4 0) in
      let doppler2 : m.doppler2 < 256 = omega (arith, at 4 1) in
      let file : m.file < 65536 = omega (arith, at 5 0) in
      let quality : m.quality < 256 = omega (arith, at 6 0) in
      let confidence : m.confidence < 256 = omega (arith, at 6 1) in
      simp (own ps (R.Mtd m) t, flag_own, mod-eq_of_lt)

  rdas_back : (x : Rdas) → Fits form (R.Rdas x) → Said ps (R.Rdas x) → built_from (kind_number K.Rdas) ps ≡ R.Rdas x
  unfolding built gathered_from each_from
  rdas_back x f t =
      let at = field_fits (layout_of form (R.Rdas x)) f in
      let range : x.range.0 < 65536 = omega (arith, at 1 0) in
      let azimuth : x.azimuth.0 < 65536 = omega (arith, at 2 1) in
      let time : x.time.0 < 256 = omega (arith, at 3 3) in
      let file : x.file < 65536 = omega (arith, at 5 0) in
      let quality : x.quality < 256 = omega (arith, at 6 0) in
      simp (own ps (R.Rdas x) t, flag_own, mod-eq_of_lt)

  pub back : (r : Report) → Fits form r → Said ps r → built_from (kind_number (kind_of r)) ps ≡ r
  back (R.Search s) f t = search_back s f t
  back (R.Strobe s) f t = strobe_back s f t
  back (R.Map m) f t = map_back m f t
  back (R.Status s) f t = status_back s f t
  back (R.Rtqc s) f t = rtqc_back s f t
  back (R.Dabs d) f t = dabs_back d f t
  back (R.Atcrbs a) f t = atcrbs_back a f t
  back (R.Mtd m) f t = mtd_back m f t
  back (R.Rdas x) f t = rdas_back x f t
