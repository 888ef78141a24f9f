-- Words have a layout exactly when they are the words that it makes and its values fit: one law, over all layouts of twelve bits a word.
-- In the middle stands the word by itself: its fields are what division by the weights below them leaves.
-- Assumes nothing.
use Prim.Native.Nat.{ℕ, zero, suc, ◌+◌, ◌*◌, ◌/◌, ◌%◌, ◌-◌, ◌≤◌, ◌<◌, ◌^◌}
use mathlib.Core.Path.{◌≡◌, refl, ap, ap₂, sym, ◌∙◌, subst}
use mathlib.Core.Bool.{Bool, true, false, cond}
use mathlib.Core.List.{List, [], ◌∷◌}
use mathlib.Core.Logic.{◌↔◌}
use native.Mathlib.Nat.{mod-lt, mod-eq_of_lt, mod-one, add_assoc, mul_assoc, add-mul, add_comm}
use native.Mathlib.Omega.{arith}
use borrow.Author.Tests.{eqb-true, ltb-true, lt-ltb}
use lib.Arith.{digits_lt}
use lib.Count.{ones, ones_step}
use lib.Dec.{eqb}
use lib.ListN.{length, get_or, drop}
use lib.Pow.{mod-pow-add, high, low, pow_pos, pow-add, shr-shr}
use lib.Seq.{drop-length, drop-cons}
use Rattle.words.specs.Word.{word_of, bits, Good, AllGood}
use Rattle.words.specs.Layout.{Field, flag, count, rest, fixed, width, value, fitting, span, joined, fitting_all, StandFrom, words_by, fitting_by, twelve_each, LaidFrom, Laid}

-- two tests of which the second is made where the first holds
pub both : (a b : Bool) → cond a b false ≡ true → (a ≡ true) × (b ≡ true)
both true b h = (refl, h)
both false b h = absurd (let z : ◌≡◌ {A = ℕ} 0 1 = cc in omega arith)

-- ---- one field

flag_lt : (b : Bool) → cond b 1 0 < 2
flag_lt true = omega arith
flag_lt false = omega arith

fits_lt : (f : Field) → fitting f ≡ true → value f < 2 ^ width f
fits_lt (flag b) h = flag_lt b
fits_lt (count k n) h = ltb-true n (2 ^ k) h
fits_lt (rest k n) h = mod-lt n (pow_pos k)
fits_lt (fixed k n) h = ltb-true n (2 ^ k) h

lt_fits : (f : Field) → value f < 2 ^ width f → fitting f ≡ true
lt_fits (flag b) h = refl
lt_fits (count k n) h = lt-ltb n (2 ^ k) h
lt_fits (rest k n) h = refl
lt_fits (fixed k n) h = lt-ltb n (2 ^ k) h

-- ---- one word by itself

-- the fields stand in the word w, the last before the parity bit
abbrev Stands : List Field → ℕ → Type 0
Stands [] w = Unit {0}
Stands (f ∷ fs) w = (w / 2 ^ (span fs + 1) % 2 ^ width f ≡ value f) × Stands fs w

-- a digit further down
half : (w s : ℕ) → w / 2 / 2 ^ s ≡ w / 2 ^ (s + 1)
half w s = shr-shr w 1 s ∙ ap (λ (k : ℕ). w / 2 ^ k) (add_comm 1 s)

stands_joined : (fs : List Field) (w : ℕ) → Stands fs w → joined fs ≡ w / 2 % 2 ^ span fs
stands_joined [] w h = sym (mod-one (w / 2))
stands_joined (f ∷ fs) w h =
    ap₂ (λ (x y : ℕ). x * 2 ^ span fs + y) (sym h.0 ∙ ap (λ (x : ℕ). x % 2 ^ width f) (sym (half w (span fs)))) (stands_joined fs w h.1)
    ∙ sym (mod-pow-add (w / 2) (width f) (span fs))

stands_fits : (fs : List Field) (w : ℕ) → Stands fs w → fitting_all fs ≡ true
stands_fits [] w h = refl
stands_fits (f ∷ fs) w h =
    ap (λ (b : Bool). cond b (fitting_all fs) false)
    (lt_fits f (subst (λ (x : ℕ). x < 2 ^ width f) h.0 (mod-lt (w / 2 ^ (span fs + 1)) (pow_pos (width f)))))
    ∙ stands_fits fs w h.1

joined_lt : (fs : List Field) → fitting_all fs ≡ true → joined fs < 2 ^ span fs
joined_lt [] h = omega arith
joined_lt (f ∷ fs) h =
    let k = both (fitting f) (fitting_all fs) h in
    subst (λ (m : ℕ). value f * 2 ^ span fs + joined fs < m) (sym (pow-add 2 (width f) (span fs))) (digits_lt (fits_lt f k.0) (joined_lt fs k.1))

-- whatever number h stands above the fields
joined_stands : (fs : List Field) (h w : ℕ) → fitting_all fs ≡ true → w / 2 ≡ h * 2 ^ span fs + joined fs → Stands fs w
joined_stands [] h w t e = tt
joined_stands (f ∷ fs) h w t e =
    let k = both (fitting f) (fitting_all fs) t in
    let s = span fs in
    let up : w / 2 ≡ (h * 2 ^ width f + value f) * 2 ^ s + joined fs =
    e ∙ ap (λ (x : ℕ). h * x + (value f * 2 ^ s + joined fs)) (pow-add 2 (width f) s)
    ∙ ap (λ (x : ℕ). x + (value f * 2 ^ s + joined fs)) (sym (mul_assoc h (2 ^ width f) (2 ^ s)))
    ∙ sym (add_assoc (h * 2 ^ width f * 2 ^ s) (value f * 2 ^ s) (joined fs))
    ∙ ap (λ (x : ℕ). x + joined fs) (sym (add-mul (h * 2 ^ width f) (value f) (2 ^ s))) in (
      ap (λ (x : ℕ). x % 2 ^ width f) (sym (half w s) ∙ ap (λ (x : ℕ). x / 2 ^ s) up ∙ high (h * 2 ^ width f + value f) s (joined_lt fs k.1))
          ∙ low h (width f) (fits_lt f k.0),
      joined_stands fs (h * 2 ^ width f + value f) w k.1 up,
    )

-- ---- the parity bit behind the data

pub data_of_word : (d : ℕ) → word_of d / 2 ≡ d
data_of_word d = omega arith

pub word_of_data : (w d : ℕ) → Good w → w / 2 ≡ d → w ≡ word_of d
word_of_data w d g e = let p = g.parity in omega (arith, ones_step w, ap ones e)

pub word_good : (d : ℕ) → d ≤ 4095 → Good (word_of d)
word_good d h = record { narrow = omega arith; parity = omega (arith, ones_step (word_of d), ap ones (data_of_word d)) }

-- ---- one word, both ways

stands_word : (fs : List Field) (w : ℕ) → span fs ≡ 12 → Good w → Stands fs w → w ≡ word_of (joined fs)
stands_word fs w t g h =
    word_of_data w (joined fs) g
    (sym (stands_joined fs w h ∙ ap (λ (k : ℕ). w / 2 % 2 ^ k) t ∙ mod-eq_of_lt (let s = g.narrow in omega arith)))

word_stands : (fs : List Field) → fitting_all fs ≡ true → Stands fs (word_of (joined fs))
word_stands fs h = joined_stands fs 0 (word_of (joined fs)) h (data_of_word (joined fs) ∙ (omega arith))

pub joined_small : (fs : List Field) → span fs ≡ 12 → fitting_all fs ≡ true → joined fs ≤ 4095
joined_small fs t h = let k : joined fs < 2 ^ 12 = subst (λ (k : ℕ). joined fs < 2 ^ k) t (joined_lt fs h) in omega arith

joined_good : (fs : List Field) → span fs ≡ 12 → fitting_all fs ≡ true → Good (word_of (joined fs))
joined_good fs t h = word_good (joined fs) (joined_small fs t h)

-- ---- all words, each by itself

abbrev StandEach : List (List Field) → List ℕ → Type 0
StandEach [] [] = Unit {0}
StandEach [] (w ∷ ws) = ⊥
StandEach (fs ∷ l) [] = ⊥
StandEach (fs ∷ l) (w ∷ ws) = Stands fs w × StandEach l ws

each_words : (l : List (List Field)) (ws : List ℕ) → twelve_each l ≡ true → AllGood ws → StandEach l ws → (ws ≡ words_by l) × (fitting_by l ≡ true)
each_words [] [] t g h = (refl, refl)
each_words [] (w ∷ ws) t g h = absurd h
each_words (fs ∷ l) [] t g h = absurd h
each_words (fs ∷ l) (w ∷ ws) t g h =
    let k = both (eqb (span fs) 12) (twelve_each l) t in
    let r = each_words l ws k.1 g.1 h.1 in (
      ap₂ (λ (x : ℕ) (xs : List ℕ). x ∷ xs) (stands_word fs w (eqb-true (span fs) 12 k.0) g.0 h.0) r.0,
      ap (λ (b : Bool). cond b (fitting_by l) false) (stands_fits fs w h.0) ∙ r.1,
    )

words_each : (l : List (List Field)) → fitting_by l ≡ true → StandEach l (words_by l)
words_each [] h = tt
words_each (fs ∷ l) h = let f = both (fitting_all fs) (fitting_by l) h in (word_stands fs f.0, words_each l f.1)

pub words_good : (l : List (List Field)) → twelve_each l ≡ true → fitting_by l ≡ true → AllGood (words_by l)
words_good [] t h = tt
words_good (fs ∷ l) t h =
    let k = both (eqb (span fs) 12) (twelve_each l) t in
    let f = both (fitting_all fs) (fitting_by l) h in
    (joined_good fs (eqb-true (span fs) 12 k.0) f.0, words_good l k.1 f.1)

pub words_length : (l : List (List Field)) → length (words_by l) ≡ length l
words_length [] = refl
words_length (fs ∷ l) = ap suc (words_length l)

-- ---- the document's bit numbers

-- the same digits of the same word
pub same_digits : (ws : List ℕ) {i j s t m n : ℕ} → i ≡ j → s ≡ t → m ≡ n → get_or ws i 0 / 2 ^ s % 2 ^ m ≡ get_or ws j 0 / 2 ^ t % 2 ^ n
same_digits ws p q r = rw (p, q, r)

-- k bits from bit a on, which stand in word j behind its first o bits and before s more and the parity bit
bits_in_word : (ws : List ℕ) (a j o k s : ℕ) → a ≡ 13 * j + o + 1 → o + k + s ≡ 12 → bits ws a (a + k - 1) ≡ get_or ws j 0 / 2 ^ (s + 1) % 2 ^ k
bits_in_word ws a j o zero s e h = rw (let n : a + 0 - 1 + 1 - a ≡ 0 = omega arith in n) (mod-one _ ∙ sym (mod-one _))
bits_in_word ws a j o (suc k) s e h = same_digits ws (omega arith) (omega arith) (omega arith)

stand_in_word : (ws : List ℕ) (a j o : ℕ) (fs : List Field) → a ≡ 13 * j + o + 1 → o + span fs ≡ 12 → StandFrom a fs ws ↔ Stands fs (get_or ws j 0)
stand_in_word ws a j o [] e h = (λ s. tt, λ s. tt)
stand_in_word ws a j o (f ∷ fs) e h =
    let k = width f in
    let here = bits_in_word ws a j o k (span fs) e (omega arith) in
    let more = stand_in_word ws (a + k) j (o + k) fs (omega arith) (omega arith) in
    (λ s. (sym here ∙ s.0, more.0 s.1), λ s. (here ∙ s.0, more.1 s.1))

laid_each : (ws : List ℕ) (a j : ℕ) (l : List (List Field)) → a ≡ 13 * j + 1 → twelve_each l ≡ true → length ws ≡ j + length l
    → LaidFrom a l ws ↔ StandEach l (drop j ws)
laid_each ws a j [] e t n = rw (ap (λ (i : ℕ). drop i ws) (let m : j ≡ length ws = omega arith in m) ∙ drop-length ws) (λ s. tt, λ s. tt)
laid_each ws a j (fs ∷ l) e t n =
    let k = both (eqb (span fs) 12) (twelve_each l) t in
    let here = stand_in_word ws a j 0 fs (omega arith) (omega (arith, eqb-true (span fs) 12 k.0)) in
    let more = laid_each ws (a + 13) (suc j) l (omega arith) k.1 (omega arith) in
    rw (drop-cons ws j 0 (omega arith)) (λ s. (here.0 s.0, more.0 s.1), λ s. (here.1 s.0, more.1 s.1))

-- ---- the law

pub laid_words : (l : List (List Field)) (ws : List ℕ) → twelve_each l ≡ true → AllGood ws → Laid l ws → (ws ≡ words_by l) × (fitting_by l ≡ true)
laid_words l ws t g h = each_words l ws t g ((laid_each ws 1 0 l refl t (let n = h.whole in omega arith)).0 h.fields)

pub words_laid : (l : List (List Field)) → twelve_each l ≡ true → fitting_by l ≡ true → Laid l (words_by l)
words_laid l t h = record { whole = words_length l; fields = (laid_each (words_by l) 1 0 l refl t (let n = words_length l in omega arith)).1 (words_each l h) }
