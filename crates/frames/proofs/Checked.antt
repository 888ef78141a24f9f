-- The frame check sequence: the register's length, the register as the number that the code has, and what the check finds. A bit that is fed is
-- added to the register's first bit, and no step loses anything; so the register tells sixteen bits, and no sixteen others pass for them.
-- Assumes nothing.
use Prim.Native.Nat.{ℕ, zero, suc, ◌+◌, ◌-◌, ◌*◌, ◌/◌, ◌%◌, ◌^◌, ◌≤◌, ◌<◌}
use mathlib.Core.Path.{◌≡◌, refl, sym, ap, ◌∙◌}
use mathlib.Core.Bool.{Bool, true, false, not, cond, xor, true≢false, false≢true}
use mathlib.Core.List.{List, [], ◌∷◌, ◌++◌, map}
use mathlib.Core.Logic.{◌↔◌}
use native.Mathlib.Nat.{le_of_eq, pow-succ'}
use native.Mathlib.Omega.{arith}
use borrow.Author.Tests.{not-false}
use lib.Arith.{digits_div}
use lib.Bits.{bit_xor, xor_block}
use lib.Dec.{eqb, lit<}
use lib.ListN.{length, get_or, take, drop, replicate, length-append, length-map, length-drop, take-append-drop}
use lib.Seq.{take_at, get_or_at}
use Rattle.frames.specs.Stream.{bit, number, digits}
use Rattle.frames.specs.Check.{sum, generator, fed, feed, preset, check_of}
use Rattle.frames.specs.Reading.{begins, wrong_check}
use Rattle.frames.specs.Claims.{Remainder, BurstFound, OneFlipFound, TwoFlipsFound, KnownChecks}
use Rattle.frames.proofs.Numbered.{number_lt, number_cons, number_append, length_digits, number_digits, begins_whole}

-- a register without its first bit, moved up one power
abbrev up : List Bool → List Bool
up rs = rs ++ (false ∷ [])

length_up : (rs : List Bool) → length (up rs) ≡ suc (length rs)
length_up rs = length-append rs (false ∷ []) ∙ omega arith

up_fits : (rs : List Bool) → suc (length rs) ≡ 16 → length (up rs) ≡ length generator
up_fits rs e = length_up rs ∙ e ∙ sym (length_digits 16 0x1021)

-- ---- lengths

length-sum : (xs ys : List Bool) → length xs ≡ length ys → length (sum xs ys) ≡ length ys
unfolding sum
length-sum [] ys e = e
length-sum (x ∷ xs) [] e = refl
length-sum (x ∷ xs) (y ∷ ys) e = ap suc (length-sum xs ys (omega arith))

pub length_fed : (rs : List Bool) (b : Bool) → length rs ≡ 16 → length (fed rs b) ≡ 16
unfolding fed
length_fed [] b e = e
length_fed (r ∷ rs) b e = go (xor r b)
  where
    go : (t : Bool) → length (cond t (sum (up rs) generator) (up rs)) ≡ 16
    go true = length-sum (up rs) generator (up_fits rs e) ∙ length_digits 16 0x1021
    go false = length_up rs ∙ e

pub length_feed : (rs bs : List Bool) → length rs ≡ 16 → length (feed rs bs) ≡ 16
unfolding feed
length_feed rs [] e = e
length_feed rs (b ∷ bs) e = length_feed (fed rs b) bs (length_fed rs b e)

pub length-check_of : (bs : List Bool) → length (check_of bs) ≡ 16
unfolding check_of
length-check_of bs = length-map (feed preset bs) not ∙ length_feed preset bs refl

pub feed_append : (rs xs ys : List Bool) → feed rs (xs ++ ys) ≡ feed (feed rs xs) ys
unfolding feed
feed_append rs [] ys = refl
feed_append rs (x ∷ xs) ys = feed_append (fed rs x) xs ys

-- ---- as numbers

number_up : (rs : List Bool) → number (up rs) ≡ number rs * 2
unfolding number
number_up rs = number_append rs (false ∷ []) ∙ omega arith

pub xor_bit : (x y : Bool) → bit_xor (bit x) (bit y) ≡ bit (xor x y)
unfolding xor
xor_bit true true = refl
xor_bit true false = refl
xor_bit false true = refl
xor_bit false false = refl

-- a sum without carry is the numbers' exclusive or
number_sum : (xs ys : List Bool) → length xs ≡ length ys → number (sum xs ys) ≡ bit_xor (number xs) (number ys)
unfolding sum number
number_sum [] [] e = refl
number_sum [] (y ∷ ys) e = absurd (omega arith)
number_sum (x ∷ xs) [] e = absurd (omega arith)
number_sum (x ∷ xs) (y ∷ ys) e =
    let m : length xs ≡ length ys = omega arith in
    let l : number xs < 2 ^ length ys = rw m at (number_lt xs) in
    rw (number_cons (xor x y) (sum xs ys), number_cons x xs, number_cons y ys, length-sum xs ys m, number_sum xs ys m, m)
    (sym (rw (xor_block (length ys) (bit x) (bit y) (number xs) (number ys) l (number_lt ys), xor_bit x y)))

-- one step, as the code takes it: the heaviest bit is what leaves the register
pub fed_number : (rs : List Bool) (b : Bool) → length rs ≡ 16
    → number (fed rs b) ≡ cond (eqb (number rs / 32768) (bit b)) (number rs * 2 % 65536) (bit_xor (number rs * 2 % 65536) 0x1021)
unfolding fed xor
fed_number [] b e = absurd (omega arith)
fed_number (r ∷ rs) b e =
    let m : length rs ≡ 15 = omega arith in
    let l : number rs < 32768 = rw m at (number_lt rs) in
    rw (number_cons r rs, m, digits_div (bit r) l, double r (number rs) l, ← number_up rs) (go r b)
  where
    double : (r : Bool) (n : ℕ) → n < 32768 → (bit r * 32768 + n) * 2 % 65536 ≡ n * 2
    double true n h = omega arith
    double false n h = omega arith

    added : number (sum (up rs) generator) ≡ bit_xor (number (up rs)) 0x1021
    added = number_sum (up rs) generator (up_fits rs e) ∙ ap (bit_xor (number (up rs))) (number_digits 16 0x1021 (lit< tt))

    go : (r b : Bool)
        → number (cond (xor r b) (sum (up rs) generator) (up rs)) ≡ cond (eqb (bit r) (bit b)) (number (up rs)) (bit_xor (number (up rs)) 0x1021)
    go true true = refl
    go true false = added
    go false true = added
    go false false = refl

-- a register and its complement make all ones
not_number : (rs : List Bool) → number (map not rs) + number rs + 1 ≡ 2 ^ length rs
unfolding number
not_number [] = refl
not_number (b ∷ rs) =
    rw (number_cons (not b) (map not rs), number_cons b rs, length-map rs not, pow-succ') (both b _ _ _ (not_number rs))
  where
    both : (b : Bool) (m n k : ℕ) → m + n + 1 ≡ k → bit (not b) * k + m + (bit b * k + n) + 1 ≡ 2 * k
    both true m n k e = omega arith
    both false m n k e = omega arith

pub number_not : (rs : List Bool) → length rs ≡ 16 → number (map not rs) ≡ 65535 - number rs
number_not rs e = omega (arith, not_number rs ∙ ap (λ (n : ℕ). 2 ^ n) e)

-- ---- adding without carry

xor_swap : (x y z : Bool) → xor (xor x y) z ≡ xor (xor x z) y
unfolding xor
xor_swap x true true = refl
xor_swap x false false = refl
xor_swap true true false = refl
xor_swap true false true = refl
xor_swap false true false = refl
xor_swap false false true = refl

xor_back : (x y : Bool) → xor (xor x y) y ≡ x
unfolding xor
xor_back true true = refl
xor_back true false = refl
xor_back false true = refl
xor_back false false = refl

xor_comm : (x y : Bool) → xor x y ≡ xor y x
unfolding xor
xor_comm true true = refl
xor_comm true false = refl
xor_comm false true = refl
xor_comm false false = refl

-- what was added twice is gone
sum_back : (xs ys : List Bool) → length xs ≡ length ys → sum (sum xs ys) ys ≡ xs
unfolding sum
sum_back [] ys e = refl
sum_back (x ∷ xs) [] e = absurd (omega arith)
sum_back (x ∷ xs) (y ∷ ys) e = cc (xor_back x y, sum_back xs ys (omega arith))

-- the sum of two bits that stand at the same place
get_or_sum : (xs ys : List Bool) (i : ℕ) → length xs ≡ length ys → get_or (sum xs ys) i false ≡ xor (get_or xs i false) (get_or ys i false)
unfolding sum xor
get_or_sum [] [] i e = refl
get_or_sum [] (y ∷ ys) i e = absurd (omega arith)
get_or_sum (x ∷ xs) [] i e = absurd (omega arith)
get_or_sum (x ∷ xs) (y ∷ ys) zero e = refl
get_or_sum (x ∷ xs) (y ∷ ys) (suc i) e = get_or_sum xs ys i (omega arith)

-- bits added to the first of a register
unfoldable pub over : List Bool → List Bool → List Bool
over rs [] = rs
over [] (d ∷ ds) = []
over (r ∷ rs) (d ∷ ds) = xor r d ∷ over rs ds

pub length_over : (rs ds : List Bool) → length (over rs ds) ≡ length rs
unfolding over
length_over rs [] = refl
length_over [] (d ∷ ds) = refl
length_over (r ∷ rs) (d ∷ ds) = ap suc (length_over rs ds)

over_up : (rs ds : List Bool) → length ds ≤ length rs → over (up rs) ds ≡ up (over rs ds)
unfolding over
over_up rs [] l = refl
over_up [] (d ∷ ds) l = absurd (omega arith)
over_up (r ∷ rs) (d ∷ ds) l = ap (λ (t : List Bool). xor r d ∷ t) (over_up rs ds (omega arith))

over_sum : (xs ys ds : List Bool) → over (sum xs ys) ds ≡ sum (over xs ds) ys
unfolding over sum
over_sum xs ys [] = refl
over_sum [] ys (d ∷ ds) = refl
over_sum (x ∷ xs) [] (d ∷ ds) = refl
over_sum (x ∷ xs) (y ∷ ys) (d ∷ ds) = cc (xor_swap x y d, over_sum xs ys ds)

over_inj : (rs ds es : List Bool) → length ds ≤ length rs → length ds ≡ length es → over rs ds ≡ over rs es → ds ≡ es
unfolding over
over_inj rs [] [] l n q = refl
over_inj rs [] (e ∷ es) l n q = absurd (omega arith)
over_inj rs (d ∷ ds) [] l n q = absurd (omega arith)
over_inj [] (d ∷ ds) (e ∷ es) l n q = absurd (omega arith)
over_inj (r ∷ rs) (d ∷ ds) (e ∷ es) l n q =
    let p : xor r d ∷ over rs ds ≡ xor r e ∷ over rs es = q in
    let t : over rs ds ≡ over rs es = cc in
    cc (xor_back d r, xor_back e r, xor_comm r d, xor_comm r e, over_inj rs ds es (omega arith) (omega arith) t)

over_not : (rs : List Bool) → over rs (map not rs) ≡ replicate (length rs) true
unfolding over xor
over_not [] = refl
over_not (true ∷ rs) = ap (λ (t : List Bool). true ∷ t) (over_not rs)
over_not (false ∷ rs) = ap (λ (t : List Bool). true ∷ t) (over_not rs)

-- ---- the register tells what was fed

-- the register before a bit was fed: the last bit tells whether the generator was added, for its own last bit is one
before : Bool → List Bool → List Bool
before b rs = let t = get_or rs 15 false in xor t b ∷ take 15 (cond t (sum rs generator) rs)

before_fed : (b : Bool) (rs : List Bool) → length rs ≡ 16 → before b (fed rs b) ≡ rs
unfolding before fed xor digits
before_fed b [] e = absurd (omega arith)
before_fed b (r ∷ rs) e = go (xor r b) ∙ ap (λ (t : Bool). t ∷ rs) (xor_back r b)
  where
    n : length rs ≡ 15
    n = omega arith

    same : take 15 (up rs) ≡ rs
    same = take_at rs (false ∷ []) 15 n

    l : length (up rs) ≡ length generator
    l = up_fits rs e

    last : get_or (up rs) 15 false ≡ false
    last = get_or_at rs false [] false 15 n

    go : (t : Bool) → before b (cond t (sum (up rs) generator) (up rs)) ≡ xor t b ∷ rs
    go true = rw (get_or_sum (up rs) generator 15 l, last, sum_back (up rs) generator l, same)
    go false = rw (last, same)

fed_inj : (rs ss : List Bool) (b : Bool) → length rs ≡ 16 → length ss ≡ 16 → fed rs b ≡ fed ss b → rs ≡ ss
fed_inj rs ss b m n e = sym (before_fed b rs m) ∙ ap (before b) e ∙ before_fed b ss n

-- equal bits keep different registers different
pub feed_inj : (rs ss bs : List Bool) → length rs ≡ 16 → length ss ≡ 16 → feed rs bs ≡ feed ss bs → rs ≡ ss
unfolding feed
feed_inj rs ss [] m n e = e
feed_inj rs ss (b ∷ bs) m n e = fed_inj rs ss b m n (feed_inj (fed rs b) (fed ss b) bs (length_fed rs b m) (length_fed ss b n) e)

-- a bit that is fed is added to the register's first bit, and bits that follow it to the next ones
pub over_fed : (r d : Bool) (rs ds : List Bool) → length ds ≤ length rs → over (fed (r ∷ rs) d) ds ≡ fed (xor r d ∷ over rs ds) false
unfolding fed xor
over_fed r d rs ds l = go (xor r d)
  where
    go : (t : Bool) → over (cond t (sum (up rs) generator) (up rs)) ds ≡ fed (t ∷ over rs ds) false
    go true = over_sum (up rs) generator ds ∙ ap (λ (x : List Bool). sum x generator) (over_up rs ds l)
    go false = over_up rs ds l

pub feed_over : (rs ds : List Bool) → length rs ≡ 16 → length ds ≤ 16 → feed rs ds ≡ feed (over rs ds) (replicate (length ds) false)
unfolding feed over
feed_over rs [] e l = refl
feed_over [] (d ∷ ds) e l = absurd (omega arith)
feed_over (r ∷ rs) (d ∷ ds) e l =
    feed_over (fed (r ∷ rs) d) ds (length_fed (r ∷ rs) d e) (omega arith)
    ∙ ap (λ (t : List Bool). feed t (replicate (length ds) false)) (over_fed r d rs ds (omega arith))

-- so the register tells up to sixteen bits that were fed
pub feed_tells : (rs ds es : List Bool) → length rs ≡ 16 → length ds ≤ 16 → length ds ≡ length es → feed rs ds ≡ feed rs es → ds ≡ es
feed_tells rs ds es m l n e =
    over_inj rs ds es (omega arith) n
    (feed_inj (over rs ds) (over rs es) (replicate (length ds) false) (length_over rs ds ∙ m) (length_over rs es ∙ m)
    (sym (feed_over rs ds m l) ∙ e ∙ feed_over rs es m (omega arith) ∙ ap (λ (k : ℕ). feed (over rs es) (replicate k false)) (sym n)))

-- ---- what is found

pub known_checks : KnownChecks
unfolding digits check_of feed fed sum xor
known_checks = record { to_sensor = refl; from_sensor_is = refl; nine_digits = refl }

-- the register and its complement add up to ones
ones_left : feed (replicate 16 true) (replicate 16 false) ≡ digits 16 0x1D0F
unfolding digits feed fed sum xor
ones_left = refl

-- sixteen bits leave 1D0F if they are the register's complement, and else not
left : (rs ds : List Bool) → length rs ≡ 16 → length ds ≡ 16 → (map not rs ≡ ds) ↔ (feed rs ds ≡ digits 16 0x1D0F)
left rs ds m n = (λ e. ap (feed rs) (sym e) ∙ same, λ e. feed_tells rs (map not rs) ds m (le_of_eq k) (k ∙ sym n) (same ∙ sym e))
  where
    k : length (map not rs) ≡ 16
    k = length-map rs not ∙ m

    same : feed rs (map not rs) ≡ digits 16 0x1D0F
    same = feed_over rs (map not rs) m (le_of_eq k) ∙ rw (k, over_not rs, m) ones_left

pub remainder : Remainder
unfolding wrong_check check_of
remainder b l = (λ w. all ∙ last.0 (whole.0 (not-false _ w)), λ e. ap not (whole.1 (last.1 (sym all ∙ e))))
  where
    n : ℕ
    n = length b - 16

    rs : List Bool
    rs = feed preset (take n b)

    rest : length (drop n b) ≡ 16
    rest = length-drop n b ∙ omega arith

    all : feed preset b ≡ feed rs (drop n b)
    all = ap (feed preset) (sym (take-append-drop n b)) ∙ feed_append preset (take n b) (drop n b)

    last : (map not rs ≡ drop n b) ↔ (feed rs (drop n b) ≡ digits 16 0x1D0F)
    last = left rs (drop n b) (length_feed preset (take n b) refl) rest

    whole : (begins (map not rs) (drop n b) ≡ true) ↔ (map not rs ≡ drop n b)
    whole = begins_whole (map not rs) (drop n b) (length-check_of (take n b) ∙ sym rest)

pub burst_found : BurstFound
burst_found xs ds es ys l n differ k e = go (wrong_check (xs ++ (es ++ ys))) refl
  where
    rs : List Bool
    rs = feed preset xs

    m : length rs ≡ 16
    m = length_feed preset xs refl

    all : (ts : List Bool) → feed preset (xs ++ (ts ++ ys)) ≡ feed (feed rs ts) ys
    all ts = feed_append preset xs (ts ++ ys) ∙ feed_append rs ts ys

    j : length (xs ++ (ds ++ ys)) ≡ length (xs ++ (es ++ ys))
    j = simp length-append (omega arith)

    go : (t : Bool) → wrong_check (xs ++ (es ++ ys)) ≡ t → t ≡ true
    go true q = refl
    go false q =
        let same : feed (feed rs ds) ys ≡ feed (feed rs es) ys =
        sym (all ds) ∙ (remainder _ k).0 e ∙ sym ((remainder (xs ++ (es ++ ys)) (omega (arith, j))).0 q) ∙ all es in
        absurd (differ (feed_tells rs ds es m l n (feed_inj (feed rs ds) (feed rs es) ys (length_feed rs ds m) (length_feed rs es m) same)))

-- flipped bits are others
flipped : (x : Bool) (xs ys : List Bool) → x ∷ xs ≡ not x ∷ ys → ⊥
flipped true xs ys e = true≢false (ap (λ (s : List Bool). get_or s 0 true) e)
flipped false xs ys e = false≢true (ap (λ (s : List Bool). get_or s 0 true) e)

pub one_flip_found : OneFlipFound
one_flip_found xs ys x = burst_found xs (x ∷ []) (not x ∷ []) ys (omega arith) refl (flipped x [] [])

pub two_flips_found : TwoFlipsFound
two_flips_found xs ys x y = burst_found xs (x ∷ y ∷ []) (not x ∷ not y ∷ []) ys (omega arith) refl (flipped x (y ∷ []) (not y ∷ []))
