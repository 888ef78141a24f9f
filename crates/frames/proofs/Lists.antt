-- Frames one after the other, and the calls that read them: the claims ListReadsBack, EqualLists, CallsEnough and NotBehind.
-- Assumes nothing.
use Prim.Native.Nat.{ℕ, zero, suc, ◌+◌, ◌≤◌, ◌<◌}
use mathlib.Core.Path.{◌≡◌, refl, sym, ap, ◌∙◌}
use mathlib.Core.Bool.{Bool, true, false, cond, true≢false}
use mathlib.Core.List.{List, [], ◌∷◌, ◌++◌, map, append_assoc, append-nil, append_cancel_right, nil≢cons}
use native.Mathlib.Omega.{arith}
use lib.ListN.{length, take, drop, length-append}
use lib.Seq.{take_at, drop_at}
use borrow.Author.Tests.{lt-ltb}
use Rattle.rows.proofs.Claims as law
use Rattle.frames.specs.Stream.{digits}
use Rattle.frames.specs.Frame.{Frame, flag, between}
use Rattle.frames.specs.Zeros.{zeros_out, zero_missing}
use Rattle.frames.specs.Reading.{Answer, accepted, end, Outcome, outcome, begins, past_flags, only_flags, body_rows, frame_in, read_bits}
use Rattle.frames.specs.Lists.{Spaced, flags, stream_of, frames_of, AllFit, goes_on, calls, flags_in}
use Rattle.frames.specs.Claims.{ListReadsBack, EqualLists, CallsEnough, NotBehind}
use Rattle.frames.proofs.Tests.{by_test}
use Rattle.frames.proofs.Numbered.{length_digits, begins_append}
use Rattle.frames.proofs.Flags.{flag_first, past-flags, laid, ahead, judged, read_laid, laid_begins, Laid, laid_by}
use Rattle.frames.proofs.Back.{read_frame}

-- ---- one call

call : (k : ℕ) (s : List Bool) (a : Answer) (n : ℕ) → read_bits false s ≡ outcome a n
    → calls (suc k) s ≡ a ∷ cond (goes_on (outcome a n)) (calls k (drop n s)) []
unfolding calls
call k s a n e = ap (λ (o : Outcome). o.answer ∷ cond (goes_on o) (calls k (drop o.on s)) []) e

-- a call that goes on has a stretch to answer of
goes_laid : (s : List Bool) → goes_on (read_bits false s) ≡ true → Laid s
unfolding goes_on
goes_laid s h = (laid_by goes_on (λ q. refl) (λ n. refl) false s h).1

read_laid_out : (s : List Bool) (l : Laid s) → read_bits false s ≡ judged l.bits (ahead l.more l.bits)
read_laid_out s l = ap (read_bits false) l.whole ∙ read_laid l.more l.bits l.rest l.between

-- a call that goes on answers the place of the closing flag
judged_on : (t : List Bool) (n : ℕ) → goes_on (judged t n) ≡ true → (judged t n).on ≡ n
unfolding judged goes_on
judged_on t n h =
    let b = zeros_out 0 t in
    by_test (zero_missing 0 t)
    (λ e. absurd (true≢false (sym (rw e at h))))
    (λ e. rw e (ap (λ (o : Outcome). o.on) (law.each_of Answer Outcome (λ a. outcome a n) (body_rows b) (accepted (frame_in b)))))

goes_closing : (s : List Bool) (h : goes_on (read_bits false s) ≡ true) → let l = goes_laid s h in (read_bits false s).on ≡ ahead l.more l.bits
goes_closing s h =
    let l = goes_laid s h in
    let e : read_bits false s ≡ judged l.bits (ahead l.more l.bits) = read_laid_out s l in
    ap (λ (o : Outcome). o.on) e ∙ judged_on l.bits _ (sym (ap goes_on e) ∙ h)

-- ---- calls one after the other

-- only flags: the end
none_left : (k : ℕ) → only_flags (flags k) ≡ true
unfolding only_flags past_flags
none_left k = rw (rw append-nil at (past-flags k []))

only-flags : (k : ℕ) → read_bits false (flags (suc k)) ≡ outcome end (length (flags (suc k)))
unfolding read_bits flags
only-flags k = rw (begins_append flag (flags k), none_left (suc k))

-- frames begin with a flag, which closes the frame in front of them
stream_flag : (xs : List Spaced) (tail : ℕ) → (rest : List Bool) × (stream_of xs tail ≡ flag ++ rest)
unfolding stream_of
stream_flag [] tail = (flags tail, refl)
stream_flag (x ∷ xs) tail = (_, flag_first x.more _)

-- they are what is left behind that frame
drop_ahead : (k : ℕ) (t s : List Bool) → drop (ahead k t) (flags k ++ (flag ++ (t ++ s))) ≡ s
drop_ahead k t s =
    let p = flags k ++ (flag ++ t) in
    let e : flags k ++ (flag ++ (t ++ s)) ≡ p ++ s = simp append_assoc in
    rw e (drop_at p s (ahead k t) (simp (length-append, length_digits) (omega arith)))

read_all : (k : ℕ) (xs : List Spaced) (tail : ℕ) → length xs < k → AllFit xs
    → calls k (stream_of xs tail) ≡ map accepted (frames_of xs) ++ (end ∷ [])
unfolding stream_of goes_on flags
read_all zero xs tail h fit = absurd (omega arith)
read_all (suc k) [] tail h fit = call k (flags (suc tail)) end _ (only-flags tail)
read_all (suc k) (x ∷ xs) tail h fit =
    let m = x.more in
    let f = x.frame in
    let s = stream_of xs tail in
    let r = stream_flag xs tail in
    let n = ahead m (between f) in
    let e : read_bits false (flags m ++ (flag ++ (between f ++ s))) ≡ outcome (accepted f) n = rw r.1 (read_frame f m r.0 fit.0) in
    call k _ (accepted f) n e
    ∙ rw (lt-ltb 0 n (omega arith), drop_ahead m (between f) s)
    (ap (λ (l : List Answer). accepted f ∷ l) (read_all k xs tail (omega arith) fit.1))

length_stream : (xs : List Spaced) (tail : ℕ) → length xs ≤ length (stream_of xs tail)
unfolding stream_of
length_stream [] tail = omega arith
length_stream (x ∷ xs) tail = simp (length-append, length_digits) (omega (arith, length_stream xs tail))

pub list_reads_back : ListReadsBack
list_reads_back xs tail fit = read_all (suc (length (stream_of xs tail))) xs tail (omega (arith, length_stream xs tail)) fit

same_frames : (fs gs : List Frame) → map accepted fs ≡ map accepted gs → fs ≡ gs
same_frames [] [] e = refl
same_frames [] (g ∷ gs) e = absurd (nil≢cons e)
same_frames (f ∷ fs) [] e = absurd (nil≢cons (sym e))
same_frames (f ∷ fs) (g ∷ gs) e =
    let head : f ≡ g = cc in
    let tail : map accepted fs ≡ map accepted gs = cc in
    λ i. head i ∷ same_frames fs gs tail i

pub equal_lists : EqualLists
equal_lists xs ys m n fx fy e =
    same_frames (frames_of xs) (frames_of ys)
    (append_cancel_right _ _ (end ∷ [])
    (sym (list_reads_back xs m fx) ∙ ap (λ (s : List Bool). calls (suc (length s)) s) e ∙ list_reads_back ys n fy))

-- ---- how many calls

flags_most : (s : List Bool) → flags_in s ≤ length s
unfolding flags_in
flags_most [] = omega arith
flags_most (b ∷ s) = by_test (begins flag (b ∷ s)) (λ e. rw e (omega (arith, flags_most s))) (λ e. rw e (omega (arith, flags_most s)))

-- further on there are no more flags, and fewer behind one
flags_drop : (n : ℕ) (s : List Bool) → flags_in (drop n s) ≤ flags_in s
unfolding flags_in
flags_drop zero s = omega arith
flags_drop (suc n) [] = omega arith
flags_drop (suc n) (b ∷ s) = omega (arith, flags_drop n s)

flags_fewer : (n : ℕ) (s : List Bool) → 0 < n → begins flag s ≡ true → flags_in (drop n s) < flags_in s
unfolding flags_in begins digits
flags_fewer zero s h e = absurd (omega arith)
flags_fewer (suc n) [] h e = absurd (true≢false (sym e))
flags_fewer (suc n) (b ∷ s) h e = rw e (omega (arith, flags_drop n s))

-- so a call that goes on leaves fewer flags, and the closing one
goes_fewer : (s : List Bool) → goes_on (read_bits false s) ≡ true
    → let left = flags_in (drop (read_bits false s).on s) in (0 < left) × (left < flags_in s)
goes_fewer s h =
    let l = goes_laid s h in
    let k = l.more in
    let t = l.bits in
    let n : (read_bits false s).on ≡ ahead k t = goes_closing s h in
    let left : drop (read_bits false s).on s ≡ flag ++ l.rest =
    ap (drop (read_bits false s).on) l.whole ∙ rw n (drop_ahead k t (flag ++ l.rest)) in (
      rw left (omega (arith, flags_fewer 1 (flag ++ l.rest) (omega arith) (begins_append flag l.rest))),
      flags_fewer (read_bits false s).on s (rw n (omega arith)) (ap (begins flag) l.whole ∙ laid_begins k t l.rest l.between),
    )

-- and any calls that are enough answer alike
enough : (j k : ℕ) (s : List Bool) → flags_in s ≤ j → 0 < j → flags_in s ≤ k → 0 < k → calls j s ≡ calls k s
unfolding calls
enough zero k s h a l b = absurd (omega arith)
enough (suc j) zero s h a l b = absurd (omega arith)
enough (suc j) (suc k) s h a l b =
    let o = read_bits false s in
    by_test (goes_on o)
    (λ e. let f = goes_fewer s e in
    rw e (ap (λ (l : List Answer). o.answer ∷ l) (enough j k (drop o.on s) (omega arith) (omega arith) (omega arith) (omega arith))))
    (λ e. rw e)

pub calls_enough : CallsEnough
calls_enough s k h l = enough k (suc (length s)) s h l (omega (arith, flags_most s)) (omega arith)

-- ---- behind the closing flag

-- a stream up to its closing flag
laid_ends : (k : ℕ) (t rest : List Bool) → laid k t rest ≡ laid k t [] ++ rest
laid_ends k t rest = simp append_assoc

pub not_behind : NotBehind
not_behind s rest h =
    let l = goes_laid s h in
    let k = l.more in
    let t = l.bits in
    let n : (read_bits false s).on ≡ ahead k t = goes_closing s h in
    let m = (read_bits false s).on + 8 in
    let front : take m s ≡ laid k t [] =
    ap (take m) (l.whole ∙ laid_ends k t l.rest) ∙ take_at (laid k t []) l.rest m (rw n (simp (length-append, length_digits) (omega arith))) in
    ap (read_bits false) (ap (λ (u : List Bool). u ++ rest) front ∙ sym (laid_ends k t rest))
    ∙ read_laid k t rest l.between ∙ sym (read_laid_out s l)
