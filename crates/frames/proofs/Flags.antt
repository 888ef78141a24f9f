-- Flags in a stream: where a stretch between two flags begins and ends, that a stream laid out so reads as its stretch says, and that a stream
-- with a closing flag is laid out so.
-- Assumes nothing.
use Prim.Native.Nat.{ℕ, zero, suc, ◌+◌, ◌-◌, ◌≤◌, ◌<◌}
use mathlib.Core.Path.{◌≡◌, refl, sym, ap, ◌∙◌}
use mathlib.Core.Bool.{Bool, true, false, not, beq, ◌&&◌, ◌||◌, true≢false}
use mathlib.Core.List.{List, [], ◌∷◌, ◌++◌, append_assoc, append-nil, nil≢cons}
use native.Mathlib.Omega.{arith}
use lib.ListN.{length, drop, length-append}
use borrow.Author.Tests.{eqb-false, ne_eqb, not-false}
use Rattle.rows.specs.Rows.{Row, row, first_of, each}
use Rattle.rows.proofs.Claims as law
use Rattle.fields.proofs.Puts.{both_false}
use Rattle.frames.specs.declared.FrameRefusal.{FrameRefusal}
use Rattle.frames.specs.declared.FrameRefusal.TheVariants as R
use Rattle.frames.specs.Stream.{digits}
use Rattle.frames.specs.Zeros.{zeros_out, zero_missing}
use Rattle.frames.specs.Frame.{flag}
use Rattle.frames.specs.Reading.{accepted, refused, end, Outcome, outcome, begins, past_flags, up_to_flag, behind_opening, stretch, closing, only_flags, no_closing_flag, body_rows, frame_in, read_bits}
use Rattle.frames.specs.Lists.{flags}
use Rattle.frames.specs.Claims.{Stretch}
use Rattle.frames.proofs.Tests.{by_test}
use Rattle.frames.proofs.Numbered.{length_digits, begins_append, begins_eq}

-- ---- the first flag

-- whether bits begin with others is told by as many of them
begins_front : (xs u a b : List Bool) → length xs ≤ length u → begins xs (u ++ a) ≡ begins xs (u ++ b)
unfolding begins
begins_front [] u a b h = refl
begins_front (x ∷ xs) [] a b h = absurd (omega arith)
begins_front (x ∷ xs) (y ∷ u) a b h = ap (λ (t : Bool). beq x y && t) (begins_front xs u a b (omega arith))

-- so it is all the same what follows the closing flag
flag_front : (t a b : List Bool) → begins flag (t ++ (flag ++ a)) ≡ begins flag (t ++ (flag ++ b))
flag_front t a b =
    let long : length flag ≤ length (t ++ flag) = simp length-append (omega arith) in
    rw (← append_assoc t flag a, ← append_assoc t flag b) (begins_front flag (t ++ flag) a b long)

up_to_any : (t a b : List Bool) → up_to_flag (t ++ (flag ++ a)) ≡ t → up_to_flag (t ++ (flag ++ b)) ≡ t
unfolding up_to_flag
up_to_any [] a b e = unfold begins digits in refl
up_to_any (x ∷ t) a b e =
    by_test (begins flag (x ∷ (t ++ (flag ++ a))))
    (λ y. let z : [] ≡ x ∷ t = rw y at e in absurd (nil≢cons z))
    (λ n. let z : x ∷ up_to_flag (t ++ (flag ++ a)) ≡ x ∷ t = rw n at e in
    rw (sym (flag_front (x ∷ t) a b) ∙ n) (ap (λ (l : List Bool). x ∷ l) (up_to_any t a b (cc))))

-- so bits in front of a flag that is the first are a stretch
pub is_stretch : (t rest : List Bool) → 0 < length t → up_to_flag (t ++ (flag ++ rest)) ≡ t → Stretch t
is_stretch t rest l e = (l, rw append-nil at (up_to_any t rest [] e))

-- the first flag stands behind what is in front of it
up_to_split : (s : List Bool) → (length (up_to_flag s) ≡ length s → ⊥) → (rest : List Bool) × (s ≡ up_to_flag s ++ (flag ++ rest))
unfolding up_to_flag
up_to_split [] ne = absurd (ne refl)
up_to_split (b ∷ s) ne =
    by_test (begins flag (b ∷ s))
    (λ e. rw e (drop (length flag) (b ∷ s), begins_eq flag (b ∷ s) e))
    (λ e. let r = up_to_split s (λ q. ne (rw e (ap suc q))) in rw e (r.0, ap (λ (l : List Bool). b ∷ l) r.1))

-- ---- neighbouring flags

-- the last of them is the opening one
flags_snoc : (k : ℕ) (s : List Bool) → flags (suc k) ++ s ≡ flags k ++ (flag ++ s)
unfolding flags
flags_snoc zero s = ap (λ (l : List Bool). l ++ s) (append-nil flag)
flags_snoc (suc k) s =
    append_assoc flag (flags (suc k)) s ∙ ap (λ (l : List Bool). flag ++ l) (flags_snoc k s) ∙ sym (append_assoc flag (flags k) (flag ++ s))

-- and the first begins the stream
pub flag_first : (k : ℕ) (s : List Bool) → flags k ++ (flag ++ s) ≡ flag ++ (flags k ++ s)
unfolding flags
flag_first k s = sym (flags_snoc k s) ∙ append_assoc flag (flags k) s

pub past-flags : (k : ℕ) (s : List Bool) → past_flags 0 (flags k ++ s) ≡ past_flags 0 s
unfolding flags past_flags digits begins
past-flags zero s = refl
past-flags (suc k) s = past-flags k s

-- behind them no flag begins
past_none : (k : ℕ) (s : List Bool) → begins flag (past_flags k s) ≡ false
unfolding past_flags
past_none k [] = unfold begins digits in refl
past_none zero (b ∷ s) = by_test (begins flag (b ∷ s)) (λ e. rw e (past_none 7 s)) (λ e. rw e e)
past_none (suc k) (b ∷ s) = past_none k s

flag_taken : (b : Bool) (s : List Bool) → begins flag (b ∷ s) ≡ true → b ∷ s ≡ flag ++ drop 7 s
unfolding digits
flag_taken b s e = begins_eq flag (b ∷ s) e

-- and in front of it stand just flags
pub past_split : (k : ℕ) (s : List Bool) → (m : ℕ) × (drop k s ≡ flags m ++ past_flags k s)
unfolding past_flags flags
past_split zero [] = (0, refl)
past_split (suc k) [] = (0, refl)
past_split zero (b ∷ s) =
    by_test (begins flag (b ∷ s))
    (λ e. let r = past_split 7 s in rw e (
      suc r.0,
      flag_taken b s e ∙ ap (λ (l : List Bool). flag ++ l) r.1 ∙ sym (append_assoc flag (flags r.0) (past_flags 7 s)),
    ))
    (λ e. rw e (0, refl))
past_split (suc k) (b ∷ s) = past_split k s

-- ---- a stretch between two flags

-- so many flags more in front of the opening one, the stretch, the closing flag, and whatever follows
abbrev pub laid : ℕ → List Bool → List Bool → List Bool
laid k t rest = flags k ++ (flag ++ (t ++ (flag ++ rest)))

-- how many bits stand in front of the closing flag
abbrev pub ahead : ℕ → List Bool → ℕ
ahead k t = length (flags k) + 8 + length t

-- what is answered of a stretch, n bits behind the place
abbrev pub judges : List Bool → ℕ → List (Row Outcome)
judges t n =
    row (zero_missing 0 t) (outcome (refused R.ZeroMissing) 0)
    ∷ each (λ a. outcome a n) (body_rows (zeros_out 0 t))

unfoldable pub judged : List Bool → ℕ → Outcome
judged t n = first_of (judges t n) (outcome (accepted (frame_in (zeros_out 0 t))) n)

-- ---- a stream that is laid out so

-- a stretch does not begin with a flag
first_none : (u : List Bool) → 0 < length (up_to_flag u) → begins flag u ≡ false
unfolding up_to_flag
first_none [] h = unfold begins digits in refl
first_none (b ∷ s) h = by_test (begins flag (b ∷ s)) (λ e. let z : 0 < 0 = rw e at h in absurd (omega arith)) (λ e. e)

past_stays : (u : List Bool) → begins flag u ≡ false → past_flags 0 u ≡ u
unfolding past_flags
past_stays [] e = refl
past_stays (b ∷ s) e = rw e

module _ (k : ℕ) (t rest : List Bool) (st : Stretch t) where
  laid_up : up_to_flag (t ++ (flag ++ rest)) ≡ t
  laid_up = up_to_any t [] rest (rw append-nil st.1)

  pub laid_begins : begins flag (laid k t rest) ≡ true
  laid_begins = rw flag_first (begins_append flag _)

  laid_behind : behind_opening (laid k t rest) ≡ t ++ (flag ++ rest)
  laid_behind = rw (← flags_snoc k, past-flags) (past_stays _ (first_none _ (rw laid_up st.0)))

  pub laid_open : length (laid k t rest) - length (behind_opening (laid k t rest)) ≡ length (flags k) + 8
  laid_open = rw laid_behind (simp (length-append, length_digits) (omega arith))

  laid_closing : closing (laid k t rest) ≡ ahead k t
  laid_closing = rw (laid_open, laid_behind, laid_up) refl

  laid_long : length t < length (t ++ (flag ++ rest))
  laid_long = simp (length-append, length_digits) (omega arith)

  laid_some : only_flags (laid k t rest) ≡ false
  unfolding only_flags
  laid_some = rw laid_behind (ne_eqb (length (t ++ (flag ++ rest))) 0 (λ e. omega (arith, laid_long)))

  laid_closed : no_closing_flag (laid k t rest) ≡ false
  unfolding no_closing_flag
  laid_closed = rw (laid_behind, laid_up) (ne_eqb (length t) (length (t ++ (flag ++ rest))) (λ e. omega (arith, laid_long)))

pub read_laid : (k : ℕ) (t rest : List Bool) → Stretch t → read_bits false (laid k t rest) ≡ judged t (ahead k t)
unfolding read_bits judged
read_laid k t rest st =
    rw (
      laid_begins k t rest st,
      laid_some k t rest st,
      laid_closed k t rest st,
      laid_closing k t rest st,
      laid_behind k t rest st,
      laid_up k t rest st,
    )

-- ---- a stream with a closing flag is

pub record Laid (s : List Bool) : Type 0 where
  pub more : ℕ
  pub bits : List Bool
  pub rest : List Bool
  pub whole : s ≡ laid more bits rest
  pub between : Stretch bits

-- behind the opening flag bits come before the closing one
stretch_some : (t rest : List Bool) → begins flag (t ++ (flag ++ rest)) ≡ false → 0 < length t
stretch_some [] rest e = absurd (true≢false (sym (begins_append flag rest) ∙ e))
stretch_some (x ∷ t) rest e = omega arith

pub laid_out : (s : List Bool) → begins flag s ≡ true → no_closing_flag s ≡ false → Laid s
unfolding no_closing_flag flags
laid_out s b c = go (past_split 0 s).0 (past_split 0 s).1
  where
    split : (rest : List Bool) × (behind_opening s ≡ stretch s ++ (flag ++ rest))
    split = up_to_split (behind_opening s) (eqb-false _ _ c)

    go : (m : ℕ) → s ≡ flags m ++ behind_opening s → Laid s
    go zero e = absurd (true≢false (sym b ∙ ap (begins flag) e ∙ past_none 0 s))
    go (suc m) e =
        let t = stretch s in
        record {
          more = m;
          bits = t;
          rest = split.0;
          whole = e ∙ ap (λ (l : List Bool). flags (suc m) ++ l) split.1 ∙ flags_snoc m _;
          between =
              is_stretch t split.0 (stretch_some t split.0 (sym (ap (begins flag) split.1) ∙ past_none 0 s)) (sym (ap up_to_flag split.1));
        }

-- what is answered of one is no refusal that gives the place back, and not the end
pub laid_by : (accepts : Outcome → Bool) → ((q : FrameRefusal) → accepts (outcome (refused q) 0) ≡ false)
    → ((n : ℕ) → accepts (outcome end n) ≡ false) → (over : Bool) (s : List Bool) → accepts (read_bits over s) ≡ true → (over ≡ false) × Laid s
unfolding read_bits
laid_by accepts bad last over s good =
    let h = ((law.accepted_exactly Outcome accepts
    (row (over || not (begins flag s)) (outcome (refused R.CountOrFlag) 0)
    ∷ row (only_flags s) (outcome end (length s))
    ∷ row (zero_missing 0 (stretch s)) (outcome (refused R.ZeroMissing) 0)
    ∷ row (no_closing_flag s) (outcome (refused R.NoClosingFlag) 0)
    ∷ []) _ (read_bits over s) (bad _, (last _, (bad _, (bad _, tt)))) good).0 refl).0 in
    let opens = both_false over (not (begins flag s)) h.0 in
    (opens.0, laid_out s (not-false _ opens.1) h.1.1.1.0)
