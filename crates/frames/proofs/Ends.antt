-- Where the reader tells the end, and what a refused call of the writer leaves: the claims EndExactly and RefusedStays. Assumes nothing.
use Prim.Native.Nat.{ℕ, zero, suc}
use mathlib.Core.Path.{◌≡◌, refl, sym, ap, ◌∙◌}
use mathlib.Core.Bool.{Bool, true, false, not}
use mathlib.Core.List.{List, [], ◌∷◌, ◌++◌, append-nil}
use mathlib.Core.Logic.{inl, inr}
use native.Mathlib.Omega.{arith}
use Rattle.std.proofs.Common.{Ok, Err}
use borrow.Author.Tests.{eqb-true, not-false}
use lib.Dec.{eqb}
use lib.ListN.{length}
use Rattle.rows.specs.Claims.{FirstIs}
use Rattle.rows.proofs.Claims as law
use Rattle.fields.proofs.Puts.{both_false}
use Rattle.frames.specs.declared.FrameRefusal.{FrameRefusal}
use Rattle.frames.specs.Stream.{digits}
use Rattle.frames.specs.Frame.{Frame, flag}
use Rattle.frames.specs.Reading.{accepted, refused, end, Outcome, outcome, begins, past_flags, only_flags, body_in, closing, frame_in, read_rows, read_bits}
use Rattle.frames.specs.Writing.{Wrote, refused_at, given, write_rows, left_as}
use Rattle.frames.specs.Lists.{flags}
use Rattle.frames.specs.Claims.{EndExactly, RefusedStays}
use Rattle.frames.proofs.Tests.{differ}
use Rattle.frames.proofs.Numbered.{begins_append}
use Rattle.frames.proofs.Refused.{reads, writer_refuses}
use Rattle.frames.proofs.Flags.{past-flags, past_split}

-- ---- the end

none_left : (s : List Bool) → length s ≡ 0 → s ≡ []
none_left [] e = refl
none_left (b ∷ s) e = absurd (omega arith)

-- a refusal is not the end
not_end : {X : Type 0} (q : FrameRefusal) (m n : ℕ) → outcome (refused q) m ≡ outcome end n → X
not_end q m n e = absurd (let z : ◌≡◌ {A = ℕ} 0 1 = cc (ap (λ (o : Outcome). o.answer) e) in omega arith)

no_flags : begins flag (flags 0) ≡ false
unfolding flags begins digits
no_flags = refl

-- flags and nothing behind them
only : (s : List Bool) → begins flag s ≡ true → only_flags s ≡ true → (k : ℕ) × (s ≡ flags (suc k))
unfolding only_flags
only s h e =
    let r = past_split 0 s in
    let z = none_left (past_flags 0 s) (eqb-true _ _ e) in
    some r.0 (r.1 ∙ ap (λ (t : List Bool). flags r.0 ++ t) z ∙ append-nil (flags r.0))
  where
    some : (m : ℕ) → s ≡ flags m → (k : ℕ) × (s ≡ flags (suc k))
    some zero p = differ (sym h ∙ ap (begins flag) p ∙ no_flags)
    some (suc m) p = (m, p)

flagged : (k : ℕ) → begins flag (flags (suc k)) ≡ true
unfolding flags
flagged k = begins_append flag (flags k)

nothing_else : (k : ℕ) → only_flags (flags k) ≡ true
unfolding only_flags
nothing_else k =
    let e : past_flags 0 (flags k) ≡ [] = ap (past_flags 0) (sym (append-nil (flags k))) ∙ past-flags k [] ∙ unfold past_flags in refl in
    ap (λ (t : List Bool). eqb (length t) 0) e

ends : (over : Bool) (s : List Bool) (n : ℕ) → FirstIs (read_rows over s) (outcome end n) → (over ≡ false) × ((k : ℕ) × (s ≡ flags (suc k))) × (n ≡ length s)
ends over s n (inl h) = not_end _ _ n h.1
ends over s n (inr (h, inl e)) =
    let r = both_false over (not (begins flag s)) h in
    (r.0, only s (not-false _ r.1) e.0, sym (ap (λ (o : Outcome). o.on) e.1))
ends over s n (inr (h, inr (_, inl e))) = not_end _ _ n e.1
ends over s n (inr (h, inr (_, inr (_, inl e)))) = not_end _ _ n e.1
ends over s n (inr (h, inr (_, inr (_, inr (_, inl e))))) = not_end _ _ n e.1
ends over s n (inr (h, inr (_, inr (_, inr (_, inr (_, inl e)))))) = not_end _ _ n e.1
ends over s n (inr (h, inr (_, inr (_, inr (_, inr (_, inr (_, inl e))))))) = not_end _ _ n e.1
ends over s n (inr (h, inr (_, inr (_, inr (_, inr (_, inr (_, inr (_, e)))))))) = absurd e

pub end_exactly : EndExactly
unfolding read_bits
end_exactly over s n = (
  λ e. ends over s n ((law.refused_exactly Outcome reads (read_rows over s) (outcome (accepted (frame_in (body_in s))) (closing s)) (outcome end n) refl refl).0 e),
  λ h. let k = h.1.0 in rw (h.0, h.2, h.1.1, flagged k, nothing_else (suc k)) refl,
)

-- ---- a refused call

abbrev given_back : Wrote → ℕ
given_back (Ok p) = p
given_back (Err e) = e.place

back : (len count place : ℕ) (field : List ℕ) (n : ℕ) (f : Frame) (q : FrameRefusal) (p : ℕ) → FirstIs (write_rows len count place field n f) (refused_at q p) → p ≡ place
back len count place field n f q p (inl h) = sym (ap given_back h.1)
back len count place field n f q p (inr (_, inl h)) = sym (ap given_back h.1)
back len count place field n f q p (inr (_, inr (_, inl h))) = sym (ap given_back h.1)
back len count place field n f q p (inr (_, inr (_, inr (_, h)))) = absurd h

pub refused_stays : RefusedStays
refused_stays bytes count place way control field n q p exit w =
    let f = given way control field n in (
      back (length bytes) count place field n f q p ((writer_refuses (length bytes) count place way control field n q p).0 (sym w.answers)),
      w.leaves ∙ ap (λ (a : Wrote). left_as a bytes place f) (sym w.answers),
    )
