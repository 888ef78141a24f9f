-- `frames::flag::Stream::closing` meets its contract: the first flag from p on is the first one from the start on. Assumes nothing.
use mathlib.Core.Path.{◌≡◌, sym, ap, ◌∙◌}
use mathlib.Core.List.{List}
use Prim.Native.Nat.{ℕ, ◌+◌, ◌≤◌}
use native.Mathlib.Nat.{add-zero}
use native.Mathlib.Omega.{arith}
use lib.ListN.{length}
use Rattle.bits.specs.Bits.{bits_of}
use Rattle.frames.specs.Reading.{up_to_flag, stream_at}
use Rattle.frames.specs.Steps.{NoFlags}
use Rattle.frames.proofs.Flagged.{flag_is, up-to-flag, up_to_end}
use Rattle.frames.proofs.Windows.{up_to_clear}
use Rattle.frames.proofs.flag.Stream.closing.Goals as goal
use Rattle.frames.proofs.flag.Stream.closing.Goals.{After-near-place}
use Rattle.frames.proofs.flag.Stream.closing.Invariants.{Sought}

-- as many bits of a window as are left
record Left (count p n : ℕ) : Type 0 where
  pub few : 6 ≤ n
  pub many : n ≤ 57
  pub room : p + n + 2 ≤ count

module _ {b : List ℕ} {count from p : ℕ} (s : Sought b count from p) where
  -- by what the window shows and by its bits it goes on
  on : (q r : ℕ) → p ≤ q → q ≤ r → r + 7 ≤ count → NoFlags b p q → NoFlags b q r → Sought b count from r
  on q r h k l x y =
      record {
        within = omega arith;
        same = sym (up_to_clear b count p q h (omega arith) x ∙ up_to_clear b count q r k l y) ∙ s.same;
      }

  -- it ends here
  here : p + 8 ≤ count → bits_of b p 8 ≡ 0x7E → p ≡ from + length (up_to_flag (stream_at b count from))
  here h e =
      let z : length (up_to_flag (stream_at b count p)) ≡ 0 = ap length (up-to-flag _ (flag_is b count p (omega arith) e)) in
      sym (add-zero p) ∙ ap (λ (k : ℕ). p + k) (sym z) ∙ s.same

left : (c : After-near-place) → Left c.args.self.count c.loop-p.p c.min-n.result
left c = record { few = omega arith; many = omega arith; room = omega arith }

-- where the two steps of a turn lead
come : (c : After-near-place) → Sought c.args.self.bytes.now c.args.self.count c.args.from c.near-place.result
come c =
    let k = left c in
    let x = c.clear.ensures in
    let y = c.near-place.ensures in
    on c.loop-p.invariant _ _ (omega arith) y.0 (omega (arith, y.1)) x.1 y.2

pub returns-then-place-to : goal.returns-then-place-to
returns-then-place-to c =
    let k = left ((goal.at.returns-then-place-to c).After-near-place) in
    here (come ((goal.at.returns-then-place-to c).After-near-place)) (omega (arith, c.near-place.ensures.1)) (c.near-place.ensures.3 c.if-place-to.true)

pub loop-p-preserved : goal.loop-p-preserved
loop-p-preserved c = come ((goal.at.loop-p-preserved c).After-near-place)

pub returns : goal.returns
returns c = sym (up_to_end _ _ _ c.loop-p.invariant.within (omega (arith, c.loop-p-test.false))) ∙ c.loop-p.invariant.same
