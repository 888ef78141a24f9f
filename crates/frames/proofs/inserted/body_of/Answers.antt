-- `frames::inserted::body_of` meets its contract: what was put so far, and what the bits left come to, are what the whole stretch comes to.
-- Assumes nothing.
use mathlib.Core.Path.{◌≡◌, refl, sym, ap, ◌∙◌}
use mathlib.Core.Bool.{Bool, true}
use mathlib.Core.List.{List, [], ◌++◌, append_assoc, append-nil}
use Prim.Native.Nat.{ℕ, ◌+◌, ◌-◌, ◌≤◌, ◌<◌}
use native.Mathlib.Omega.{arith}
use borrow.Author.Tests.{eq-eqb, ne_eqb}
use lib.Dec.{eqb}
use lib.ListN.{length, length-append}
use Rattle.bits.specs.Bits.{bit_at}
use Rattle.frames.specs.Stream.{bits_from, put_all}
use Rattle.frames.specs.Zeros.{zeros_out, zero_missing}
use Rattle.frames.specs.Reading.{stream_at}
use Rattle.frames.specs.Steps.{RunPut}
use Rattle.frames.specs.declared.inserted.Filled.{Filled}
use Rattle.frames.specs.declared.inserted.Run.{Run}
use Rattle.frames.proofs.Streamed.{length-bits_from, stream_cons, stream_none, stream_join}
use Rattle.frames.proofs.Runs.{run_out, run_missing}
use Rattle.frames.proofs.Filled.{filled, filled_read}
use Rattle.frames.proofs.inserted.body_of.Goals as goal
use Rattle.frames.proofs.inserted.body_of.Invariants.{Done}

-- a run of the body
kept : {N from to n p : ℕ} {b : List ℕ} (old new : Filled N) (run : Run) → Done b from to old.bytes old.count n p → RunPut b p (to - p) n old run new → p < to
    → Done b from to new.bytes new.count run.ones (p + run.bits)
kept {N} {from} {to} {n} {p} {b} old new run d r h =
    let k = run.bits in
    let o = run.ones in
    let w = d.within in
    let i = r.within in
    let xs = bits_from b p k in
    let c = stream_join b to p k (omega arith) in
    record {
      within = (omega (arith, r.counted), omega arith);
      few = r.few;
      done = d.done ++ xs;
      out =
          d.out ∙ ap (λ (s : List Bool). d.done ++ zeros_out n s) c ∙ ap (λ (s : List Bool). d.done ++ s) (run_out n o xs _ r.passes)
          ∙ sym (append_assoc d.done xs (zeros_out o (stream_at b to (p + k))));
      missing = d.missing ∙ ap (zero_missing n) c ∙ run_missing n o xs _ r.passes;
      count_is = r.counted ∙ rw (length-append d.done xs, length-bits_from b p k, sym d.count_is) refl;
      bytes_are = r.put ∙ filled_read 255 d.done old.bytes b old.count p k _ d.bytes_are (sym d.count_is) refl;
    }

module _ {b : List ℕ} {from to : ℕ} {bytes : List ℕ} {count n p : ℕ} (d : Done b from to bytes count n p) where
  -- the next bit is the inserted zero
  dropped : p < to → n ≡ 5 → (bit_at b p ≡ 1 → ⊥) → Done b from to bytes count 0 (p + 1)
  unfolding zeros_out zero_missing
  dropped l e z =
      let f = eq-eqb n 5 e in
      let c = stream_cons b to p l in
      let w = d.within in
      record {
        within = (omega arith, omega arith);
        few = omega arith;
        done = d.done;
        out = d.out ∙ ap (λ (s : List Bool). d.done ++ zeros_out n s) c ∙ rw f refl;
        missing = d.missing ∙ ap (zero_missing n) c ∙ rw (f, ne_eqb (bit_at b p) 1 z) refl;
        count_is = d.count_is;
        bytes_are = d.bytes_are;
      }

  -- it is a one in place of it
  absent : p < to → n ≡ 5 → bit_at b p ≡ 1 → zero_missing 0 (stream_at b to from) ≡ true
  unfolding zero_missing
  absent l e o = d.missing ∙ ap (zero_missing n) (stream_cons b to p l) ∙ rw (eq-eqb n 5 e, eq-eqb (bit_at b p) 1 o) refl

  -- no bit is left
  at_end : to ≤ p → zero_missing 0 (stream_at b to from) ≡ eqb n 5
  unfolding zero_missing
  at_end l = d.missing ∙ ap (zero_missing n) (stream_none b to p l)

  all_done : to ≤ p → zeros_out 0 (stream_at b to from) ≡ d.done
  unfolding zeros_out
  all_done l = d.out ∙ ap (λ (s : List Bool). d.done ++ zeros_out n s) (stream_none b to p l) ∙ append-nil d.done

pub loop-p-init : goal.loop-p-init
unfolding put_all
loop-p-init c =
    record { within = (omega arith, omega arith); few = omega arith; done = []; out = refl; missing = refl; count_is = c.new-body.ensures.1; bytes_are = c.new-body.ensures.0 }

pub returns-then-bit-eq1 : goal.returns-then-bit-eq1
returns-then-bit-eq1 c = absent c.loop-p.invariant c.loop-p-test.true c.if-ones-eq5.true (sym c.bit.ensures.0 ∙ c.if-bit-eq1.true)

pub loop-p-preserved-then-ones-eq5 : goal.loop-p-preserved-then-ones-eq5
loop-p-preserved-then-ones-eq5 c =
    dropped c.loop-p.invariant c.loop-p-test.true c.if-ones-eq5.true (λ e. c.if-bit-eq1.false (c.bit.ensures.0 ∙ e))

pub put_run-run-requires : goal.put_run-run-requires
put_run-run-requires c =
    let few = c.loop-p.invariant.few in
    (omega arith, (omega arith, omega (arith, c.if-ones-eq5.false), omega arith))

pub loop-p-preserved : goal.loop-p-preserved
loop-p-preserved c = kept _ _ _ c.loop-p.invariant c.put_run-run.ensures c.loop-p-test.true

pub returns-then-ones-eq5-2 : goal.returns-then-ones-eq5-2
returns-then-ones-eq5-2 c = at_end c.loop-p.invariant c.loop-p-test.false ∙ eq-eqb _ _ c.if-ones-eq5-2.true

pub returns-else-ones-eq5-2 : goal.returns-else-ones-eq5-2
returns-else-ones-eq5-2 c =
    let d = c.loop-p.invariant in
    let e = all_done d c.loop-p-test.false in
    record {
      none_missing = at_end d c.loop-p-test.false ∙ ne_eqb _ _ c.if-ones-eq5-2.false;
      count_is = d.count_is ∙ ap length (sym e);
      bytes_are = d.bytes_are ∙ ap filled (sym e);
    }
