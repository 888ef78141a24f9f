-- `frames::inserted::with_zeros` meets its contract: what was put so far, and what the bits left come to, are what all bits come to.
-- Assumes nothing.
use mathlib.Core.Path.{◌≡◌, refl, sym, ap, ◌∙◌}
use mathlib.Core.Bool.{Bool, false}
use mathlib.Core.List.{List, [], ◌++◌, append_assoc, append-nil}
use Prim.Native.Nat.{ℕ, ◌+◌, ◌-◌, ◌/◌, ◌%◌, ◌≤◌, ◌<◌}
use native.Mathlib.Omega.{arith}
use lib.ListN.{replicate, length-append, length-replicate}
use Rattle.frames.specs.Stream.{bits_from, put_all}
use Rattle.frames.specs.Zeros.{with_zeros}
use Rattle.frames.specs.Steps.{RunPut}
use Rattle.frames.specs.declared.inserted.Filled.{Filled}
use Rattle.frames.specs.declared.inserted.Run.{Run}
use Rattle.frames.proofs.Streamed.{length-bits_from, stream_none, stream_join}
use Rattle.frames.proofs.Runs.{run_in, run_most}
use Rattle.frames.proofs.Filled.{filled_read, filled_zeros, filled_are}
use Rattle.frames.proofs.inserted.with_zeros.Goals as goal
use Rattle.frames.proofs.inserted.with_zeros.Invariants.{Put}

-- a run more
more : {N n ones i : ℕ} {b : List ℕ} (old new : Filled N) (run : Run) → Put b n old.bytes old.count ones i → RunPut b i (n - i) ones old run new → i < n
    → Put b n new.bytes (new.count + run.ones / 5) (run.ones % 5) (i + run.bits)
more {N} {n} {ones} {i} {b} old new run d r h =
    let k = run.bits in
    let o = run.ones in
    let w = d.within in
    let j = r.within in
    let xs = bits_from b i k in
    let zs = replicate (o / 5) false in
    let c = stream_join b n i k (omega arith) in
    let few = r.few in
    let k-is = length-bits_from b i k in
    record {
      within = (omega arith, omega arith, omega (arith, r.counted, run_most ones o xs r.passes, k-is));
      done = (d.done ++ xs) ++ zs;
      comes =
          d.comes ∙ ap (λ (s : List Bool). d.done ++ with_zeros ones s) c
          ∙ ap (λ (s : List Bool). d.done ++ s) (run_in ones o xs _ r.passes w.1 few)
          ∙ sym (simp append_assoc);
      count_is = rw (r.counted, length-append (d.done ++ xs) zs, length-append d.done xs, k-is, length-replicate (o / 5) false, sym d.count_is) (omega arith);
      bytes_are = r.put ∙ filled_read 306 d.done old.bytes b old.count i k _ d.bytes_are (sym d.count_is) refl ∙ sym (filled_zeros 306 (d.done ++ xs) (o / 5));
    }

module _ {b : List ℕ} {n : ℕ} {bytes : List ℕ} {count ones i : ℕ} (d : Put b n bytes count ones i) where
  -- no bit is left
  all_done : n ≤ i → with_zeros 0 (bits_from b 0 n) ≡ d.done
  unfolding with_zeros
  all_done l = d.comes ∙ ap (λ (s : List Bool). d.done ++ with_zeros ones s) (stream_none b n i l) ∙ append-nil d.done

pub loop-i-init : goal.loop-i-init
unfolding put_all
loop-i-init c =
    let a = c.args in
    let e : a.body.now.count - 0 ≡ a.body.now.count = omega arith in
    record { within = (omega arith, omega arith, omega arith); done = []; comes = rw e refl; count_is = c.new-stuffed.ensures.1; bytes_are = c.new-stuffed.ensures.0 }

pub put_run-run-requires : goal.put_run-run-requires
put_run-run-requires c =
    let w = c.loop-i.invariant.within in
    (omega arith, (omega arith, w.1, omega arith))

pub loop-i-preserved : goal.loop-i-preserved
loop-i-preserved c = more _ _ _ c.loop-i.invariant c.put_run-run.ensures c.loop-i-test.true

pub returns : goal.returns
returns c =
    let d = c.loop-i.invariant in
    let w = d.within in
    let few = c.requires in
    let most : c.loop-i.stuffed.count ≤ 2448 = omega arith in
    (filled_are 306 d.done _ _ d.bytes_are (sym d.count_is) (omega arith) ∙ sym (all_done d c.loop-i-test.false), most)
