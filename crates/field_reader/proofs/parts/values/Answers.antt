-- `field_reader::parts::values` meets its contract: after i turns the first i values are those of the first i parts. Assumes nothing.
use borrow.Author.Rules.{rules}
use mathlib.Core.Path.{◌≡◌, refl, sym, ◌∙◌}
use mathlib.Core.List.{[], ◌∷◌, ◌++◌}
use Prim.Native.Nat.{◌+◌}
use native.Mathlib.Numerals.{add-one}
use native.Mathlib.Omega.{arith}
use lib.ListN.{length, take, get_or, replicate, length-set, get_or-eq_default}
use lib.Seq.{take-suc, take-suc-set, get_or-set_other}
use Rattle.bits.proofs.Laws.{whole}
use Rattle.fields.specs.Table.{values_of}
use Rattle.fields.proofs.Rounds.{values_of_snoc, sum_join}
use Rattle.field_reader.proofs.Values.{values-are, zeros_at}
use Rattle.field_reader.proofs.parts.values.Goals as goal

pub loop-i-init : goal.loop-i-init
unfolding values_of
loop-i-init c =
    let a = c.args in
    let n : length a.widths ≡ 11 = search rules in
    let t : take 1 a.widths ≡ get_or a.widths 0 0 ∷ [] = take-suc a.widths 0 0 (omega arith) in (
      refl,
      omega (arith, c.requires.2 0),
      rw t (omega arith),
      rw (t, c.requires.1) refl,
      λ k h. get_or-set_other (replicate 11 0) 0 k _ 0 (λ e. omega arith) ∙ zeros_at 11 k,
    )

pub returns-then-w-eq0 : goal.returns-then-w-eq0
returns-then-w-eq0 c =
    let l = c.loop-i in
    let a = c.args in
    let n : length a.widths ≡ 11 = search rules in
    values-are a.b.now a.before a.widths l.v l.i (omega (arith, l.invariant.0)) l.invariant.3 l.invariant.4 (λ k h. c.requires.3 l.i k h (sym c.from-w.ensures ∙ c.if-w-eq0.true))

pub loop-i-preserved : goal.loop-i-preserved
loop-i-preserved c =
    let l = c.loop-i in
    let a = c.args in
    let w = get_or a.widths l.i 0 in
    let n : length a.widths ≡ 11 = search rules in
    let t : take (l.i + 1) a.widths ≡ take l.i a.widths ++ (w ∷ []) = rw add-one (take-suc a.widths l.i 0 (omega arith)) in (
      simp length-set l.invariant.0,
      omega (arith, c.requires.2 l.i),
      rw (t, sum_join) (omega (arith, l.invariant.2)),
      rw (t, values_of_snoc, ← l.invariant.2, ← l.invariant.3, ← c.from-w.ensures, ← whole a.b.now l.at c.from-w.result (omega (arith, c.from-w.ensures, c.requires.2 l.i)), ← c.read.ensures, add-one) (take-suc-set l.v l.i _ (omega arith)),
      λ k h. get_or-set_other l.v l.i k _ 0 (λ e. omega arith) ∙ l.invariant.4 k (omega arith),
    )

pub returns : goal.returns
returns c =
    let l = c.loop-i in
    let a = c.args in
    let n : length a.widths ≡ 11 = search rules in
    values-are a.b.now a.before a.widths l.v l.i (omega (arith, l.invariant.0)) l.invariant.3 l.invariant.4 (λ k h. get_or-eq_default a.widths 0 (omega arith))
