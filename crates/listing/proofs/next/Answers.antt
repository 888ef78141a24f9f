-- `listing::next` meets its contract: what the call comes to, told of into the buffer. Assumes nothing.
use Rattle.std.proofs.Common.{refl, sym, ◌∙◌, ap, arith}
use Rattle.std.proofs.lemmas.Result.{err_from_is_err_and}
use lib.ListN.{length}
use Rattle.std.specs.Prelude.{Ok}
use Rattle.listing.proofs.Telling.{is_cramped, roomy, line_told, end_told, error_told}
use Rattle.listing.proofs.next.Goals as goal

pub returns-then-out-lt-LONGEST-clause-tells : goal.returns-then-out-lt-LONGEST-clause-tells
returns-then-out-lt-LONGEST-clause-tells c =
    rw (is_cramped (length c.args.out.now) c.args.recording.now c.args.walk c.if-out-lt-LONGEST.true) (record { answers = refl; fits = omega arith; leaves = refl })

pub returns-in_err-next-clause-tells : goal.returns-in_err-next-clause-tells
returns-in_err-next-clause-tells c =
    let p = err_from_is_err_and c.from_residual.result c.from_residual.ensures.1 in
    rw (roomy (length c.args.out.now) c.args.recording.now c.args.walk c.if-out-lt-LONGEST.false, p.1, p.2) (error_told _ _ _ (sym c.step.ensures.walk ∙ c.in_err-next.was))

pub returns-in-Some-clause-tells : goal.returns-in-Some-clause-tells
returns-in-Some-clause-tells c =
    let came = sym c.step.ensures.walk ∙ c.in_ok-next.was ∙ ap Ok c.in-Some.is in
    rw (roomy (length c.args.out.now) c.args.recording.now c.args.walk c.if-out-lt-LONGEST.false)
    (line_told _ _ _ _ _ _ came c.step.ensures.text c.copy_to.ensures.len c.copy_to.ensures.fits c.copy_to.ensures.leaves)

pub returns-in-None-clause-tells : goal.returns-in-None-clause-tells
returns-in-None-clause-tells c =
    let came = sym c.step.ensures.walk ∙ c.in_ok-next.was ∙ ap Ok c.in-None.is in
    rw (roomy (length c.args.out.now) c.args.recording.now c.args.walk c.if-out-lt-LONGEST.false) (end_told _ _ came)
