-- `listing::step` meets its contract: its tests in their order, and then the outcome at the place. Assumes nothing.
use mathlib.Core.Path.{◌≡◌, refl, ap, sym, ◌∙◌}
use Rattle.listing.specs.Walking.{Astray, step_on, step_at}
use Rattle.listing.proofs.Bounded.{within}
use Rattle.listing.proofs.Telling.{is_done, is_long, is_odd, is_beyond, is_over, is_more, is_read}
use Rattle.listing.proofs.step.Goals as goal
use Rattle.listing.proofs.step.Goals.{then-n-walk-via-then-n-walk, then-n-walk-via-else-n-walk+then-walk-2, then-n-walk-via-else-n-walk+else-walk-2+then-walk-3}

pub returns-then-walk : goal.returns-then-walk
returns-then-walk c = rw (is_done c.args.recording.now c.args.walk c.if-walk.true) (record { text = c.requires; walk = refl })

pub returns-then-recording-gt-MOST_BYTES : goal.returns-then-recording-gt-MOST_BYTES
returns-then-recording-gt-MOST_BYTES c =
    rw (is_long c.args.recording.now c.args.walk c.if-walk.false c.if-recording-gt-MOST_BYTES.true)
    (record { text = rw (c.text.ensures.is, c.requires) refl; walk = rw c.closed.ensures refl })

pub returns-then-recording-eq1 : goal.returns-then-recording-eq1
returns-then-recording-eq1 c =
    rw (is_odd c.args.recording.now c.args.walk c.if-walk.false c.if-recording-gt-MOST_BYTES.false c.if-recording-eq1.true)
    (record { text = rw (c.text-then-recording-eq1.ensures.is, c.requires) refl; walk = rw c.closed-then-recording-eq1.ensures refl })

pub returns-then-n-walk : goal.returns-then-n-walk
returns-then-n-walk c =
    let bs = c.args.recording.now in
    let w = c.args.walk in
    let d = c.if-walk.false in
    let s = c.if-recording-gt-MOST_BYTES.false in
    let e = c.if-recording-eq1.false in
    let astray : step_at bs w ≡ Astray = elim c.then-n-walk.branch [
      | then-n-walk-via-then-n-walk x ↦ is_beyond bs w _ d s e refl x.if-n-walk.true
      | then-n-walk-via-else-n-walk+then-walk-2 x ↦ is_over bs w _ d s e refl x.if-n-walk.false x.if-walk-2.true
      | then-n-walk-via-else-n-walk+else-walk-2+then-walk-3 x ↦ is_more bs w _ d s e refl x.if-n-walk.false x.if-walk-2.false x.if-walk-3.true
    ] in
    rw astray (record { text = c.requires; walk = refl })

pub say-requires-clause-within : goal.say-requires-clause-within
say-requires-clause-within c =
    within c.args.recording.now c.args.walk _ c.outcome_at.result c.if-recording-gt-MOST_BYTES.false c.if-recording-eq1.false refl c.if-n-walk.false c.if-walk-2.false c.if-walk-3.false c.outcome_at.ensures

pub returns : goal.returns
returns c =
    let is = is_read c.args.recording.now c.args.walk _ c.if-walk.false c.if-recording-gt-MOST_BYTES.false c.if-recording-eq1.false refl c.if-n-walk.false c.if-walk-2.false c.if-walk-3.false in
    rw (is ∙ ap (step_on _ c.args.walk) (sym c.outcome_at.ensures) ∙ c.say.ensures) (record { text = refl; walk = refl })
