-- `frames::reading::behind_flag` meets its contract: the places of its searches are those of Behind.antt. Assumes nothing.
use mathlib.Core.Path.{◌≡◌, sym, ap, ◌∙◌}
use mathlib.Core.Bool.{Bool}
use mathlib.Core.List.{List}
use Prim.Native.Nat.{◌-◌}
use native.Mathlib.Omega.{arith}
use Rattle.frames.specs.Stream.{bits_from}
use Rattle.frames.specs.Zeros.{zeros_out, zero_missing}
use Rattle.frames.specs.Reading.{stretch, judged_body, stream_at, found_at}
use Rattle.frames.proofs.Flagged.{flag_room}
use Rattle.frames.proofs.Judging.{judged_bits}
use Rattle.frames.proofs.Behind.{Opened, ended, stretch_is, zero-missing, not_closed, closed}
use Rattle.frames.proofs.reading.behind_flag.Goals as goal
use Rattle.frames.proofs.reading.behind_flag.Goals.{After-body_of, After-past_flags-from}

-- what the searches gave
opened : (c : After-past_flags-from) → let a = c.args in Opened a.stream.bytes.now a.stream.count a.place c.past_flags-from.result
opened c =
    let f = c.past_flags-from.ensures in
    record { flagged = c.requires; later = f.0; within = f.1; opens = f.2 }

-- what is known of the stretch holds of the stream's
missing : (c : After-body_of) → let a = c.args in
    zero_missing 0 (stretch (stream_at a.stream.bytes.now a.stream.count a.place)) ≡ zero_missing 0 (bits_from a.stream.bytes.now c.past_flags-from.result (c.closing-to.result - c.past_flags-from.result))
missing c =
    let f = c.past_flags-from.ensures in
    let o : Opened c.args.stream.bytes.now c.args.stream.count c.args.place c.past_flags-from.result =
    record { flagged = c.requires; later = f.0; within = f.1; opens = f.2 } in
    ap (zero_missing 0) (sym (stretch_is o _ c.if-from-count.false c.closing-to.ensures))

pub past_flags-from-requires : goal.past_flags-from-requires
past_flags-from-requires c = omega (arith, flag_room _ _ _ c.requires)

pub returns-then-from-count : goal.returns-then-from-count
returns-then-from-count c = c.nothing.ensures ∙ ended (opened ((goal.at.returns-then-from-count c).After-past_flags-from)) c.if-from-count.true

pub returns-in_default : goal.returns-in_default
returns-in_default c =
    let at = goal.at.returns-in_default c in
    c.nothing-in_default.ensures ∙ zero-missing (opened at.After-past_flags-from) _ c.if-from-count.false c.closing-to.ensures (missing at.After-body_of ∙ c.in_default.ensures)

pub returns-then-to-count : goal.returns-then-to-count
returns-then-to-count c =
    let at = goal.at.returns-then-to-count c in
    c.nothing-then-to-count.ensures
    ∙ not_closed (opened at.After-past_flags-from) _ c.if-from-count.false c.closing-to.ensures (missing at.After-body_of ∙ c.in-Some.ensures.none_missing) c.if-to-count.true

pub returns : goal.returns
returns c =
    let at = goal.at.returns c in
    let o = opened at.After-past_flags-from in
    let b = c.in-Some.ensures in
    let s = stretch_is o _ c.if-from-count.false c.closing-to.ensures in
    let d = judged_bits _ _ _ b.count_is b.bytes_are in
    c.judged.ensures ∙ ap (found_at _) (d ∙ ap (λ (t : List Bool). judged_body (zeros_out 0 t)) s)
    ∙ closed o _ c.if-from-count.false c.closing-to.ensures (missing at.After-body_of ∙ b.none_missing) c.if-to-count.false
