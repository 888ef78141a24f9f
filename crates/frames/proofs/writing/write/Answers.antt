-- `frames::writing::write` meets its contract: what it puts is what was decided. Assumes nothing.
use Rattle.frames.proofs.Decided.{places, framed}
use Rattle.frames.proofs.writing.write.Goals as goal

pub put_frame-requires : goal.put_frame-requires
put_frame-requires c =
    let d = c.in_ok-decided.ensures.ok in
    places _ _ _ _ _ _ _ _ _ _ d.closing_is d.between_is

pub returns : goal.returns
returns c = framed _ _ _ _ _ _ _ _ _ _ _ c.in_ok-decided.ensures.ok c.put_frame.ensures
