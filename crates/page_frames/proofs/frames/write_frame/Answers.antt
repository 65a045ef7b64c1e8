use Rattle.std.proofs.Common.{Some, true, IsSome, refl, subst}
use Rattle.page_frames.specs.declared.frames.Frame.{Frame}
use Rattle.page_frames.proofs.Tables.{frame_missing, frame_put}
use Rattle.page_frames.proofs.frames.write_frame.Goals as goal

pub unreachable-requires : goal.unreachable-requires
unreachable-requires c = frame_missing c.args.frames.now c.args.at.now c.requires c.in_default.ensures.value

pub returns : goal.returns
returns c =
    let frame : Frame = record { page = c.args.page; mark = Some c.args.end; used = true } in
    frame_put c.args.frames.now (c.get_mut.follows.lender frame) c.args.at.now (Some frame) ((c.get_mut.follows.holds frame).3 (subst IsSome c.in-Some.ensures.value refl))
