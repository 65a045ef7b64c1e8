use Rattle.std.proofs.Common.{Some, None, box_value, IsSome, refl, sym, ap, subst, ◌≡◌, ◌∙◌}
use Rattle.std.specs.FinMap.{insert}
use Rattle.page_frames.specs.declared.frames.Frame.{Frame}
use Rattle.page_frames.specs.Framed.{Held}
use Rattle.page_frames.specs.Inside.{held_in}
use Rattle.page_frames.proofs.Tables.{frame_missing, frame_found, frame_put}
use Rattle.page_frames.proofs.Holding.{one_frame}
use Rattle.page_frames.proofs.dirty.clean_frame.Goals as goal

pub unreachable-requires : goal.unreachable-requires
unreachable-requires c = frame_missing c.args.frames.now c.args.at.now c.requires c.in_default.ensures.value

pub returns : goal.returns
returns c h there =
    let old = c.in-Some.frame.now in
    let frame : Frame = record { page = old.page; mark = None; used = old.used } in
    let was : Held = record { page = box_value old.page; mark = old.mark; used = old.used } in
    let same : was ≡ h = one_frame was h (sym (frame_found c.args.frames.now c.args.at.now (Some old) c.in-Some.ensures.value) ∙ there) in
    frame_put c.args.frames.now (c.get_mut.follows.lender frame) c.args.at.now (Some frame) ((c.get_mut.follows.holds frame).3 (subst IsSome c.in-Some.ensures.value refl))
    ∙ ap (λ (x : Held). insert (held_in c.args.frames.now) c.args.at.now (record { page = x.page; mark = None; used = x.used })) same
