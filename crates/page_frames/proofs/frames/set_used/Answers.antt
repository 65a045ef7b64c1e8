use Rattle.std.proofs.Common.{◌≡◌, Some, None, box_value, IsSome, refl, sym, ap, subst, ◌∙◌}
use Rattle.std.specs.FinMap.{insert}
use Rattle.page_frames.specs.declared.frames.Frame.{Frame}
use Rattle.page_frames.specs.Framed.{Held, HoldsAlike}
use Rattle.page_frames.specs.Inside.{held_in}
use Rattle.page_frames.proofs.Tables.{frame_found, frame_put}
use Rattle.page_frames.proofs.Holding.{alike_put, one_frame}
use Rattle.page_frames.proofs.frames.set_used.Goals as goal

pub returns-in-Some-clause-alike : goal.returns-in-Some-clause-alike
returns-in-Some-clause-alike c =
    let old = c.in-Some.frame.now in
    let frame : Frame = record { page = old.page; mark = old.mark; used = c.args.used } in
    let held = held_in c.args.frames.now in
    let was : Held = record { page = box_value old.page; mark = old.mark; used = old.used } in
    let is : Held = record { page = box_value old.page; mark = old.mark; used = c.args.used } in
    subst (HoldsAlike held) (sym (frame_put c.args.frames.now (c.get_mut.follows.lender frame) c.args.at.now (Some frame) ((c.get_mut.follows.holds frame).3 (subst IsSome c.in-Some.ensures.value refl))))
    (alike_put held c.args.at.now was is (frame_found c.args.frames.now c.args.at.now (Some old) c.in-Some.ensures.value) refl refl)

pub returns-in-Some-clause-used : goal.returns-in-Some-clause-used
returns-in-Some-clause-used c h there =
    let old = c.in-Some.frame.now in
    let frame : Frame = record { page = old.page; mark = old.mark; used = c.args.used } in
    let was : Held = record { page = box_value old.page; mark = old.mark; used = old.used } in
    let same : was ≡ h = one_frame was h (sym (frame_found c.args.frames.now c.args.at.now (Some old) c.in-Some.ensures.value) ∙ there) in
    frame_put c.args.frames.now (c.get_mut.follows.lender frame) c.args.at.now (Some frame) ((c.get_mut.follows.holds frame).3 (subst IsSome c.in-Some.ensures.value refl))
    ∙ ap (λ (x : Held). insert (held_in c.args.frames.now) c.args.at.now (record { page = x.page; mark = x.mark; used = c.args.used })) same

pub returns-in_default-clause-used : goal.returns-in_default-clause-used
returns-in_default-clause-used c h there = absurd (let nothing : None ≡ Some h = sym (frame_found c.args.frames.now c.args.at.now None c.in_default.ensures.value) ∙ there in cc)
