-- A patched page has a good header, and zeros in its hole.
use Rattle.std.proofs.Common.{◌≡◌, List, ◌∙◌, ap, sym, subst}
use Rattle.std.specs.List.{All}
use Rattle.pg_page.specs.Header.{IsGood, hole_zeroed}
use Rattle.pg_page.specs.Frags.{Fragment, written_frags}
use Rattle.pg_page.proofs.PatchLaws.{Fits, frags_fit, good_told}
use Rattle.history.specs.Apply.{page_at}
use Rattle.page_frames.specs.Overlay.{own_pages}
use Rattle.page_pool.proofs.Making.{zeroed_page}
use Rattle.page_pool.proofs.kinds.patched_page.Goals as goal

pub write_frags-requires : goal.write_frags-requires
write_frags-requires c = subst (All Fits) (sym c.as_slice.ensures) (frags_fit c.args.frags.now c.requires.good)

pub zero_hole-requires : goal.zero_hole-requires
zero_hole-requires c =
    let written : c.write_frags.new.page ≡ written_frags c.args.frags.now (page_at (own_pages c.args.frames.now) c.args.at.now) =
    c.write_frags.ensures ∙ ap (λ (fs : List Fragment). written_frags fs c.deref_mut.result.now) c.as_slice.ensures
    ∙ ap (written_frags c.args.frags.now) (c.deref_mut.ensures.value ∙ c.in_ok-copy.ensures) in
    subst IsGood (sym (c.deref_mut-2.ensures.value ∙ written)) (good_told (written_frags c.args.frags.now (page_at (own_pages c.args.frames.now) c.args.at.now)) c.requires.header)

pub returns-clause-writable : goal.returns-clause-writable
returns-clause-writable c =
    let written : c.write_frags.new.page ≡ written_frags c.args.frags.now (page_at (own_pages c.args.frames.now) c.args.at.now) =
    c.write_frags.ensures ∙ ap (λ (fs : List Fragment). written_frags fs c.deref_mut.result.now) c.as_slice.ensures
    ∙ ap (written_frags c.args.frags.now) (c.deref_mut.ensures.value ∙ c.in_ok-copy.ensures) in
    zeroed_page (written_frags c.args.frags.now (page_at (own_pages c.args.frames.now) c.args.at.now)) c.zero_hole.new.page (good_told (written_frags c.args.frags.now (page_at (own_pages c.args.frames.now) c.args.at.now)) c.requires.header)
    (c.zero_hole.ensures ∙ ap hole_zeroed (c.deref_mut-2.ensures.value ∙ written))
