use Rattle.std.proofs.Common.{◌<◌, refl, ap, sym, subst, ◌∙◌}
use Rattle.std.specs.FinMap.{len}
use Rattle.page_frames.specs.Marks.{is_dirty, cleaned}
use Rattle.page_frames.specs.Framed.{held_page}
use Rattle.page_frames.specs.Overlay.{marks_over}
use Rattle.page_frames.proofs.Overlays.{dirty_there}
use Rattle.page_pool.specs.Part.{Part}
use Rattle.page_pool.specs.Told.{told_page}
use Rattle.page_pool.proofs.InTurn.{on_err}
use Rattle.page_pool.proofs.OnDisk.{holds_again, shown_again, own_shown, frames_alike, same_unwritten, put_failed, put_done, no_block}
use Rattle.page_pool.proofs.Roomed.{marked_held, marked_frame, held_shown}
use Rattle.page_pool.proofs.Stopped.{flushed_moved, put_moves, torn_put_moves}
use Rattle.page_pool.proofs.partition.Partition.write_page.Goals as goal

pub unreachable-requires : goal.unreachable-requires
unreachable-requires g c =
    let p = c.self.inside in
    let at = c.args.at.now in
    let t = dirty_there p.frames at (ap (λ (x : Part). is_dirty x.marks at.fork at.block) c.self.view_is ∙ c.requires.dirty) in
    no_block (λ page. page.now) c.page.result (held_page p.frames.held at) c.page.ensures (marked_held p.frames.held at t.1) c.in_default.not-Some

pub invariant_of-self : goal.invariant_of-self
invariant_of-self g c =
    let p = c.self.inside in
    let at = c.args.at.now in
    let new = c.write_block.new.self in
    let kept = c.in_err-write_block.ensures.kept in
    let t = dirty_there p.frames at (ap (λ (x : Part). is_dirty x.marks at.fork at.block) c.self.view_is ∙ c.requires.dirty) in
    let there = held_shown (told_page p.disk.relseg (g.V.Vault.files p.disk.area)) p.frames at c.in-Some.page.now t.0 (sym c.in-Some.ensures) in
    holds_again g.V.Vault p c.self.invariant new kept p.frames p.works p.point p.flushed (own_shown g.V.Vault p)
    (put_failed g.V.Vault p c.self.invariant new kept c.args.self.now c.self.view_is at c.in-Some.page.now c.requires there c.in_err-write_block.ensures.torn)

pub returns-in_err-write_block-clause-kept : goal.returns-in_err-write_block-clause-kept
returns-in_err-write_block-clause-kept g c =
    let p = c.self.inside in
    let at = c.args.at.now in
    let new = c.write_block.new.self in
    let kept = c.in_err-write_block.ensures.kept in
    let t = dirty_there p.frames at (ap (λ (x : Part). is_dirty x.marks at.fork at.block) c.self.view_is ∙ c.requires.dirty) in
    let there = held_shown (told_page p.disk.relseg (g.V.Vault.files p.disk.area)) p.frames at c.in-Some.page.now t.0 (sym c.in-Some.ensures) in
    on_err c.from_residual.result _ (same_unwritten g.V.Vault p c.args.self.now c.self.view_is new
    (shown_again g.V.Vault p c.self.invariant new kept p.frames p.works.items (λ other. refl)
    (put_failed g.V.Vault p c.self.invariant new kept c.args.self.now c.self.view_is at c.in-Some.page.now c.requires there c.in_err-write_block.ensures.torn)))

pub clean-requires-clause-there : goal.clean-requires-clause-there
clean-requires-clause-there g c =
    let at = c.args.at.now in
    (dirty_there c.self.inside.frames at (ap (λ (x : Part). is_dirty x.marks at.fork at.block) c.self.view_is ∙ c.requires.dirty)).0

pub clean-requires-clause-held : goal.clean-requires-clause-held
clean-requires-clause-held g c =
    let at = c.args.at.now in
    marked_frame c.self.inside.frames.held at (dirty_there c.self.inside.frames at (ap (λ (x : Part). is_dirty x.marks at.fork at.block) c.self.view_is ∙ c.requires.dirty)).1

pub invariant_of-self-2 : goal.invariant_of-self-2
invariant_of-self-2 g c =
    let p = c.self.inside in
    let at = c.args.at.now in
    let new = c.write_block.new.self in
    let kept = c.in_ok-write_block.ensures.kept in
    let t = dirty_there p.frames at (ap (λ (x : Part). is_dirty x.marks at.fork at.block) c.self.view_is ∙ c.requires.dirty) in
    let there = held_shown (told_page p.disk.relseg (g.V.Vault.files p.disk.area)) p.frames at c.in-Some.page.now t.0 (sym c.in-Some.ensures) in
    holds_again g.V.Vault p c.self.invariant new kept c.clean.new.self p.works p.point p.flushed (λ told. frames_alike (told_page p.disk.relseg (g.V.Vault.files p.disk.area)) p.frames c.clean.new.self c.clean.ensures.pages)
    (put_done g.V.Vault p c.self.invariant new kept c.args.self.now c.self.view_is at c.in-Some.page.now c.requires there c.in_ok-write_block.ensures.put (marks_over c.clean.new.self) c.clean.ensures.marks)

pub returns-clause-written : goal.returns-clause-written
returns-clause-written g c =
    let p = c.self.inside in
    let at = c.args.at.now in
    let new = c.write_block.new.self in
    let kept = c.in_ok-write_block.ensures.kept in
    let t = dirty_there p.frames at (ap (λ (x : Part). is_dirty x.marks at.fork at.block) c.self.view_is ∙ c.requires.dirty) in
    let there = held_shown (told_page p.disk.relseg (g.V.Vault.files p.disk.area)) p.frames at c.in-Some.page.now t.0 (sym c.in-Some.ensures) in
    record {
      frames = shown_again g.V.Vault p c.self.invariant new kept c.clean.new.self p.works.items c.clean.ensures.pages
          (put_done g.V.Vault p c.self.invariant new kept c.args.self.now c.self.view_is at c.in-Some.page.now c.requires there c.in_ok-write_block.ensures.put (marks_over c.clean.new.self) c.clean.ensures.marks)
          ∙ ap (λ (x : Part). x.frames) c.self.view_is;
      works = ap (λ (x : Part). x.works) c.self.view_is ∙ c.requires.none;
      marks = c.clean.ensures.marks ∙ ap (λ (x : Part). cleaned x.marks at) c.self.view_is;
      point = ap (λ (x : Part). x.point) c.self.view_is;
    }

pub returns-clause-fewer : goal.returns-clause-fewer
returns-clause-fewer g c =
    let p = c.self.inside in
    let at = c.args.at.now in
    let t = dirty_there p.frames at (ap (λ (x : Part). is_dirty x.marks at.fork at.block) c.self.view_is ∙ c.requires.dirty) in
    subst (λ (x : Part). len c.clean.new.self.queue < len x.framed.queue) c.self.view_is (c.clean.ensures.shorter t.1)

pub returns-in_err-write_block-clause-moments : goal.returns-in_err-write_block-clause-moments
returns-in_err-write_block-clause-moments g c =
    let p = c.self.inside in
    let new = c.write_block.new.self in
    let e = c.in_err-write_block.ensures in
    flushed_moved g.V.Vault p c.self.invariant new c.args.self.now c.self.view_is _
    (torn_put_moves g.V.Vault p c.self.invariant new c.args.self.now c.self.view_is c.args.at.now c.requires e.events e.torn) p.frames p.works p.point

pub returns-clause-moments : goal.returns-clause-moments
returns-clause-moments g c =
    let p = c.self.inside in
    let new = c.write_block.new.self in
    let e = c.in_ok-write_block.ensures in
    flushed_moved g.V.Vault p c.self.invariant new c.args.self.now c.self.view_is _
    (put_moves g.V.Vault p c.self.invariant new c.args.self.now c.self.view_is c.args.at.now c.in-Some.page.now c.requires e.events e.put) c.clean.new.self p.works p.point
