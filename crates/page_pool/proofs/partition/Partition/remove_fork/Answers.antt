use Rattle.std.proofs.Common.{refl}
use Rattle.page_pool.specs.declared.work.Work.TheVariants.{Remove}
use Rattle.page_pool.proofs.OnDisk.{holds_again, shown_again, own_shown, work_done, same_unwritten, removal_failed, removal_done}
use Rattle.page_pool.proofs.InTurn.{on_err}
use Rattle.page_pool.proofs.Stopped.{flushed_moved, removal_moves, torn_removal_moves}
use Rattle.page_pool.proofs.partition.Partition.remove_fork.Goals as goal

pub invariant_of-self : goal.invariant_of-self
invariant_of-self g c =
    let p = c.self.inside in
    let new = c.remove.new.self in
    let kept = c.in_err-remove.ensures.kept in
    holds_again g.V.Vault p c.self.invariant new kept p.frames p.works p.point p.flushed (own_shown g.V.Vault p)
    (removal_failed g.V.Vault p c.self.invariant new kept c.args.self.now c.self.view_is c.args.fork.now c.requires c.in_err-remove.ensures.torn)

pub returns-in_err-remove-clause-kept : goal.returns-in_err-remove-clause-kept
returns-in_err-remove-clause-kept g c =
    let p = c.self.inside in
    let new = c.remove.new.self in
    let kept = c.in_err-remove.ensures.kept in
    on_err c.from_residual.result _ (same_unwritten g.V.Vault p c.args.self.now c.self.view_is new
    (shown_again g.V.Vault p c.self.invariant new kept p.frames p.works.items (λ other. refl)
    (removal_failed g.V.Vault p c.self.invariant new kept c.args.self.now c.self.view_is c.args.fork.now c.requires c.in_err-remove.ensures.torn)))

pub invariant_of-self-2 : goal.invariant_of-self-2
invariant_of-self-2 g c =
    let p = c.self.inside in
    let new = c.remove.new.self in
    let kept = c.in_ok-remove.ensures.kept in
    holds_again g.V.Vault p c.self.invariant new kept p.frames c.remove-2.new.self p.point p.flushed (own_shown g.V.Vault p)
    (removal_done g.V.Vault p c.self.invariant new kept c.args.self.now c.self.view_is c.args.fork.now c.requires c.in_ok-remove.ensures.away c.remove-2.new.self.items c.remove-2.ensures.items)

pub returns-clause-gone : goal.returns-clause-gone
returns-clause-gone g c =
    let p = c.self.inside in
    let new = c.remove.new.self in
    let kept = c.in_ok-remove.ensures.kept in
    let shown = shown_again g.V.Vault p c.self.invariant new kept p.frames c.remove-2.new.self.items (λ other. refl)
    (removal_done g.V.Vault p c.self.invariant new kept c.args.self.now c.self.view_is c.args.fork.now c.requires c.in_ok-remove.ensures.away c.remove-2.new.self.items c.remove-2.ensures.items) in
    let d = work_done g.V.Vault p c.args.self.now c.self.view_is new (Remove c.args.fork.now) c.requires c.remove-2.new.self c.remove-2.ensures.items shown in
    record { frames = d.frames; point = d.point; next = d.next }

pub returns-in_err-remove-clause-moments : goal.returns-in_err-remove-clause-moments
returns-in_err-remove-clause-moments g c =
    let p = c.self.inside in
    let new = c.remove.new.self in
    let e = c.in_err-remove.ensures in
    flushed_moved g.V.Vault p c.self.invariant new c.args.self.now c.self.view_is _
    (torn_removal_moves g.V.Vault p c.self.invariant new c.args.self.now c.self.view_is c.args.fork.now c.requires e.events e.torn) p.frames p.works p.point

pub returns-clause-moments : goal.returns-clause-moments
returns-clause-moments g c =
    let p = c.self.inside in
    let new = c.remove.new.self in
    let e = c.in_ok-remove.ensures in
    flushed_moved g.V.Vault p c.self.invariant new c.args.self.now c.self.view_is _
    (removal_moves g.V.Vault p c.self.invariant new c.args.self.now c.self.view_is c.args.fork.now c.requires e.events e.away) p.frames c.remove-2.new.self p.point
