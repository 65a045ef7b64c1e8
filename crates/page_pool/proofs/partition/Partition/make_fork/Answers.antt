use Rattle.std.proofs.Common.{refl}
use Rattle.page_pool.specs.declared.work.Work.TheVariants.{Make}
use Rattle.page_pool.proofs.OnDisk.{holds_again, shown_again, own_shown, work_done, same_unwritten, make_failed, make_done}
use Rattle.page_pool.proofs.InTurn.{on_err}
use Rattle.page_pool.proofs.Stopped.{flushed_moved, make_moves, torn_make_moves}
use Rattle.page_pool.proofs.partition.Partition.make_fork.Goals as goal

pub invariant_of-self : goal.invariant_of-self
invariant_of-self g c =
    let p = c.self.inside in
    let new = c.make.new.self in
    let kept = c.in_err-make.ensures.kept in
    holds_again g.V.Vault p c.self.invariant new kept p.frames p.works p.point p.flushed (own_shown g.V.Vault p)
    (make_failed g.V.Vault p c.self.invariant new kept c.args.self.now c.self.view_is c.args.fork.now c.requires c.in_err-make.ensures.torn)

pub returns-in_err-make-clause-kept : goal.returns-in_err-make-clause-kept
returns-in_err-make-clause-kept g c =
    let p = c.self.inside in
    let new = c.make.new.self in
    let kept = c.in_err-make.ensures.kept in
    on_err c.from_residual.result _ (same_unwritten g.V.Vault p c.args.self.now c.self.view_is new
    (shown_again g.V.Vault p c.self.invariant new kept p.frames p.works.items (λ other. refl)
    (make_failed g.V.Vault p c.self.invariant new kept c.args.self.now c.self.view_is c.args.fork.now c.requires c.in_err-make.ensures.torn)))

pub invariant_of-self-2 : goal.invariant_of-self-2
invariant_of-self-2 g c =
    let p = c.self.inside in
    let new = c.make.new.self in
    let kept = c.in_ok-make.ensures.kept in
    holds_again g.V.Vault p c.self.invariant new kept p.frames c.remove.new.self p.point p.flushed (own_shown g.V.Vault p)
    (make_done g.V.Vault p c.self.invariant new kept c.args.self.now c.self.view_is c.args.fork.now c.requires c.in_ok-make.ensures.there c.remove.new.self.items c.remove.ensures.items)

pub returns-clause-made : goal.returns-clause-made
returns-clause-made g c =
    let p = c.self.inside in
    let new = c.make.new.self in
    let kept = c.in_ok-make.ensures.kept in
    let shown = shown_again g.V.Vault p c.self.invariant new kept p.frames c.remove.new.self.items (λ other. refl)
    (make_done g.V.Vault p c.self.invariant new kept c.args.self.now c.self.view_is c.args.fork.now c.requires c.in_ok-make.ensures.there c.remove.new.self.items c.remove.ensures.items) in
    let d = work_done g.V.Vault p c.args.self.now c.self.view_is new (Make c.args.fork.now) c.requires c.remove.new.self c.remove.ensures.items shown in
    record { frames = d.frames; point = d.point; next = d.next }

pub returns-in_err-make-clause-moments : goal.returns-in_err-make-clause-moments
returns-in_err-make-clause-moments g c =
    let p = c.self.inside in
    let new = c.make.new.self in
    let e = c.in_err-make.ensures in
    flushed_moved g.V.Vault p c.self.invariant new c.args.self.now c.self.view_is _
    (torn_make_moves g.V.Vault p c.self.invariant new c.args.self.now c.self.view_is c.args.fork.now c.requires e.events e.torn) p.frames p.works p.point

pub returns-clause-moments : goal.returns-clause-moments
returns-clause-moments g c =
    let p = c.self.inside in
    let new = c.make.new.self in
    let e = c.in_ok-make.ensures in
    flushed_moved g.V.Vault p c.self.invariant new c.args.self.now c.self.view_is _
    (make_moves g.V.Vault p c.self.invariant new c.args.self.now c.self.view_is c.args.fork.now c.requires e.events e.there) p.frames c.remove.new.self p.point
