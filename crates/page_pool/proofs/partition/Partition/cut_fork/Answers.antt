use Rattle.std.proofs.Common.{refl}
use Rattle.page_pool.specs.declared.work.Work.TheVariants.{Cut}
use Rattle.page_pool.proofs.OnDisk.{holds_again, shown_again, own_shown, work_done, same_unwritten, cut_failed, cut_done}
use Rattle.page_pool.proofs.InTurn.{on_err}
use Rattle.page_pool.proofs.Stopped.{flushed_moved, cut_moves, torn_cut_moves}
use Rattle.page_pool.proofs.partition.Partition.cut_fork.Goals as goal

pub invariant_of-self : goal.invariant_of-self
invariant_of-self g c =
    let p = c.self.inside in
    let new = c.cut.new.self in
    let kept = c.in_err-cut.ensures.kept in
    holds_again g.V.Vault p c.self.invariant new kept p.frames p.works p.point p.flushed (own_shown g.V.Vault p)
    (cut_failed g.V.Vault p c.self.invariant new kept c.args.self.now c.self.view_is c.args.fork.now c.args.count c.requires c.in_err-cut.ensures.torn)

pub returns-in_err-cut-clause-kept : goal.returns-in_err-cut-clause-kept
returns-in_err-cut-clause-kept g c =
    let p = c.self.inside in
    let new = c.cut.new.self in
    let kept = c.in_err-cut.ensures.kept in
    on_err c.from_residual.result _ (same_unwritten g.V.Vault p c.args.self.now c.self.view_is new
    (shown_again g.V.Vault p c.self.invariant new kept p.frames p.works.items (λ other. refl)
    (cut_failed g.V.Vault p c.self.invariant new kept c.args.self.now c.self.view_is c.args.fork.now c.args.count c.requires c.in_err-cut.ensures.torn)))

pub invariant_of-self-2 : goal.invariant_of-self-2
invariant_of-self-2 g c =
    let p = c.self.inside in
    let new = c.cut.new.self in
    let kept = c.in_ok-cut.ensures.kept in
    holds_again g.V.Vault p c.self.invariant new kept p.frames c.remove.new.self p.point p.flushed (own_shown g.V.Vault p)
    (cut_done g.V.Vault p c.self.invariant new kept c.args.self.now c.self.view_is c.args.fork.now c.args.count c.requires c.in_ok-cut.ensures.left c.remove.new.self.items c.remove.ensures.items)

pub returns-clause-cut : goal.returns-clause-cut
returns-clause-cut g c =
    let p = c.self.inside in
    let new = c.cut.new.self in
    let kept = c.in_ok-cut.ensures.kept in
    let shown = shown_again g.V.Vault p c.self.invariant new kept p.frames c.remove.new.self.items (λ other. refl)
    (cut_done g.V.Vault p c.self.invariant new kept c.args.self.now c.self.view_is c.args.fork.now c.args.count c.requires c.in_ok-cut.ensures.left c.remove.new.self.items c.remove.ensures.items) in
    let d = work_done g.V.Vault p c.args.self.now c.self.view_is new (Cut c.args.fork.now c.args.count) c.requires c.remove.new.self c.remove.ensures.items shown in
    record { frames = d.frames; point = d.point; next = d.next }

pub returns-in_err-cut-clause-moments : goal.returns-in_err-cut-clause-moments
returns-in_err-cut-clause-moments g c =
    let p = c.self.inside in
    let new = c.cut.new.self in
    let e = c.in_err-cut.ensures in
    flushed_moved g.V.Vault p c.self.invariant new c.args.self.now c.self.view_is _
    (torn_cut_moves g.V.Vault p c.self.invariant new c.args.self.now c.self.view_is c.args.fork.now c.args.count c.requires e.events e.torn) p.frames p.works p.point

pub returns-clause-moments : goal.returns-clause-moments
returns-clause-moments g c =
    let p = c.self.inside in
    let new = c.cut.new.self in
    let e = c.in_ok-cut.ensures in
    flushed_moved g.V.Vault p c.self.invariant new c.args.self.now c.self.view_is _
    (cut_moves g.V.Vault p c.self.invariant new c.args.self.now c.self.view_is c.args.fork.now c.args.count c.requires e.events e.left) p.frames c.remove.new.self p.point
