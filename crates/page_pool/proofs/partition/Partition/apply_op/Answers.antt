-- The disk lacks what it lacked, and what the command touched.
use Rattle.std.proofs.Common.{sym, subst, refl, arith}
use Rattle.history.specs.Op.{act_of_op}
use Rattle.page_frames.proofs.Overlays.{count_over}
use Rattle.page_pool.specs.Part.{Part}
use Rattle.page_pool.specs.Told.{told_page}
use Rattle.page_pool.specs.Steps.{HasApplied}
use Rattle.page_pool.specs.Partition.{part_in}
use Rattle.page_pool.specs.Ready.{IsReady}
use Rattle.page_pool.proofs.Doing.{ready_may_be_done, ready_is_applied}
use Rattle.page_pool.proofs.Applied.{applied_holds}
use Rattle.page_pool.proofs.partition.Partition.apply_op.Goals as goal

pub finish-requires : goal.finish-requires
finish-requires g c =
    let p = c.self.inside in
    let part = part_in g.V.Vault p in
    ready_may_be_done c.args.end.0 part c.requires.0 c.args.ready (λ q. sym (count_over (told_page p.disk.relseg (g.V.Vault.files p.disk.area)) p.frames q))
    (subst (λ (s : Part). IsReady s c.requires.0 c.args.ready) (sym c.self.view_is) c.requires.1) (omega arith)

pub invariant_of-self : goal.invariant_of-self
invariant_of-self g c =
    let p = c.self.inside in
    let behind = told_page p.disk.relseg (g.V.Vault.files p.disk.area) in
    applied_holds g.V.Vault p c.self.invariant c.finish.new.frames c.finish.new.works c.args.end.0 c.requires.0 c.args.ready (subst (λ (s : Part). IsReady s c.requires.0 c.args.ready) (sym c.self.view_is) c.requires.1) (omega arith)
    (c.finish.ensures.pages behind) (c.finish.ensures.marks behind) (c.finish.ensures.works behind)

pub returns-clause-done : goal.returns-clause-done
returns-clause-done g c = λ op is.
    let p = c.self.inside in
    let behind = told_page p.disk.relseg (g.V.Vault.files p.disk.area) in
    let old = part_in g.V.Vault p in
    let new : Part = part_in {V = g.row.V.Denot} {Q = g.row.Q} g.V.Vault (record { disk = p.disk; frames = c.finish.new.frames; works = c.finish.new.works; point = p.point; flushed = p.flushed }) in
    subst (λ (s : Part). HasApplied c.args.end.0 (act_of_op op) s new) c.self.view_is
    (ready_is_applied c.args.end.0 old new op c.args.ready (subst (λ (s : Part). IsReady s op c.args.ready) (sym c.self.view_is) is) (omega arith) (c.finish.ensures.pages behind) (c.finish.ensures.marks behind) (c.finish.ensures.works behind) refl refl)
