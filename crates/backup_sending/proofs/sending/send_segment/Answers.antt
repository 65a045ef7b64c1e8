use Rattle.std.proofs.Common.{◌≡◌, ℕ, ◌+◌, ◌*◌, ◌-◌, ◌^◌, ◌<◌, min, true, [], ◌∷◌, sym, ap, subst, ◌∙◌, arith}
use Rattle.std.specs.List.{AllByRecursion}
use Rattle.incr_file.specs.Plan.{IsPlan}
use Rattle.backup_sending.specs.Inside.{PutsSegment}
use Rattle.backup_sending.specs.Sent.{segment_plan}
use Rattle.backup_sending.specs.Sending.{SendsFiles}
use Rattle.backup_files.proofs.Passed.{on_ok_more}
use Rattle.backup_sending.proofs.Planned.{head_within}
use Rattle.backup_sending.proofs.Segments.{full_before}
use Rattle.backup_sending.proofs.SentFiles.{incr_sent, whole_sent}
use Rattle.backup_sending.proofs.sending.send_segment.Goals as goal

pub overflow_mul-first : goal.overflow_mul-first
overflow_mul-first g c =
    let room = full_before c.args.basis.now.relseg c.args.fork.now.blocks c.args.seg (omega arith) c.requires.seg in
    let e : c.args.seg * c.relseg-relseg.result ≡ c.args.seg * c.args.basis.now.relseg = ap (λ (n : ℕ). c.args.seg * n) c.relseg-relseg.ensures in
    omega (arith, room, e)

pub send_part-requires-clause-within : goal.send_part-requires-clause-within
send_part-requires-clause-within g c = λ κs lives.
    let relseg = c.args.basis.now.relseg in
    let blocks = c.args.fork.now.blocks in
    let room = full_before relseg blocks c.args.seg (omega arith) c.requires.seg in
    let e : c.args.seg * c.relseg-relseg.result ≡ c.args.seg * relseg = ap (λ (n : ℕ). c.args.seg * n) c.relseg-relseg.ensures in
    let within : c.args.seg * relseg + min relseg (blocks - c.args.seg * relseg) < 2 ^ 32 = omega (arith, room) in
    subst (λ (n : ℕ). AllByRecursion (λ (b : ℕ). n + b < 2 ^ 32) c.in-Incr.head.blocks) (sym e)
    (head_within (c.args.seg * relseg) (min relseg (blocks - c.args.seg * relseg)) c.in-Incr.head within (subst (IsPlan (min relseg (blocks - c.args.seg * relseg))) c.in-Incr.is c.in_ok-file_plan.ensures.head))

pub returns-in-Whole-clause-sent : goal.returns-in-Whole-clause-sent
returns-in-Whole-clause-sent g c =
    on_ok_more c.copy_segment.result (PutsSegment (g.J.OfStore.tells ≡ true) c.copy_segment.new.pass.list c.args.from.0 c.relseg-relseg.result c.args.fork.now c.args.seg c.args.modified.now (g.V.Vault.files c.args.out.now) (g.V.Vault.files c.copy_segment.new.out) c.args.rows.now.items c.copy_segment.new.rows.items)
    (SendsFiles (g.J.OfStore.tells ≡ true) c.copy_segment.new.pass.list c.args.from.0 (segment_plan c.args.basis.now c.args.fork.now c.args.seg ∷ []) c.args.modified.now (g.V.Vault.files c.args.out.now) (g.V.Vault.files c.copy_segment.new.out) c.args.rows.now.items c.copy_segment.new.rows.items)
    (λ puts.
    whole_sent (g.J.OfStore.tells ≡ true) c.copy_segment.new.pass.list c.args.from.0 c.args.basis.now c.args.fork.now c.args.seg c.args.modified.now (g.V.Vault.files c.args.out.now) (g.V.Vault.files c.copy_segment.new.out) c.args.rows.now.items c.copy_segment.new.rows.items c.requires.relseg
    (sym c.in-Whole.is ∙ c.in_ok-file_plan.ensures.plan)
    (subst (λ (n : ℕ). PutsSegment (g.J.OfStore.tells ≡ true) c.copy_segment.new.pass.list c.args.from.0 n c.args.fork.now c.args.seg c.args.modified.now (g.V.Vault.files c.args.out.now) (g.V.Vault.files c.copy_segment.new.out) c.args.rows.now.items c.copy_segment.new.rows.items) c.relseg-relseg.ensures puts))
    c.copy_segment.ensures.put

pub returns-in-Incr-clause-sent : goal.returns-in-Incr-clause-sent
returns-in-Incr-clause-sent g c =
    on_ok_more c.send_part.result _
    (SendsFiles (g.J.OfStore.tells ≡ true) c.send_part.new.pass.list c.args.from.0 (segment_plan c.args.basis.now c.args.fork.now c.args.seg ∷ []) c.args.modified.now (g.V.Vault.files c.args.out.now) (g.V.Vault.files c.send_part.new.out) c.args.rows.now.items c.send_part.new.rows.items)
    (λ sends.
    incr_sent (g.J.OfStore.tells ≡ true) c.send_part.new.pass.list c.args.from.0 c.args.basis.now c.args.fork.now c.args.seg _ c.in-Incr.head c.args.modified.now (g.V.Vault.files c.args.out.now) (g.V.Vault.files c.send_part.new.out) c.args.rows.now.items c.send_part.new.rows.items
    (sym c.in-Incr.is ∙ c.in_ok-file_plan.ensures.plan) (ap (λ (n : ℕ). c.args.seg * n) c.relseg-relseg.ensures) sends)
    c.send_part.ensures.sent
