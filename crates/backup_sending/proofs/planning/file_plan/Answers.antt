use Rattle.std.proofs.Common.{◌≡◌, ℕ, ◌*◌, ap, arith}
use Rattle.backup_sending.proofs.Segments.{full_before}
use Rattle.backup_sending.proofs.planning.file_plan.Goals as goal

pub overflow_mul-first : goal.overflow_mul-first
overflow_mul-first c =
    let room = full_before c.args.basis.now.relseg c.args.fork.now.blocks c.args.seg (omega arith) c.requires.seg in
    let e : c.args.seg * c.relseg-relseg.result ≡ c.args.seg * c.args.basis.now.relseg = ap (λ (n : ℕ). c.args.seg * n) c.relseg-relseg.ensures in
    omega (arith, room, e)
