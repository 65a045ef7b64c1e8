use Rattle.std.proofs.Common.{Option, sym, subst}
use Rattle.lsn_core.specs.Files.{Files}
use Rattle.backup_files.specs.Area.{Lacks}
use Rattle.backup_files.specs.Directory.{manifest_name}
use Rattle.backup_files.proofs.Manifests.{left_behind, withdrawn}
use Rattle.backup_files.proofs.publishing.publish.Goals as goal

pub returns-in-Err-clause-left : goal.returns-in-Err-clause-left
returns-in-Err-clause-left g c =
    left_behind g.V.Vault c.args.text.now c.args.out.now c.sync.new.self c.withdraw.new.out c.withdraw.result c.sync.ensures.same c.sync.ensures.cause.later
    (withdrawn g.V.Vault c.args.text.now c.sync.new.self c.write_synced.new.out c.withdraw.new.out c.in-Err.fault c.withdraw.result (subst (λ (o : Option Files). Lacks o manifest_name) (sym c.sync.ensures.same) c.requires)
    c.write_synced.ensures.cause.later c.withdraw.ensures.later c.in-Err.ensures.failed c.withdraw.ensures.withdrawn)
