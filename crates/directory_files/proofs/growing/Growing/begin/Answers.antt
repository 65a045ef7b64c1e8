use Rattle.std.proofs.Common.{[]}
use Rattle.backup_files.proofs.Kept.{spares_write}
use Rattle.directory_files.proofs.growing.Growing.begin.Goals as goal

pub returns-clause-spares : goal.returns-clause-spares
returns-clause-spares g c = spares_write g.V.Vault c.args.out.now c.write_at.new.self c.args.path.now [] 0 c.write_at.result c.requires.other c.write_at.ensures.written c.write_at.ensures.memory c.write_at.ensures.failed c.write_at.ensures.cause
