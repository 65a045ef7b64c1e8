use Rattle.chain_files.proofs.Told.{reads_refl}
use Rattle.chain_files.proofs.source.open_file.Goals as goal

pub returns-in_err-paths-clause-reads : goal.returns-in_err-paths-clause-reads
returns-in_err-paths-clause-reads g c = reads_refl g.V.Vault c.args.areas.now
