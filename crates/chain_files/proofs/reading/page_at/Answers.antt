-- A slot is read where it stands.
use Rattle.chain_files.proofs.Told.{reads_refl}
use Rattle.chain_files.proofs.reading.page_at.Goals as goal

pub returns-in-Open-clause-reads : goal.returns-in-Open-clause-reads
returns-in-Open-clause-reads g c = reads_refl g.V.Vault c.args.areas.now
