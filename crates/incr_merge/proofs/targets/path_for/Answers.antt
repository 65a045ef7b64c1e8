use Rattle.chain_files.specs.Told.{chain_told}
use Rattle.chain_files.proofs.Told.{reads_refl}
use Rattle.incr_merge.proofs.Paths.{merged_path}
use Rattle.incr_merge.proofs.targets.path_for.Goals as goal

pub returns-in_err-copied-clause-reads : goal.returns-in_err-copied-clause-reads
returns-in_err-copied-clause-reads g c = reads_refl g.V.Vault c.args.areas.now

pub returns-in_default-clause-reads : goal.returns-in_default-clause-reads
returns-in_default-clause-reads g c = reads_refl g.V.Vault c.args.areas.now

pub returns-clause-path : goal.returns-clause-path
returns-clause-path g c =
    merged_path (chain_told g.V.Vault c.args.areas.now c.args.places.now) c.args.path.now c.in_ok-file_path.field-0 c.in-Some.folder.now c.in-Some.name.now c.in_ok-whole.whole c.in-Some.ensures.placed c.in-Some.ensures.found c.in_ok-whole.ensures.whole c.in_ok-file_path.ensures
