use Rattle.wal_archive.proofs.Files.{files_archive}
use Rattle.wal_archive.proofs.laws.files_are_an_archive.Goals as goal

pub returns : goal.returns
returns c = files_archive
