-- Files stand.
use Rattle.stream_laws.proofs.FilesStand.{files_stand, none_else}
use Rattle.stream_laws.proofs.files_stand.Goals as goal

pub returns-clause-stand : goal.returns-clause-stand
returns-clause-stand c = files_stand

pub returns-clause-none : goal.returns-clause-none
returns-clause-none c = none_else
