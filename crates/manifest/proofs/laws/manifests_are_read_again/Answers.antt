use Rattle.manifest.proofs.Again.{written_is_read}
use Rattle.manifest.proofs.Once.{read_once}
use Rattle.manifest.proofs.Versions.{versions_tell}
use Rattle.manifest.proofs.laws.manifests_are_read_again.Goals as goal

pub returns-clause-written : goal.returns-clause-written
returns-clause-written c = written_is_read

pub returns-clause-one : goal.returns-clause-one
returns-clause-one c = read_once

pub returns-clause-versions : goal.returns-clause-versions
returns-clause-versions c = versions_tell
