use Rattle.page_pool.proofs.Behind.{clean_disks, lack_nothing}
use Rattle.page_pool.proofs.Followed.{clean_follow}
use Rattle.page_pool.proofs.Ends.{no_next}
use Rattle.page_pool.proofs.laws.clean_partitions_lack_nothing.Goals as goal

pub returns-clause-frames : goal.returns-clause-frames
returns-clause-frames c = clean_disks

pub returns-clause-nothing : goal.returns-clause-nothing
returns-clause-nothing c = lack_nothing

pub returns-clause-followed : goal.returns-clause-followed
returns-clause-followed c = clean_follow

pub returns-clause-next : goal.returns-clause-next
returns-clause-next c = no_next
