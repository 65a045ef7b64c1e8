use Rattle.wal_record.specs.Tips.{first_tip}
use Rattle.wal_archive.proofs.Chain.{walks_extended}
use Rattle.wal_archive.proofs.Read.{origin_end}
use Rattle.wal_archive.proofs.laws.what_is_held_is_read.Goals as goal

pub returns : goal.returns
returns c = λ judge mib system old new rs tip some fair arch more walk.
    walks_extended judge mib system old new (first_tip mib) rs tip some fair arch (origin_end mib)
    more walk
