-- The path of a segment file, as a caller in C names it.
use Rattle.std.specs.Prelude.{ℕ, Bool, true, false, List}
use Rattle.lsn_core.specs.declared.ids.ForkKind.{ForkKind}
use Rattle.lsn_core.specs.declared.ids.ForkKind.TheVariants.{Main, Init}
use Rattle.lsn_core.specs.declared.ids.ForkId.{ForkId}
use Rattle.lsn_core.specs.Names.{fork_path_bytes}
use Rattle.lsn_core_c.specs.declared.RelationFile.{RelationFile}

abbrev pub kind_of : Bool → ForkKind
kind_of true = Init
kind_of false = Main

abbrev pub fork_of : RelationFile → ForkId
fork_of file = record { rel = record { db = file.db; rel = file.rel }; kind = kind_of file.init }

abbrev pub path_of : RelationFile → List ℕ
path_of file = fork_path_bytes (fork_of file) file.segment file.incremental
