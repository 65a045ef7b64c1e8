-- A directory that is an incremental backup of a history.
use Rattle.std.specs.Prelude.{◌≡◌, ℕ, List, map}
use Rattle.lsn_core.specs.Files.{Files}
use Rattle.lsn_core.specs.declared.ids.ForkLen.{ForkLen}
use Rattle.history.specs.Entry.{Entry}
use Rattle.history.specs.fuzzy_copies.Summary.{summary_of}
use Rattle.wal_summary.specs.Summary.{IsSummary}
use Rattle.backup_sending.specs.declared.basis.Basis.{Basis}
use Rattle.backup_files.specs.Directory.{directory_with}
use Rattle.backup_sending.specs.Sent.{SentFile, AreListed, AreSent, file_of}

-- a directory's files are those of the forks that were listed while a history was written, from one
-- place to another, each as it is planned; beside them it has a label and a manifest, and no
-- others. The plans are by the summary of the history's entries from an earlier place on up to the
-- first one, and by any prior manifest
pub record IsIncrementOf
    (history : List Entry) (place from to : ℕ) (basis : Basis) (files : Files)
    : Type 0 where
  pub summed : IsSummary (summary_of history place from) basis.summary.forks
  pub list : List ForkLen
  pub listed : AreListed (Unit {0}) history from to list
  pub sent : List SentFile
  pub are_sent : AreSent (Unit {0}) history from to basis list sent
  pub label : List ℕ
  pub manifest : List ℕ
  pub are : files ≡ directory_with (map file_of sent) label manifest
