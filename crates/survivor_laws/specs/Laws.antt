-- Laws of what survives of a WAL.
use Rattle.std.specs.Prelude.{◌≡◌, ℕ, List, ◌++◌}
use Rattle.lsn_core.specs.Files.{Files}
use Rattle.lsn_core.specs.Tip.{Tip}
use Rattle.wal_record.specs.declared.record.Record.{Record}
use Rattle.wal_archive.specs.Archive.{Archive}
use Rattle.wal_archive.specs.Rules.{Judge, Walks}
use Rattle.wal_archive.specs.Writing.{IsChain}
use Rattle.survivor_laws.specs.Survivors.{AreSurvivors, IsStopped, FailsTests, NoneByChance}

-- what survives of entries behind some that are read: the first ones
pub record FirstSurvive (judge : Judge) (mib system : ℕ) (a : Archive) (start : Tip)
    (rs news : List Record) : Type 0 where
  pub done : List Record
  pub behind : List Record
  pub mid : Tip
  pub all : news ≡ done ++ behind
  pub walk : Walks judge mib system a start (rs ++ done) mid
  pub stopped : IsStopped judge mib system a mid
  pub fails : FailsTests judge mib system a mid

-- of entries that were written behind those that are read, the first ones survive, in order and
-- none in part, and all that were read do
abbrev pub SurvivorsAreFirst : Type 0
SurvivorsAreFirst =
    (judge : Judge) (mib system : ℕ) (a : Archive) (start tip last : Tip) (rs news : List Record)
    → Walks judge mib system a start rs tip → IsChain judge mib tip news last
    → NoneByChance judge mib system a tip news → FailsTests judge mib system a last
    → FirstSurvive judge mib system a start rs news

-- files have one list of survivors, with one end
abbrev pub SurvivorsAreOne : Type 0
SurvivorsAreOne =
    (judge : Judge) (mib system : ℕ) (files : Files) (rs others : List Record) (tip end : Tip)
    → AreSurvivors judge mib system files rs tip → AreSurvivors judge mib system files others end
    → (rs ≡ others) × (tip ≡ end)
