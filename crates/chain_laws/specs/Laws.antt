-- Laws of chains of backups.
use Rattle.std.specs.Prelude.{◌≤◌, ℕ, max, List, [], ◌∷◌, ◌++◌, Some}
use Rattle.std.specs.FinMap.{empty}
use Rattle.lsn_core.specs.Files.{Files}
use Rattle.lsn_core.specs.Segment.{IsRelseg, StoreSettings}
use Rattle.lsn_core.specs.Store.{Store}
use Rattle.lsn_core.specs.declared.lsn.Lsn.{Lsn}
use Rattle.history.specs.Entry.{Entry}
use Rattle.history.specs.fuzzy_copies.Covers.{AreTidy}
use Rattle.history.specs.fuzzy_copies.Orderly.{IsOrderly}
use Rattle.history.specs.fuzzy_copies.Sound.{IsSoundCopy}
use Rattle.history.specs.fuzzy_copies.Taken.{IsRunning}
use Rattle.chain_files.specs.Held.{IsStoreOfChain}
use Rattle.chain_files.specs.Segments.{chain_segments}
use Rattle.backup_restore.specs.Directories.{AreAlike}
use Rattle.backup_sending.specs.declared.basis.Basis.{Basis}
use Rattle.backup_sending.specs.Directory.{IsFullBackup}
use Rattle.chain_laws.specs.Chain.{IsSoundChain}
use Rattle.chain_laws.specs.Increment.{IsIncrementOf}

-- the law of incremental copies: a sound chain, and behind it an incremental backup of the same
-- history that begins at the chain's start or past it, are a sound chain, up to the later of both
-- ends. The summary by which it is planned begins at the chain's start or before it
abbrev pub IncrementsExtendSoundChains : Type 0
IncrementsExtendSoundChains =
    (history : List Entry) (chain : List Files) (prior_start prior_end : ℕ)
    (place from to : ℕ) (basis : Basis) (files : Files)
    → IsRelseg basis.relseg → IsRunning history from → AreTidy empty history
    → IsSoundChain basis.relseg history chain prior_start prior_end
    → place ≤ prior_start → prior_start ≤ from
    → IsIncrementOf history place from to basis files
    → IsSoundChain basis.relseg history (chain ++ (files ∷ [])) from (max prior_end to)

-- the directory of a full backup is a chain of one that holds the backup's copy
abbrev pub FullBackupsHoldTheirCopies : Type 0
FullBackupsHoldTheirCopies =
    (settings : StoreSettings) (name : List ℕ) (when : ℕ) (copy : Store)
    (start checkpoint end : Lsn) (count : ℕ) (files : Files)
    → IsRelseg settings.relseg
    → IsFullBackup settings name when copy start checkpoint end count (Some files)
    → IsStoreOfChain settings.relseg (files ∷ []) copy

-- so it is a sound chain of one where that copy is sound
abbrev pub FullBackupsAreSoundChains : Type 0
FullBackupsAreSoundChains =
    (settings : StoreSettings) (name : List ℕ) (when : ℕ) (copy : Store)
    (start checkpoint end : Lsn) (count : ℕ) (files : Files) (history : List Entry)
    → IsRelseg settings.relseg
    → IsFullBackup settings name when copy start checkpoint end count (Some files)
    → IsSoundCopy copy history start.0 end.0
    → IsSoundChain settings.relseg history (files ∷ []) start.0 end.0

-- a sound chain stays sound when entries are added
abbrev pub SoundChainsStaySound : Type 0
SoundChainsStaySound =
    (relseg : ℕ) (history more : List Entry) (chain : List Files) (from to : ℕ)
    → IsOrderly 0 (history ++ more) → IsSoundChain relseg history chain from to
    → IsSoundChain relseg (history ++ more) chain from to

-- chains that are combined to the same segment files are sound alike, such as a chain and the
-- directory that it was combined to
abbrev pub ChainsCombinedAlikeAreSoundAlike : Type 0
ChainsCombinedAlikeAreSoundAlike =
    (relseg : ℕ) (history : List Entry) (one other : List Files) (from to : ℕ)
    → IsRelseg relseg → AreAlike (chain_segments one) (chain_segments other)
    → IsSoundChain relseg history one from to → IsSoundChain relseg history other from to
