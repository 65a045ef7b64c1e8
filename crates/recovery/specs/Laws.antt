-- That the answers on a WAL shut each other out.
use Rattle.std.specs.Prelude.{◌≡◌, ℕ, Option, Some, Result, IfErr}
use Rattle.lsn_core.specs.Files.{Files}
use Rattle.lsn_core.specs.declared.lsn.Lsn.{Lsn}
use Rattle.lsn_core.specs.Segment.{StoreSettings}
use Rattle.recovery.specs.declared.fault.RecoveryFault.{RecoveryFault}
use Rattle.recovery.specs.declared.replaying.ReadWal.{ReadWal}
use Rattle.recovery.specs.Causes.{IsOfFiles, WalAnswer}

-- over an area that tells its files there is one such answer: so each refusal comes exactly where
-- its case holds
abbrev pub HasOneWal : Type 0
HasOneWal =
    (upto : Option Lsn) (files : Files) (before now start end : ℕ)
    (a b : Result (StoreSettings × ReadWal) RecoveryFault)
    → WalAnswer upto (Some files) before now a → WalAnswer upto (Some files) start end b
    → IfErr a IsOfFiles → IfErr b IsOfFiles → a ≡ b
