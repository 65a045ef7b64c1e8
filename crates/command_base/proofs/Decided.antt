-- What is told of the outside, and which answers it decides.
use Rattle.std.proofs.Common.{◌≡◌, ◌≢◌, IsSome, true, Result, Ok, Err, OnErr, sym, subst}
use Rattle.std.specs.Result.{IsErrAnd}
use Rattle.std.specs.FinMap.{empty}
use Rattle.lsn_core.specs.declared.fault.AreaFault.{AreaFault}
use Rattle.lsn_core.specs.declared.fault.AreaFault.TheVariants.{Failed, NoMemory}
use Rattle.vault.specs.Site.{AreaState}
use Rattle.recovery.specs.declared.fault.RecoveryFault.{RecoveryFault}
use Rattle.recovery.specs.declared.fault.RecoveryFault.TheVariants as wal
use Rattle.recovery.specs.Causes.{IsOfFiles}
use Rattle.command_base.specs.Areas.{IsClear, IsFull}
use Rattle.command_base.specs.Faults.{area_status, wal_status}
use Rattle.command_base.specs.Decided.{is_decided}
use Rattle.command_base.proofs.Told.{some_told, at_told}

-- an area is clear or it isn't
pub clear_or_not : (o : AreaState) → IsSome o.files → IsClear o → IsFull o → ⊥
clear_or_not o there clear full =
    let files = some_told o.files there in
    at_told o.files files.0 (λ m. m ≢ empty) files.1 full (at_told o.files files.0 (λ m. m ≡ empty) files.1 clear)

-- a fault of an area is never decided
pub undecided : (why : AreaFault) → is_decided (area_status why) ≡ true → ⊥
undecided Failed e = absurd cc
undecided NoMemory e = absurd cc

-- a fault of the WAL is where its files decide it
pub of_files : (fault : RecoveryFault) → is_decided (wal_status fault) ≡ true → IsOfFiles fault
of_files (wal.Damaged mib damage) e = (λ f. absurd cc, λ f. absurd cc)
of_files (wal.Short end target) e = (λ f. absurd cc, λ f. absurd cc)
of_files (wal.BadDelta place) e = (λ f. absurd cc, λ f. absurd cc)
of_files wal.SettingsDamaged e = (λ f. absurd cc, λ f. absurd cc)
of_files (wal.Timeline name) e = (λ f. absurd cc, λ f. absurd cc)
of_files wal.NotInit e = (λ f. absurd cc, λ f. absurd cc)
of_files wal.Failed e = absurd cc
of_files wal.NoMemory e = absurd cc

-- what holds after an error
pub on_err : {T E : Type 0} (r : Result T E) (P : Type 0) → P → OnErr r P
on_err (Ok x) P holds = tt
on_err (Err e) P holds = holds

-- what holds of an error, of what is that error
pub err_as : {T E : Type 0} (r : Result T E) (e : E) (P : Result T E → Type 0) → IsErrAnd r (λ x. x ≡ e) → P (Err e) → P r
err_as {T = T} {E = E} (Ok x) e P is holds = absurd is
err_as {T = T} {E = E} (Err x) e P is holds = subst (λ (y : E). P (Err y)) (sym is) holds
