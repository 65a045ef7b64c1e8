-- A copy of blocks and a write of them, one behind the other.
use Rattle.std.proofs.Common.{◌≡◌, Result, Err, IfErr}
use Rattle.std.specs.Result.{IsErrAnd}
use Rattle.lsn_core.specs.Causes.{HasCause}
use Rattle.lsn_core.specs.declared.fault.AreaFault.{AreaFault}
use Rattle.lsn_core.specs.declared.fault.StoreFault.{StoreFault}
use Rattle.vault.specs.declared.area.Vault.{Ghosts}
use Rattle.store_locks.specs.Seen.{Seen}
use Rattle.store_faults.specs.declared.backup_fault.BackupFault.{BackupFault}
use Rattle.backup_sending.specs.Backup.{LooksOn, Site, site_of}
use Rattle.backup_files.specs.Area.{SparesManifest}
use Rattle.backup_files.proofs.Kept.{spares_still}
use Rattle.backup_sending.specs.Inside.{CallCause, CopiesOn, CopyCause}
use Rattle.store_faults.specs.Giving.{area_fault, store_fault}
use Rattle.backup_files.proofs.Passed.{err_cause}
use Rattle.backup_sending.proofs.Steps.{area_cause, cause_behind, copies_area, copies_store, store_cause}

-- a call of the store and then one on the area
pub both_on : {V : Type 0} (g : Ghosts V) (was now : Seen) (before behind : V) → LooksOn 0 was now → SparesManifest g before behind → CopiesOn g (site_of was before) (site_of now behind)
both_on g was now before behind looks spares = record { looks = looks; spares = spares }

-- the call of the store failed
pub store_failed : {V T : Type 0} (g : Ghosts V) (a b : Site V) (r : Result T BackupFault) (why : StoreFault) → IsErrAnd r (λ x. x ≡ store_fault why) → CallCause a.seen b.seen why → IfErr r (CopyCause g a b)
store_failed g a b r why is cause = err_cause r (store_fault why) (CopyCause g a b) is (store_cause g a b why cause)

-- the call on the area failed
pub area_failed : {V T U : Type 0} (g : Ghosts V) (was now : Seen) (before behind : V) (r : Result T BackupFault) (why : AreaFault) → LooksOn 0 was now → IsErrAnd r (λ x. x ≡ area_fault why) → HasCause {T = U} (g.faults before) (g.faults behind) (Err why)
    → IfErr r (CopyCause g (site_of was before) (site_of now behind))
area_failed g was now before behind r why looks is cause =
    let a = site_of was before in
    let b = site_of now before in
    let c = site_of now behind in
    err_cause r (area_fault why) (CopyCause g a c) is (cause_behind g a b c (area_fault why) (copies_store g was now before looks) (area_cause g now before behind why cause))

-- a step failed behind others
pub step_failed : {V T : Type 0} (g : Ghosts V) (a b c : Site V) (r : Result T BackupFault) (why : BackupFault) → CopiesOn g a b → IsErrAnd r (λ x. x ≡ why) → CopyCause g b c why → IfErr r (CopyCause g a c)
step_failed g a b c r why on is cause = err_cause r why (CopyCause g a c) is (cause_behind g a b c why on cause)

-- nothing was done
pub copies_nothing : {V : Type 0} (g : Ghosts V) (seen : Seen) (out : V) → CopiesOn g (site_of seen out) (site_of seen out)
copies_nothing g seen out = copies_area g seen out out (spares_still g out)
