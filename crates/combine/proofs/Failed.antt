-- A fault that is passed on, behind other steps.
use Rattle.std.proofs.Common.{◌≡◌, ◌≤◌, List, Result, Err, IfErr, inl, refl}
use Rattle.std.specs.Result.{IsErrAnd}
use Rattle.lsn_core.specs.Causes.{HasCause}
use Rattle.lsn_core.specs.declared.fault.AreaFault.{AreaFault}
use Rattle.lsn_core.specs.declared.fault.AreaFault.TheVariants as area
use Rattle.vault.specs.declared.area.Vault.{Ghosts}
use Rattle.vault.specs.declared.lending.Held.{Held}
use Rattle.backup_files.specs.Area.{KeepsManifest}
use Rattle.backup_files.proofs.Passed.{err_cause}
use Rattle.backup_files.proofs.Kept.{rose_later}
use Rattle.chain_files.specs.Told.{faults_at, AllOnlyRead}
use Rattle.chain_files.proofs.Told.{reads_faults}
use Rattle.directory_files.specs.Faults.{WriteCause}
use Rattle.directory_files.specs.declared.fault.WriteFault.{WriteFault}
use Rattle.directory_files.specs.declared.fault.WriteFault.TheVariants as write
use Rattle.combine.specs.Calls.{LeavesManifest}
use Rattle.combine.specs.Inside.{WorkCause, area_fault, write_fault}
use Rattle.combine.specs.declared.fault.CombineFault.{CombineFault}
use Rattle.combine.specs.declared.fault.CombineFault.TheVariants as fault

abbrev err : (T : Type 0) → AreaFault → Result T AreaFault
err T why = Err why

module _ {V : Type 0} (g : Ghosts V) where
  -- ---- a file that wasn't written

  same_cause : (areas now : List (Held V)) (out out_now : V) (why : WriteFault) → WriteCause g areas out now out_now why → WorkCause g areas out now out_now (write_fault why)
  same_cause areas now out out_now (write.MemberFailed place) cause = cause
  same_cause areas now out out_now write.OutFailed cause = cause
  same_cause areas now out out_now write.NoMemory cause = cause

  pub write_failed : {T : Type 0} (areas now : List (Held V)) (out out_now : V) (r : Result T CombineFault) (why : WriteFault) → IsErrAnd r (λ x. x ≡ write_fault why) → WriteCause g areas out now out_now why → IfErr r (WorkCause g areas out now out_now)
  write_failed areas now out out_now r why is cause = err_cause r (write_fault why) (WorkCause g areas out now out_now) is (same_cause areas now out out_now why cause)

  kept_by : (whole : Type 0) (out out_now : V) (why : WriteFault) → KeepsManifest (g.files out) (g.files out_now) → LeavesManifest g whole out out_now (write_fault why)
  kept_by whole out out_now (write.MemberFailed place) kept = kept
  kept_by whole out out_now write.OutFailed kept = inl kept
  kept_by whole out out_now write.NoMemory kept = inl kept

  pub write_left : {T : Type 0} (whole : Type 0) (out out_now : V) (r : Result T CombineFault) (why : WriteFault) → IsErrAnd r (λ x. x ≡ write_fault why) → KeepsManifest (g.files out) (g.files out_now) → IfErr r (LeavesManifest g whole out out_now)
  write_left whole out out_now r why is kept = err_cause r (write_fault why) (LeavesManifest g whole out out_now) is (kept_by whole out out_now why kept)

  -- ---- a call on the output

  out_cause : {U : Type 0} (areas now : List (Held V)) (out out_now : V) (why : AreaFault) → HasCause (g.faults out) (g.faults out_now) (err U why) → WorkCause g areas out now out_now (area_fault why)
  out_cause areas now out out_now area.Failed cause = cause.failed refl
  out_cause areas now out out_now area.NoMemory cause = tt

  work_behind : (a b c : List (Held V)) (x y z : V) (why : CombineFault) → AllOnlyRead g a b → g.faults x ≤ g.faults y → WorkCause g b y c z why → WorkCause g a x c z why
  work_behind a b c x y z fault.NotEmpty read le cause = cause
  work_behind a b c x y z fault.Unlisted read le cause = cause
  work_behind a b c x y z (fault.MemberFailed place) read le cause = rose_later (faults_at g a place) (faults_at g b place) (faults_at g c place) (reads_faults g a b read place) cause
  work_behind a b c x y z fault.OutFailed read le cause = rose_later (g.faults x) (g.faults y) (g.faults z) le cause
  work_behind a b c x y z fault.NoMemory read le cause = tt

  -- it failed behind others
  pub out_failed : {T U : Type 0} (a b c : List (Held V)) (x y z : V) (r : Result T CombineFault) (why : AreaFault) → IsErrAnd r (λ x. x ≡ area_fault why) → AllOnlyRead g a b → g.faults x ≤ g.faults y → HasCause (g.faults y) (g.faults z) (err U why) → IfErr r (WorkCause g a x c z)
  out_failed a b c x y z r why is read le cause = err_cause r (area_fault why) (WorkCause g a x c z) is (work_behind a b c x y z (area_fault why) read le (out_cause b c y z why cause))
