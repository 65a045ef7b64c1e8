-- A fault that is passed on, behind other steps.
use Rattle.std.proofs.Common.{◌≡◌, ℕ, ◌≤◌, List, Result, Err, IfErr, refl}
use Rattle.std.specs.Result.{IsErrAnd}
use Rattle.lsn_core.specs.Causes.{Rose, HasCause}
use Rattle.lsn_core.specs.declared.fault.AreaFault.{AreaFault}
use Rattle.lsn_core.specs.declared.fault.AreaFault.TheVariants as area
use Rattle.vault.specs.declared.area.Vault.{Ghosts}
use Rattle.vault.specs.declared.lending.Held.{Held}
use Rattle.backup_files.proofs.Passed.{err_cause}
use Rattle.backup_files.proofs.Kept.{rose_later}
use Rattle.chain_files.specs.Told.{faults_at, AllOnlyRead, FailsAt}
use Rattle.chain_files.specs.declared.fault.MemberFault.{MemberFault}
use Rattle.chain_files.proofs.Told.{reads_faults}
use Rattle.directory_files.specs.Faults.{WriteCause, area_fault, member_fault, why_fault}
use Rattle.directory_files.specs.declared.fault.WriteFault.{WriteFault}
use Rattle.directory_files.specs.declared.fault.WriteFault.TheVariants as fault

abbrev err : (T : Type 0) → AreaFault → Result T AreaFault
err T why = Err why

module _ {V : Type 0} (g : Ghosts V) where
  why_cause : (areas now : List (Held V)) (out out_now : V) (place : ℕ) (why : AreaFault) → (why ≡ area.Failed → Rose (faults_at g areas place) (faults_at g now place)) → WriteCause g areas out now out_now (why_fault place why)
  why_cause areas now out out_now place area.Failed fails = fails refl
  why_cause areas now out out_now place area.NoMemory fails = tt

  -- a call on a member's area failed
  pub member_failed : {T : Type 0} (areas now : List (Held V)) (out out_now : V) (r : Result T WriteFault) (why : MemberFault) → IsErrAnd r (λ x. x ≡ member_fault why) → FailsAt g areas now why → IfErr r (WriteCause g areas out now out_now)
  member_failed areas now out out_now r why is fails = err_cause r (member_fault why) (WriteCause g areas out now out_now) is (why_cause areas now out out_now why.area why.why fails)

  out_cause : {U : Type 0} (areas now : List (Held V)) (out out_now : V) (why : AreaFault) → HasCause (g.faults out) (g.faults out_now) (err U why) → WriteCause g areas out now out_now (area_fault why)
  out_cause areas now out out_now area.Failed cause = cause.failed refl
  out_cause areas now out out_now area.NoMemory cause = tt

  -- a step failed behind others
  pub write_behind : (a b c : List (Held V)) (x y z : V) (why : WriteFault) → AllOnlyRead g a b → g.faults x ≤ g.faults y → WriteCause g b y c z why → WriteCause g a x c z why
  write_behind a b c x y z (fault.MemberFailed place) read le cause = rose_later (faults_at g a place) (faults_at g b place) (faults_at g c place) (reads_faults g a b read place) cause
  write_behind a b c x y z fault.OutFailed read le cause = rose_later (g.faults x) (g.faults y) (g.faults z) le cause
  write_behind a b c x y z fault.NoMemory read le cause = tt

  pub write_failed : {T : Type 0} (a b c : List (Held V)) (x y z : V) (r : Result T WriteFault) (why : WriteFault) → IsErrAnd r (λ x. x ≡ why) → AllOnlyRead g a b → g.faults x ≤ g.faults y → WriteCause g b y c z why → IfErr r (WriteCause g a x c z)
  write_failed a b c x y z r why is read le cause = err_cause r why (WriteCause g a x c z) is (write_behind a b c x y z why read le cause)

  -- a call on the output failed behind others
  pub out_failed : {T U : Type 0} (a b c : List (Held V)) (x y z : V) (r : Result T WriteFault) (why : AreaFault) → IsErrAnd r (λ x. x ≡ area_fault why) → AllOnlyRead g a b → g.faults x ≤ g.faults y → HasCause (g.faults y) (g.faults z) (err U why) → IfErr r (WriteCause g a x c z)
  out_failed a b c x y z r why is read le cause = write_failed a b c x y z r (area_fault why) is read le (out_cause b c y z why cause)
