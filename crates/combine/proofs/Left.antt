-- What a refusal leaves of the output.
use Rattle.std.proofs.Common.{◌≡◌, ◌≤◌, List, ℕ, Result, IfErr, arith, inl, inr}
use Rattle.std.specs.Result.{IsErrAnd}
use Rattle.lsn_core.specs.declared.fault.AreaFault.{AreaFault}
use Rattle.lsn_core.specs.declared.fault.AreaFault.TheVariants as area
use Rattle.vault.specs.declared.area.Vault.{Ghosts}
use Rattle.backup_files.specs.Directory.{manifest_name}
use Rattle.backup_files.specs.Area.{KeepsManifest, LeavesText, RoseTwice, with_file}
use Rattle.backup_files.proofs.Kept.{kept_on, rose_later}
use Rattle.backup_files.proofs.Passed.{err_cause}
use Rattle.combine.specs.Calls.{LeavesManifest}
use Rattle.combine.specs.Inside.{area_fault}
use Rattle.combine.specs.declared.fault.CombineFault.{CombineFault}
use Rattle.combine.specs.declared.fault.CombineFault.TheVariants as fault

twice_later : (a b c : ℕ) → a ≤ b → RoseTwice b c → RoseTwice a c
twice_later a b c le rose = omega (arith, le, rose)

-- publishing the manifest failed, behind other steps
leaves_text : {V : Type 0} (g : Ghosts V) (whole : Type 0) (text : List ℕ) (old mid new : V) (why : AreaFault) → KeepsManifest (g.files old) (g.files mid) → g.faults old ≤ g.faults mid → (g.files new ≡ with_file manifest_name text (g.files mid) → whole) → LeavesText g text mid new why
    → LeavesManifest g whole old new (area_fault why)
leaves_text g whole text old mid new area.Failed kept le all (inl left) = inl (kept_on (g.files old) (g.files mid) (g.files new) kept left)
leaves_text g whole text old mid new area.Failed kept le all (inr rose) = inr (twice_later (g.faults old) (g.faults mid) (g.faults new) le rose)
leaves_text g whole text old mid new area.NoMemory kept le all (inl left) = inl (kept_on (g.files old) (g.files mid) (g.files new) kept left)
leaves_text g whole text old mid new area.NoMemory kept le all (inr (inl rose)) = inr (inl (rose_later (g.faults old) (g.faults mid) (g.faults new) le rose))
leaves_text g whole text old mid new area.NoMemory kept le all (inr (inr stands)) = inr (inr (all stands))

pub publish_failed : {V T : Type 0} (g : Ghosts V) (whole : Type 0) (text : List ℕ) (old mid new : V) (r : Result T CombineFault) (why : AreaFault) → IsErrAnd r (λ x. x ≡ area_fault why) → KeepsManifest (g.files old) (g.files mid) → g.faults old ≤ g.faults mid
    → (g.files new ≡ with_file manifest_name text (g.files mid) → whole) → LeavesText g text mid new why → IfErr r (LeavesManifest g whole old new)
publish_failed g whole text old mid new r why is kept le all left = err_cause r (area_fault why) (LeavesManifest g whole old new) is (leaves_text g whole text old mid new why kept le all left)

-- what was left behind other steps, which kept the manifest's file
pub leaves_behind : {V : Type 0} (g : Ghosts V) (part whole : Type 0) (old mid new : V) (why : CombineFault) → KeepsManifest (g.files old) (g.files mid) → g.faults old ≤ g.faults mid → (part → whole) → LeavesManifest g part mid new why → LeavesManifest g whole old new why
leaves_behind g part whole old mid new fault.NotEmpty kept le all left = kept_on (g.files old) (g.files mid) (g.files new) kept left
leaves_behind g part whole old mid new fault.Unlisted kept le all left = kept_on (g.files old) (g.files mid) (g.files new) kept left
leaves_behind g part whole old mid new (fault.MemberFailed place) kept le all left = kept_on (g.files old) (g.files mid) (g.files new) kept left
leaves_behind g part whole old mid new fault.OutFailed kept le all (inl left) = inl (kept_on (g.files old) (g.files mid) (g.files new) kept left)
leaves_behind g part whole old mid new fault.OutFailed kept le all (inr rose) = inr (twice_later (g.faults old) (g.faults mid) (g.faults new) le rose)
leaves_behind g part whole old mid new fault.NoMemory kept le all (inl left) = inl (kept_on (g.files old) (g.files mid) (g.files new) kept left)
leaves_behind g part whole old mid new fault.NoMemory kept le all (inr (inl rose)) = inr (inl (rose_later (g.faults old) (g.faults mid) (g.faults new) le rose))
leaves_behind g part whole old mid new fault.NoMemory kept le all (inr (inr stands)) = inr (inr (all stands))
