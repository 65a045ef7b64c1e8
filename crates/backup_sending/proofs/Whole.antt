-- A whole backup, from what its steps do.
use Rattle.std.proofs.Common.{◌≡◌, ℕ, ◌≤◌, List, Option, None, Result, IfErr, sym, subst, arith, inl, inr}
use Rattle.std.specs.Result.{IsErrAnd}
use Rattle.lsn_core.specs.Files.{Files}
use Rattle.lsn_core.specs.Names.{segment_number}
use Rattle.lsn_core.specs.Segment.{IsRelseg, StoreSettings}
use Rattle.lsn_core.specs.Sizes.{most_segments}
use Rattle.lsn_core.specs.Store.{store_files}
use Rattle.lsn_core.specs.declared.fault.AreaFault.{AreaFault}
use Rattle.lsn_core.specs.declared.fault.AreaFault.TheVariants as area
use Rattle.lsn_core.specs.declared.lsn.Lsn.{Lsn}
use Rattle.vault.specs.declared.area.Vault.{Ghosts}
use Rattle.manifest.specs.declared.listing.FileRow.{FileRow}
use Rattle.store_locks.specs.declared.receipt.Redo.{Redo}
use Rattle.store_locks.specs.Seen.{Seen}
use Rattle.store_faults.specs.declared.backup_fault.BackupFault.{BackupFault}
use Rattle.store_faults.specs.declared.backup_fault.BackupFault.TheVariants as fault
use Rattle.backup_files.specs.Area.{KeepsManifest, RoseTwice, LeavesText, with_file}
use Rattle.backup_files.specs.Directory.{manifest_name}
use Rattle.backup_files.proofs.Kept.{kept_on, kept_same, rose_later}
use Rattle.backup_files.proofs.Passed.{err_cause}
use Rattle.backup_sending.specs.Backup.{IsTakenFull, IsTakenWhole, LeavesManifest}
use Rattle.backup_files.specs.Area.{SparesManifest}
use Rattle.backup_sending.specs.Inside.{CanFinish, Finishes, HoldsCopy, IsRun}
use Rattle.store_faults.specs.Giving.{area_fault}
use Rattle.backup_sending.proofs.Listings.{copy_held, full_finished}

-- ---- the manifest

twice_later : (a b c : ℕ) → a ≤ b → RoseTwice b c → RoseTwice a c
twice_later a b c le rose = omega (arith, le, rose)

-- what was left behind other steps, which kept it
pub leaves_behind : {V : Type 0} (g : Ghosts V) (part whole : Type 0) (old mid new : V) (why : BackupFault) → KeepsManifest (g.files old) (g.files mid) → g.faults old ≤ g.faults mid → (part → whole) → LeavesManifest g part mid new why → LeavesManifest g whole old new why
leaves_behind g part whole old mid new fault.NotEmpty kept le all left = kept_on (g.files old) (g.files mid) (g.files new) kept left
leaves_behind g part whole old mid new (fault.WalFull n) kept le all left = kept_on (g.files old) (g.files mid) (g.files new) kept left
leaves_behind g part whole old mid new (fault.StoreFailed which) kept le all left = kept_on (g.files old) (g.files mid) (g.files new) kept left
leaves_behind g part whole old mid new fault.OutFailed kept le all (inl left) = inl (kept_on (g.files old) (g.files mid) (g.files new) kept left)
leaves_behind g part whole old mid new fault.OutFailed kept le all (inr rose) = inr (twice_later (g.faults old) (g.faults mid) (g.faults new) le rose)
leaves_behind g part whole old mid new fault.NoMemory kept le all (inl left) = inl (kept_on (g.files old) (g.files mid) (g.files new) kept left)
leaves_behind g part whole old mid new fault.NoMemory kept le all (inr (inl rose)) = inr (inl (rose_later (g.faults old) (g.faults mid) (g.faults new) le rose))
leaves_behind g part whole old mid new fault.NoMemory kept le all (inr (inr stands)) = inr (inr (all stands))

-- publishing the manifest failed
pub leaves_text : {V : Type 0} (g : Ghosts V) (whole : Type 0) (text : List ℕ) (old mid new : V) (why : AreaFault) → KeepsManifest (g.files old) (g.files mid) → g.faults old ≤ g.faults mid → (g.files new ≡ with_file manifest_name text (g.files mid) → whole) → LeavesText g text mid new why
    → LeavesManifest g whole old new (area_fault why)
leaves_text g whole text old mid new area.Failed kept le all (inl left) = inl (kept_on (g.files old) (g.files mid) (g.files new) kept left)
leaves_text g whole text old mid new area.Failed kept le all (inr rose) = inr (twice_later (g.faults old) (g.faults mid) (g.faults new) le rose)
leaves_text g whole text old mid new area.NoMemory kept le all (inl left) = inl (kept_on (g.files old) (g.files mid) (g.files new) kept left)
leaves_text g whole text old mid new area.NoMemory kept le all (inr (inl rose)) = inr (inl (rose_later (g.faults old) (g.faults mid) (g.faults new) le rose))
leaves_text g whole text old mid new area.NoMemory kept le all (inr (inr stands)) = inr (inr (all stands))

-- ---- the backup

pub taken_full : (tells : Type 0) (settings : StoreSettings) (name : List ℕ) (when : ℕ) (old new : Seen) (modified : List ℕ) (mid files : Option Files) (redo : Redo) (end : Lsn) (rows : List FileRow) (count : ℕ)
    → IsRelseg settings.relseg → IsRun tells settings old new modified mid redo end rows → Finishes settings name when modified mid files redo None end rows count → IsTakenFull tells settings name when old new files (record { start = redo.redo; end = end; files = count })
taken_full tells settings name when old new modified mid files redo end rows count range run finishes = record {
  copy = run.copy;
  checkpoint = redo.at.0;
  entries = run.entries;
  directory = full_finished settings redo end name when modified mid files rows run.copy count range run.held finishes;
  taken = run.taken;
}

pub taken_whole : (tells : Type 0) (settings : StoreSettings) (name : List ℕ) (when : ℕ) (old new : Seen) (modified : List ℕ) (mid files : Option Files) (redo : Redo) (end : Lsn) (rows : List FileRow)
    → IsRelseg settings.relseg → IsRun tells settings old new modified mid redo end rows → (count : ℕ) × Finishes settings name when modified mid files redo None end rows count → IsTakenWhole tells settings name when old new files
taken_whole tells settings name when old new modified mid files redo end rows range run finishes =
    (record { start = redo.redo; end = end; files = finishes.0 }, taken_full tells settings name when old new modified mid files redo end rows finishes.0 range run finishes.1)

-- ---- steps that failed

-- the manifest wasn't published
pub publish_failed : {V T : Type 0} (g : Ghosts V) (whole : Type 0) (text : List ℕ) (old mid new : V) (r : Result T BackupFault) (why : AreaFault) → IsErrAnd r (λ x. x ≡ area_fault why) → KeepsManifest (g.files old) (g.files mid) → g.faults old ≤ g.faults mid
    → (g.files new ≡ with_file manifest_name text (g.files mid) → whole) → LeavesText g text mid new why → IfErr r (LeavesManifest g whole old new)
publish_failed g whole text old mid new r why is kept le all left = err_cause r (area_fault why) (LeavesManifest g whole old new) is (leaves_text g whole text old mid new why kept le all left)

-- ---- a backup that was run

pub can_finish : (tells : Type 0) (store : StoreSettings) (old new : Seen) (modified : List ℕ) (files : Option Files) (redo : Redo) (end : Lsn) (rows : List FileRow) (settings : StoreSettings) → settings ≡ store → IsRelseg settings.relseg → IsRun tells store old new modified files redo end rows
    → CanFinish settings modified files redo end rows
can_finish tells store old new modified files redo end rows settings same range run = record {
  put = store_files settings.relseg run.copy;
  held = copy_held settings.relseg run.copy modified files rows range (subst (λ (s : StoreSettings). HoldsCopy s.relseg run.copy modified files rows) (sym same) run.held);
  rises = run.rises;
  segment = subst (λ (s : StoreSettings). segment_number redo.redo.0 s.segment ≤ most_segments) (sym same) run.segment;
}

-- its end failed
pub finish_left : {V T : Type 0} (g : Ghosts V) (tells : Type 0) (store : StoreSettings) (name : List ℕ) (when : ℕ) (old new : Seen) (modified : List ℕ) (a b c d : V) (redo : Redo) (end : Lsn) (rows : List FileRow) (settings : StoreSettings) (r : Result T BackupFault) (why : BackupFault) → IsErrAnd r (λ x. x ≡ why) → settings ≡ store → IsRelseg settings.relseg
    → g.files b ≡ g.files a → g.faults a ≤ g.faults b → SparesManifest g b c → IsRun tells store old new modified (g.files c) redo end rows → LeavesManifest g ((count : ℕ) × Finishes settings name when modified (g.files c) (g.files d) redo None end rows count) c d why
    → IfErr r (LeavesManifest g (IsTakenWhole tells store name when old new (g.files d)) a d)
finish_left g tells store name when old new modified a b c d redo end rows settings r why is same range files le spares run left =
    err_cause r why (LeavesManifest g (IsTakenWhole tells store name when old new (g.files d)) a d) is
    (leaves_behind g ((count : ℕ) × Finishes store name when modified (g.files c) (g.files d) redo None end rows count) (IsTakenWhole tells store name when old new (g.files d)) a c d why
    (kept_on (g.files a) (g.files b) (g.files c) (kept_same (g.files a) (g.files b) files) spares.manifest) (omega (arith, le, spares.faults))
    (λ f. taken_whole tells store name when old new modified (g.files c) (g.files d) redo end rows (subst (λ (s : StoreSettings). IsRelseg s.relseg) same range) run f)
    (subst (λ (s : StoreSettings). LeavesManifest g ((count : ℕ) × Finishes s name when modified (g.files c) (g.files d) redo None end rows count) c d why) same left))
