-- An incremental backup, from what its steps answer.
use Rattle.std.proofs.Common.{◌≡◌, ◌≢◌, ℕ, ◌+◌, ◌≤◌, List, map, length, take, Option, Some, None, IfSome, Result, Ok, Err, IfOk, IfErr, refl, sym, ap, subst, ◌∙◌, arith, inl, inr}
use Rattle.std.specs.List.{AllByRecursion}
use Rattle.std.specs.Result.{IsErrAnd}
use Rattle.std.specs.FinMap.{empty}
use Rattle.std.proofs.Math.Seq.{take-length}
use Rattle.std.proofs.lemmas.List.{take-append-le}
use mathlib.Core.List.{IsPrefix}
use Rattle.timeline.proofs.Prefixes.{prefix_length, prefix_trans}
use Rattle.lsn_core.proofs.AnyAll.{all_more}
use Rattle.lsn_core.specs.Files.{Files}
use Rattle.lsn_core.specs.Names.{segment_number}
use Rattle.lsn_core.specs.Segment.{StoreSettings}
use Rattle.lsn_core.specs.Sizes.{most_segments}
use Rattle.lsn_core.specs.declared.ids.ForkId.{ForkId}
use Rattle.lsn_core.specs.declared.lsn.Lsn.{Lsn}
use Rattle.lsn_core.specs.declared.fault.StoreArea.TheVariants.{Wal, Data, Sums}
use Rattle.lsn_core.specs.declared.fault.StoreFault.TheVariants as store
use Rattle.lsn_core.specs.declared.fault.MarkFault.{MarkFault}
use Rattle.lsn_core.specs.declared.fault.MarkFault.TheVariants as mark
use Rattle.vault.specs.declared.area.Vault.{Ghosts}
use Rattle.history.specs.Entry.{Entry, BackupEnd}
use Rattle.wal_writer.specs.declared.state.Flushed.{Flushed}
use Rattle.wal_summary.specs.declared.summary.Summary.{Summary}
use Rattle.manifest.specs.Listing.{Listing}
use Rattle.manifest.specs.declared.listing.FileRow.{FileRow}
use Rattle.store_locks.specs.declared.receipt.Redo.{Redo}
use Rattle.store_locks.specs.Seen.{Seen}
use Rattle.shared_store.specs.Shared.{HasCheckpointIn, HasEnded, MayFindNoRoom, MayFindNoRoomFor, TakesMarkFault}
use Rattle.store_locks.specs.Calls.{IsPlaced}
use Rattle.shared_store.proofs.Booked.{takes_rose}
use Rattle.shared_store.proofs.SharedLaws.{end_comes_behind}
use Rattle.shared_summaries.specs.Shelf.{HasCovered, HasCoveredSo, TakesAdvanceFaults}
use Rattle.store_faults.specs.declared.advance_fault.AdvanceFault.{AdvanceFault}
use Rattle.store_faults.specs.declared.advance_fault.AdvanceFault.TheVariants as advance
use Rattle.backup_sending.specs.declared.basis.Basis.{Basis}
use Rattle.store_faults.specs.declared.backup_fault.BackupFault.{BackupFault}
use Rattle.store_faults.specs.declared.backup_fault.BackupFault.TheVariants as backup
use Rattle.store_faults.specs.declared.incr_fault.IncrFault.{IncrFault}
use Rattle.store_faults.specs.declared.incr_fault.IncrFault.TheVariants as fault
use Rattle.backup_files.specs.Area.{HoldsNothing, KeepsManifest, SparesManifest}
use Rattle.backup_files.proofs.Kept.{kept_on, kept_same, rose_later}
use Rattle.backup_files.proofs.Passed.{err_cause}
use Rattle.backup_sending.specs.Backup.{LooksOn, Site, site_of, LeavesManifest}
use Rattle.backup_sending.specs.Directory.{incr_label, IsDirectory}
use Rattle.backup_sending.specs.Entries.{HasCheckpointAt, HasBackupAt}
use Rattle.backup_sending.specs.Inside.{CanFinish, CopyCause, EndCause, Finishes, LookCause}
use Rattle.store_faults.specs.Giving.{mark_fault}
use Rattle.incr_backup.specs.Prior.{HasListing, IsOfStore, PriorAnswer}
use Rattle.backup_sending.specs.Sent.{AreListed, IsCopyOf, IsSentAs, SentFile, blocks_sent, file_of}
use Rattle.backup_sending.specs.declared.done.Done.{Done}
use Rattle.incr_backup.specs.Incr.{Origin, IncrSite, incr_site, IncrAnswers, IncrCause, IsJudged, IsRefusedIncr, IsPrior, IsSpared, IsSummedUp, IsTakenIncr, IsTakenIncrWhole, LeavesBehind, LeavesIncrManifest, StandsStill, SumsUp}
use Rattle.incr_backup.specs.IncrInside.{PriorCause}
use Rattle.store_faults.specs.Giving.{incr_fault}
use Rattle.backup_sending.specs.Sending.{IsPageSeen, IsSeenAs, SendsStore}
use Rattle.incr_backup.specs.IncrSteps.{BeginRefusal, EarlyRefusal, HasBegun, IsSentWhole, SendCause, SumAnswer}
use Rattle.store_faults.specs.Giving.{advance_fault}
use Rattle.backup_sending.proofs.Blocks.{for_more}
use Rattle.backup_sending.proofs.Marks.{checkpoint_at, checkpoint_on, has_backup, start_below}
use Rattle.backup_sending.proofs.Runs.{in_segment}
use Rattle.backup_sending.proofs.Steps.{share_later}
use Rattle.backup_sending.proofs.Whole.{leaves_behind}

-- ---- before the checkpoint

pub look_failed : {V : Type 0} (g : Ghosts V) (system : ℕ) (before behind old new : V) (why : BackupFault) → LookCause g old new why → EarlyRefusal g system before behind old new (incr_fault why)
look_failed g system before behind old new backup.NotEmpty is = is
look_failed g system before behind old new (backup.WalFull n) is = absurd is
look_failed g system before behind old new (backup.StoreFailed which) is = absurd is
look_failed g system before behind old new backup.OutFailed is = is
look_failed g system before behind old new backup.NoMemory is = tt

pub prior_failed : {V : Type 0} (g : Ghosts V) (system : ℕ) (before behind old new : V) (r : Result Listing IncrFault) → HoldsNothing (g.files old) → IfSome (g.files before) (λ m. PriorAnswer m system r) → IfErr r (PriorCause (g.faults before) (g.faults behind))
    → IfErr r (EarlyRefusal g system before behind old new)
prior_failed g system before behind old new (Ok m) nothing answer cause = tt
prior_failed g system before behind old new (Err fault.NotEmpty) nothing answer cause = absurd cause
prior_failed g system before behind old new (Err fault.NoManifest) nothing answer cause = (nothing, answer)
prior_failed g system before behind old new (Err (fault.ManifestRefused why)) nothing answer cause = (nothing, answer)
prior_failed g system before behind old new (Err (fault.SystemDiffers have expected)) nothing answer cause = (nothing, answer)
prior_failed g system before behind old new (Err (fault.Overlap start end)) nothing answer cause = absurd cause
prior_failed g system before behind old new (Err (fault.Gap place)) nothing answer cause = absurd cause
prior_failed g system before behind old new (Err (fault.WalFull n)) nothing answer cause = absurd cause
prior_failed g system before behind old new (Err (fault.StoreFailed area)) nothing answer cause = absurd cause
prior_failed g system before behind old new (Err fault.SumsFailed) nothing answer cause = absurd cause
prior_failed g system before behind old new (Err fault.PriorFailed) nothing answer cause = (nothing, cause)
prior_failed g system before behind old new (Err fault.OutFailed) nothing answer cause = absurd cause
prior_failed g system before behind old new (Err fault.NoMemory) nothing answer cause = tt

pub prior_told : (files : Option Files) (system : ℕ) (r : Result Listing IncrFault) → IfSome files (λ m. PriorAnswer m system r) → IfOk r (λ m. IfSome files (λ f. PriorAnswer f system (Ok m)))
prior_told files system (Ok m) answer = answer
prior_told files system (Err why) answer = tt

-- ---- the summary

-- what was covered of all that is seen
pub summed_here : (tells : Type 0) (found : List Entry) (begun : Option Files) (when limit worker before : ℕ) (now : List Entry) (redo from : ℕ) (answer : Result Summary AdvanceFault) → HasCheckpointAt worker before now redo → HasCoveredSo tells found begun now when limit from redo answer
    → SumsUp tells found begun when limit worker before now redo from answer
summed_here tells found begun when limit worker before now redo from answer there covered =
    let whole = take-length now in
    record {
      seen = length now;
      within = omega arith;
      checkpoint = subst (λ (l : List Entry). HasCheckpointAt worker before l redo) (sym whole) there;
      covered = subst (λ (l : List Entry). HasCoveredSo tells found begun l when limit from redo answer) (sym whole) covered;
    }

-- it stays as more is seen
pub summed_on : (tells : Type 0) (found : List Entry) (begun : Option Files) (when limit worker before : ℕ) (now later : List Entry) (redo from : ℕ) (answer : Result Summary AdvanceFault) → IsPrefix now later → SumsUp tells found begun when limit worker before now redo from answer
    → SumsUp tells found begun when limit worker before later redo from answer
summed_on tells found begun when limit worker before now later redo from answer p s =
    let same : take s.seen now ≡ take s.seen later = sym (take-append-le s.seen now p.0 s.within) ∙ ap (λ (l : List Entry). take s.seen l) p.1 in
    record {
      seen = s.seen;
      within = omega (arith, s.within, prefix_length now later p);
      checkpoint = subst (λ (l : List Entry). HasCheckpointAt worker before l redo) same s.checkpoint;
      covered = subst (λ (l : List Entry). HasCoveredSo tells found begun l when limit from redo answer) same s.covered;
    }

pub sum_failed : (tells : Type 0) (o : Origin) (when : ℕ) (old new : Seen) (m : Listing) (redo : Lsn) (why : AdvanceFault) → m.end ≤ redo.0 → HasCovered tells o.found o.sums new.list when o.limit m.start redo.0 (Err why) → TakesAdvanceFaults {T = Unit {0}} old new (Err why)
    → SumAnswer tells o when old new m redo (Err (advance_fault why))
sum_failed tells o when old new m redo (advance.Gap place) le covered takes = (le, covered)
sum_failed tells o when old new m redo (advance.Store (store.Failed Sums)) le covered takes = takes_rose Sums old new takes
sum_failed tells o when old new m redo (advance.Store (store.Failed Wal)) le covered takes = takes_rose Wal old new takes
sum_failed tells o when old new m redo (advance.Store (store.Failed (Data q))) le covered takes = takes_rose (Data q) old new takes
sum_failed tells o when old new m redo (advance.Store store.NoMemory) le covered takes = tt

-- the checkpoint failed
pub mark_refused : (tells : Type 0) (o : Origin) (when : ℕ) (was now : Seen) (m : Listing) (why : MarkFault) → MayFindNoRoom o.settings.segment was.worker (length was.list) now.list why → TakesMarkFault {T = Unit {0}} was now (Err why)
    → BeginRefusal tells o when was now m (incr_fault (mark_fault why))
mark_refused tells o when was now m (mark.Failed which) full takes = takes_rose which was now takes
mark_refused tells o when was now m (mark.WalFull n) full takes = full
mark_refused tells o when was now m mark.NoMemory full takes = tt

-- it wasn't summed up behind a checkpoint
pub begin_failed : (tells : Type 0) (o : Origin) (when : ℕ) (was mid now : Seen) (m : Listing) (redo : Redo) (flushed : Flushed) (why : IncrFault) → HasCheckpointIn was.worker was.list mid.list redo flushed → LooksOn 2 was mid → LooksOn 0 mid now
    → SumAnswer tells o when mid now m redo.redo (Err why) → BeginRefusal tells o when was now m why
begin_failed tells o when was mid now m redo flushed why h first on is = by_fault why is
  where
    there : HasCheckpointAt was.worker (length was.list) now.list redo.redo.0
    there = checkpoint_on was.worker (length was.list) mid.list now.list redo.redo.0 on.stays.seen (checkpoint_at was.worker was.list mid.list redo flushed h)

    by_fault : (f : IncrFault) → SumAnswer tells o when mid now m redo.redo (Err f) → BeginRefusal tells o when was now m f
    by_fault fault.NotEmpty a = absurd a
    by_fault fault.NoManifest a = absurd a
    by_fault (fault.ManifestRefused x) a = absurd a
    by_fault (fault.SystemDiffers have expected) a = absurd a
    by_fault (fault.Overlap start end) a =
        let s : start.0 ≡ redo.redo.0 = ap (λ (l : Lsn). l.0) a.0 in
        (subst (λ (n : ℕ). HasCheckpointAt was.worker (length was.list) now.list n) (sym s) there, sym a.1, omega (arith, s, a.1, a.2))
    by_fault (fault.Gap place) a = (redo.redo.0, a.0, summed_here tells o.found o.sums when o.limit was.worker (length was.list) now.list redo.redo.0 m.start (Err (advance.Gap place)) there a.1)
    by_fault (fault.WalFull n) a = absurd a
    by_fault (fault.StoreFailed area) a = share_later area was mid now first a
    by_fault fault.SumsFailed a = share_later Sums was mid now first a
    by_fault fault.PriorFailed a = absurd a
    by_fault fault.OutFailed a = absurd a
    by_fault fault.NoMemory a = tt

-- it was
pub has_begun : (tells : Type 0) (o : Origin) (when : ℕ) (was mid now : Seen) (m : Listing) (redo : Redo) (flushed : Flushed) (b : Basis) → HasCheckpointIn was.worker was.list mid.list redo flushed → LooksOn 0 mid now → b.relseg ≡ o.settings.relseg → b.prior ≡ m
    → SumAnswer tells o when mid now m redo.redo (Ok b.summary) → HasBegun tells o when was now m redo b
has_begun tells o when was mid now m redo flushed b h on relseg prior is = record {
  mid = mid.list;
  flushed = flushed;
  checkpoint = h;
  behind = on.stays.seen;
  relseg = relseg;
  prior = prior;
  apart = is.0;
  summed =
      summed_here tells o.found o.sums when o.limit was.worker (length was.list) now.list redo.redo.0 m.start (Ok b.summary)
      (checkpoint_on was.worker (length was.list) mid.list now.list redo.redo.0 on.stays.seen (checkpoint_at was.worker was.list mid.list redo flushed h)) is.1;
}

-- ---- what a refusal leaves

pub manifest_kept : {V : Type 0} (g : Ghosts V) (whole : Type 0) (old new : V) (f : IncrFault) → KeepsManifest (g.files old) (g.files new) → LeavesIncrManifest g whole old new f
manifest_kept g whole old new fault.NotEmpty kept = kept
manifest_kept g whole old new fault.NoManifest kept = kept
manifest_kept g whole old new (fault.ManifestRefused why) kept = kept
manifest_kept g whole old new (fault.SystemDiffers have expected) kept = kept
manifest_kept g whole old new (fault.Overlap start end) kept = kept
manifest_kept g whole old new (fault.Gap place) kept = kept
manifest_kept g whole old new (fault.WalFull n) kept = kept
manifest_kept g whole old new (fault.StoreFailed area) kept = kept
manifest_kept g whole old new fault.SumsFailed kept = kept
manifest_kept g whole old new fault.PriorFailed kept = kept
manifest_kept g whole old new fault.OutFailed kept = inl kept
manifest_kept g whole old new fault.NoMemory kept = inl kept

full_still : (files : Option Files) (P : Type 0) → P → IfSome files (λ m. m ≢ empty → P)
full_still None P holds = tt
full_still (Some m) P holds = λ some. holds

full_nothing : (files : Option Files) (P : Type 0) → HoldsNothing files → IfSome files (λ m. m ≢ empty → P)
full_nothing None P nothing = tt
full_nothing (Some m) P nothing = λ some. absurd (some nothing)

has_listing : (files : Option Files) (system : ℕ) (m : Listing) → IfSome files (λ f. PriorAnswer f system (Ok m)) → IfSome files (λ f. HasListing f m)
has_listing None system m told = tt
has_listing (Some f) system m told = told.0

takes : (files : Option Files) (system : ℕ) (m : Listing) → IfSome files (λ f. PriorAnswer f system (Ok m)) → IfSome files (λ f. (l : Listing) × PriorAnswer f system (Ok l))
takes None system m told = tt
takes (Some f) system m told = (m, told)

-- ---- refusals before the checkpoint

early_cause : {V : Type 0} (g : Ghosts V) (tells : Type 0) (o : Origin) (when : ℕ) (p : Seen) (b c old new : V) (f : IncrFault) → EarlyRefusal g o.settings.system b c old new f → IncrCause g tells o when (incr_site p b old) (incr_site p c new) f
early_cause g tells o when p b c old new fault.NotEmpty is = is
early_cause g tells o when p b c old new fault.NoManifest is = is.1
early_cause g tells o when p b c old new (fault.ManifestRefused why) is = is.1
early_cause g tells o when p b c old new (fault.SystemDiffers have expected) is = is.1
early_cause g tells o when p b c old new (fault.Overlap start end) is = absurd is
early_cause g tells o when p b c old new (fault.Gap place) is = absurd is
early_cause g tells o when p b c old new (fault.WalFull k) is = absurd is
early_cause g tells o when p b c old new (fault.StoreFailed area) is = absurd is
early_cause g tells o when p b c old new fault.SumsFailed is = absurd is
early_cause g tells o when p b c old new fault.PriorFailed is = is.1
early_cause g tells o when p b c old new fault.OutFailed is = is
early_cause g tells o when p b c old new fault.NoMemory is = tt

early_judged : {V : Type 0} (g : Ghosts V) (o : Origin) (p : Seen) (b c old new : V) (f : IncrFault) → EarlyRefusal g o.settings.system b c old new f → IsJudged g o (incr_site p b old) f
early_judged g o p b c old new fault.NotEmpty is = tt
early_judged g o p b c old new fault.NoManifest is = is.0
early_judged g o p b c old new (fault.ManifestRefused why) is = is.0
early_judged g o p b c old new (fault.SystemDiffers have expected) is = is.0
early_judged g o p b c old new (fault.Overlap start end) is = absurd is
early_judged g o p b c old new (fault.Gap place) is = absurd is
early_judged g o p b c old new (fault.WalFull k) is = absurd is
early_judged g o p b c old new (fault.StoreFailed area) is = absurd is
early_judged g o p b c old new fault.SumsFailed is = absurd is
early_judged g o p b c old new fault.PriorFailed is = is.0
early_judged g o p b c old new fault.OutFailed is = tt
early_judged g o p b c old new fault.NoMemory is = tt

early_behind : {V : Type 0} (g : Ghosts V) (system : ℕ) (b c x y : V) (old new : IncrSite V) (f : IncrFault) → StandsStill g old new → EarlyRefusal g system b c x y f → LeavesBehind g old new f
early_behind g system b c x y old new fault.NotEmpty still is = still
early_behind g system b c x y old new fault.NoManifest still is = still
early_behind g system b c x y old new (fault.ManifestRefused why) still is = still
early_behind g system b c x y old new (fault.SystemDiffers have expected) still is = still
early_behind g system b c x y old new (fault.Overlap start end) still is = absurd is
early_behind g system b c x y old new (fault.Gap place) still is = absurd is
early_behind g system b c x y old new (fault.WalFull k) still is = tt
early_behind g system b c x y old new (fault.StoreFailed area) still is = tt
early_behind g system b c x y old new fault.SumsFailed still is = tt
early_behind g system b c x y old new fault.PriorFailed still is = still
early_behind g system b c x y old new fault.OutFailed still is = tt
early_behind g system b c x y old new fault.NoMemory still is = tt

pub early_refused : {V : Type 0} (g : Ghosts V) (tells : Type 0) (o : Origin) (name : List ℕ) (when system : ℕ) (p : Seen) (b c x y : V) (f : IncrFault) → system ≡ o.settings.system → IsSpared g x y → EarlyRefusal g system b c x y f
    → IsRefusedIncr g tells o name when (incr_site p b x) (incr_site p c y) f
early_refused g tells o name when system p b c x y f is spared refusal =
    let old = incr_site p b x in
    let new = incr_site p c y in
    let still : StandsStill g old new = record { seen = refl; out = spared } in
    let ours : EarlyRefusal g o.settings.system b c x y f = subst (λ (k : ℕ). EarlyRefusal g k b c x y f) is refusal in
    record {
      cause = early_cause g tells o when p b c x y f ours;
      judged = early_judged g o p b c x y f ours;
      behind = early_behind g o.settings.system b c x y old new f still ours;
      full = full_still (g.files x) (StandsStill g old new) still;
      manifest = manifest_kept g (IsTakenIncrWhole g tells o name when old new) x y f (kept_same (g.files x) (g.files y) spared.files);
    }

-- ---- refusals at the checkpoint

-- what was known before it: the area holds nothing, and the prior's manifest is taken
pub record IsLooked {V : Type 0} (g : Ghosts V) (o : Origin) (b x : V) (m : Listing) : Type 0 where
  pub nothing : HoldsNothing (g.files x)
  pub told : IfSome (g.files b) (λ f. PriorAnswer f o.settings.system (Ok m))
  pub ours : IsOfStore o.settings.system m

pub looked : {V : Type 0} (g : Ghosts V) (o : Origin) (b x : V) (m : Listing) (system : ℕ) → system ≡ o.settings.system → HoldsNothing (g.files x) → IfSome (g.files b) (λ f. PriorAnswer f system (Ok m)) → IsOfStore system m → IsLooked g o b x m
looked g o b x m system is nothing told ours = record {
  nothing = nothing;
  told = subst (λ (n : ℕ). IfSome (g.files b) (λ f. PriorAnswer f n (Ok m))) is told;
  ours = subst (λ (n : ℕ). IsOfStore n m) is ours;
}

begin_cause : {V : Type 0} (g : Ghosts V) (tells : Type 0) (o : Origin) (when : ℕ) (p q : Seen) (b c x y : V) (m : Listing) (f : IncrFault) → IsLooked g o b x m → BeginRefusal tells o when p q m f → IncrCause g tells o when (incr_site p b x) (incr_site q c y) f
begin_cause g tells o when p q b c x y m fault.NotEmpty l is = absurd is
begin_cause g tells o when p q b c x y m fault.NoManifest l is = absurd is
begin_cause g tells o when p q b c x y m (fault.ManifestRefused why) l is = absurd is
begin_cause g tells o when p q b c x y m (fault.SystemDiffers have expected) l is = absurd is
begin_cause g tells o when p q b c x y m (fault.Overlap start end) l is = (m, has_listing (g.files b) o.settings.system m l.told, l.ours, is.0, is.1, is.2)
begin_cause g tells o when p q b c x y m (fault.Gap place) l is = (m, is.0, record { told = has_listing (g.files b) o.settings.system m l.told; ours = l.ours; behind = is.1 }, is.2)
begin_cause g tells o when p q b c x y m (fault.WalFull k) l is = (is.0, inl is.1)
begin_cause g tells o when p q b c x y m (fault.StoreFailed area) l is = is
begin_cause g tells o when p q b c x y m fault.SumsFailed l is = is
begin_cause g tells o when p q b c x y m fault.PriorFailed l is = absurd is
begin_cause g tells o when p q b c x y m fault.OutFailed l is = absurd is
begin_cause g tells o when p q b c x y m fault.NoMemory l is = tt

judged : {V : Type 0} (g : Ghosts V) (o : Origin) (p : Seen) (b x : V) (m : Listing) (f : IncrFault) → IsLooked g o b x m → IsJudged g o (incr_site p b x) f
judged g o p b x m fault.NotEmpty l = tt
judged g o p b x m fault.NoManifest l = l.nothing
judged g o p b x m (fault.ManifestRefused why) l = l.nothing
judged g o p b x m (fault.SystemDiffers have expected) l = l.nothing
judged g o p b x m (fault.Overlap start end) l = (l.nothing, takes (g.files b) o.settings.system m l.told)
judged g o p b x m (fault.Gap place) l = (l.nothing, takes (g.files b) o.settings.system m l.told)
judged g o p b x m (fault.WalFull k) l = (l.nothing, takes (g.files b) o.settings.system m l.told)
judged g o p b x m (fault.StoreFailed area) l = (l.nothing, takes (g.files b) o.settings.system m l.told)
judged g o p b x m fault.SumsFailed l = (l.nothing, takes (g.files b) o.settings.system m l.told)
judged g o p b x m fault.PriorFailed l = l.nothing
judged g o p b x m fault.OutFailed l = tt
judged g o p b x m fault.NoMemory l = tt

begin_behind : {V : Type 0} (g : Ghosts V) (tells : Type 0) (o : Origin) (when : ℕ) (p q : Seen) (b c x y : V) (m : Listing) (f : IncrFault) → IsSpared g x y → BeginRefusal tells o when p q m f → LeavesBehind g (incr_site p b x) (incr_site q c y) f
begin_behind g tells o when p q b c x y m fault.NotEmpty spared is = absurd is
begin_behind g tells o when p q b c x y m fault.NoManifest spared is = absurd is
begin_behind g tells o when p q b c x y m (fault.ManifestRefused why) spared is = absurd is
begin_behind g tells o when p q b c x y m (fault.SystemDiffers have expected) spared is = absurd is
begin_behind g tells o when p q b c x y m (fault.Overlap start end) spared is = spared
begin_behind g tells o when p q b c x y m (fault.Gap place) spared is = spared
begin_behind g tells o when p q b c x y m (fault.WalFull k) spared is = tt
begin_behind g tells o when p q b c x y m (fault.StoreFailed area) spared is = tt
begin_behind g tells o when p q b c x y m fault.SumsFailed spared is = tt
begin_behind g tells o when p q b c x y m fault.PriorFailed spared is = absurd is
begin_behind g tells o when p q b c x y m fault.OutFailed spared is = tt
begin_behind g tells o when p q b c x y m fault.NoMemory spared is = tt

pub begin_refused : {V : Type 0} (g : Ghosts V) (tells : Type 0) (o : Origin) (name : List ℕ) (when : ℕ) (p q : Seen) (b c x y : V) (m : Listing) (f : IncrFault) → IsLooked g o b x m → IsSpared g x y → BeginRefusal tells o when p q m f
    → IsRefusedIncr g tells o name when (incr_site p b x) (incr_site q c y) f
begin_refused g tells o name when p q b c x y m f l spared refusal =
    let old = incr_site p b x in
    let new = incr_site q c y in
    record {
      cause = begin_cause g tells o when p q b c x y m f l refusal;
      judged = judged g o p b x m f l;
      behind = begin_behind g tells o when p q b c x y m f spared refusal;
      full = full_nothing (g.files x) (StandsStill g old new) l.nothing;
      manifest = manifest_kept g (IsTakenIncrWhole g tells o name when old new) x y f (kept_same (g.files x) (g.files y) spared.files);
    }

-- ---- refusals behind it

send_cause : {V : Type 0} (g : Ghosts V) (tells : Type 0) (o : Origin) (when : ℕ) (p q r : Seen) (b c x y z : V) (m : Listing) (redo : Redo) (basis : Basis) (f : BackupFault) → HasBegun tells o when p q m redo basis → LooksOn 2 p q → LooksOn 1 q r → g.faults x ≤ g.faults y
    → SendCause g o.settings.segment redo (site_of q y) (site_of r z) f → IncrCause g tells o when (incr_site p b x) (incr_site r c z) (incr_fault f)
send_cause g tells o when p q r b c x y z m redo basis backup.NotEmpty h first on le is = absurd is
send_cause g tells o when p q r b c x y z m redo basis (backup.WalFull k) h first on le is =
    let p0 = prefix_trans h.mid q.list r.list h.behind on.stays.seen in
    (is.0, inr (redo.redo.0, checkpoint_on p.worker (length p.list) h.mid r.list redo.redo.0 p0 (checkpoint_at p.worker p.list h.mid redo h.flushed h.checkpoint), is.1))
send_cause g tells o when p q r b c x y z m redo basis (backup.StoreFailed which) h first on le is = share_later which p q r first is
send_cause g tells o when p q r b c x y z m redo basis backup.OutFailed h first on le is = rose_later (g.faults x) (g.faults y) (g.faults z) le is
send_cause g tells o when p q r b c x y z m redo basis backup.NoMemory h first on le is = tt

send_behind : {V : Type 0} (g : Ghosts V) (mib : ℕ) (redo : Redo) (s t : Site V) (old new : IncrSite V) (f : BackupFault) → SendCause g mib redo s t f → LeavesBehind g old new (incr_fault f)
send_behind g mib redo s t old new backup.NotEmpty is = absurd is
send_behind g mib redo s t old new (backup.WalFull k) is = tt
send_behind g mib redo s t old new (backup.StoreFailed which) is = tt
send_behind g mib redo s t old new backup.OutFailed is = tt
send_behind g mib redo s t old new backup.NoMemory is = tt

pub send_refused : {V : Type 0} (g : Ghosts V) (tells : Type 0) (o : Origin) (name : List ℕ) (when : ℕ) (p q r : Seen) (b c x y z : V) (m : Listing) (redo : Redo) (basis : Basis) (f : BackupFault) → IsLooked g o b x m → IsSpared g x y → g.faults x ≤ g.faults y → LooksOn 2 p q → LooksOn 1 q r
    → SparesManifest g y z → HasBegun tells o when p q m redo basis → SendCause g o.settings.segment redo (site_of q y) (site_of r z) f → IsRefusedIncr g tells o name when (incr_site p b x) (incr_site r c z) (incr_fault f)
send_refused g tells o name when p q r b c x y z m redo basis f l spared le first on spares h refusal =
    let old = incr_site p b x in
    let new = incr_site r c z in
    record {
      cause = send_cause g tells o when p q r b c x y z m redo basis f h first on le refusal;
      judged = judged g o p b x m (incr_fault f) l;
      behind = send_behind g o.settings.segment redo (site_of q y) (site_of r z) old new f refusal;
      full = full_nothing (g.files x) (StandsStill g old new) l.nothing;
      manifest = manifest_kept g (IsTakenIncrWhole g tells o name when old new) x z (incr_fault f) (kept_on (g.files x) (g.files y) (g.files z) (kept_same (g.files x) (g.files y) spared.files) spares.manifest);
    }

-- ---- steps

-- the files weren't sent
as_send : {V : Type 0} (g : Ghosts V) (mib : ℕ) (redo : Redo) (a b : Site V) (f : BackupFault) → CopyCause g a b f → SendCause g mib redo a b f
as_send g mib redo a b backup.NotEmpty is = is
as_send g mib redo a b (backup.WalFull k) is = absurd is
as_send g mib redo a b (backup.StoreFailed which) is = is
as_send g mib redo a b backup.OutFailed is = is
as_send g mib redo a b backup.NoMemory is = tt

pub copy_refused : {V T : Type 0} (g : Ghosts V) (mib : ℕ) (redo : Redo) (a b : Site V) (r : Result T BackupFault) (why : BackupFault) → IsErrAnd r (λ x. x ≡ why) → CopyCause g a b why → IfErr r (SendCause g mib redo a b)
copy_refused g mib redo a b r why is cause = err_cause r why (SendCause g mib redo a b) is (as_send g mib redo a b why cause)

-- all were, and the backup ended
pub sent_whole : (tells : Type 0) (mib : ℕ) (was mid now : Seen) (b : Basis) (modified : List ℕ) (files : Option Files) (redo : Redo) (end : Lsn) (flushed : Flushed) (rows : List FileRow) → LooksOn 0 was mid → SendsStore tells mid.list redo.redo.0 b modified files rows
    → HasEnded mid.worker redo.redo.0 mid.list now.list end flushed → IsPlaced mib now.list end.0 → 1 ≤ mib → IsSentWhole tells mib was now b modified files redo end rows
sent_whole tells mib was mid now b modified files redo end flushed rows on sends ends placed size = record {
  seen = mid.list;
  later = on.stays.seen;
  sends = sends;
  flushed = flushed;
  ends = subst (λ (w : ℕ). HasEnded w redo.redo.0 mid.list now.list end flushed) on.stays.worker ends;
  placed = placed;
  size = size;
}

-- the backup's end wasn't appended, or not flushed
end_refusal : {V : Type 0} (g : Ghosts V) (mib : ℕ) (redo : Redo) (was mid now : Seen) (x y : V) (why : MarkFault) → LooksOn 0 was mid → MayFindNoRoomFor (BackupEnd redo.redo.0) mib now.list why → TakesMarkFault {T = Unit {0}} mid now (Err why)
    → SendCause g mib redo (site_of was x) (site_of now y) (mark_fault why)
end_refusal g mib redo was mid now x y (mark.Failed which) on full takes = share_later which was mid now on (takes_rose which mid now takes)
end_refusal g mib redo was mid now x y (mark.WalFull n) on full takes = full
end_refusal g mib redo was mid now x y mark.NoMemory on full takes = tt

pub end_refused : {V T : Type 0} (g : Ghosts V) (mib : ℕ) (redo : Redo) (was mid now : Seen) (x y : V) (r : Result T BackupFault) (why : MarkFault) → IsErrAnd r (λ x. x ≡ mark_fault why) → LooksOn 0 was mid → MayFindNoRoomFor (BackupEnd redo.redo.0) mib now.list why
    → TakesMarkFault {T = Unit {0}} mid now (Err why) → IfErr r (SendCause g mib redo (site_of was x) (site_of now y))
end_refused g mib redo was mid now x y r why is on full takes = err_cause r (mark_fault why) (SendCause g mib redo (site_of was x) (site_of now y)) is (end_refusal g mib redo was mid now x y why on full takes)

-- ---- a backup that was taken

copied : (tells : Type 0) (worker start : ℕ) (seen new : List Entry) (from : ℕ) (end : Lsn) (flushed : Flushed) (fork : ForkId) (block : ℕ) (page : List ℕ) → HasEnded worker start seen new end flushed → IsPageSeen tells seen from fork block page → IsCopyOf tells new from end.0 fork block page
copied tells worker start seen new from end flushed fork block page ends is = (
  is.0,
  λ t.
      let c = is.1 t in
      record {
        seen = c.moment;
        prefix = end_comes_behind worker start from c.moment seen new end flushed c.redo c.before ends;
        answer = c.answer;
        copied = c.copied;
        written = c.written;
      },
)

pub files_sent : (tells : Type 0) (worker start : ℕ) (seen new : List Entry) (from : ℕ) (end : Lsn) (flushed : Flushed) (files : List SentFile) → HasEnded worker start seen new end flushed → AllByRecursion (IsSeenAs tells seen from) files → AllByRecursion (IsSentAs tells new from end.0) files
files_sent tells worker start seen new from end flushed files ends all =
    all_more (IsSeenAs tells seen from) (IsSentAs tells new from end.0) files
    (λ f is.
    for_more (λ b page. IsPageSeen tells seen from f.what.fork (f.what.first + b) page) (λ b page. IsCopyOf tells new from end.0 f.what.fork (f.what.first + b) page) (blocks_sent f.what.count f.what.plan) f.pages
    (λ b page c. copied tells worker start seen new from end flushed f.what.fork (f.what.first + b) page ends c) is)
    all

pub forks_listed : {modified : List ℕ} (tells : Type 0) (worker start : ℕ) (seen new : List Entry) (from : ℕ) (end : Lsn) (flushed : Flushed) (b : Basis) (files : Option Files) (rows : List FileRow) → HasEnded worker start seen new end flushed → (sends : SendsStore tells seen from b modified files rows)
    → AreListed tells new from end.0 sends.list
forks_listed tells worker start seen new from end flushed b files rows ends sends = record {
  order = sends.lists.order;
  named = sends.named;
  listed = λ t fork.
      let l = sends.lists.listed t fork in
      record { seen = l.moment; prefix = end_comes_behind worker start from l.moment seen new end flushed l.redo l.before ends; listed = l.listed };
}

-- ---- the end

end_cause : {V : Type 0} (g : Ghosts V) (tells : Type 0) (o : Origin) (when : ℕ) (p r : Seen) (b c x y z : V) (f : BackupFault) → g.faults x ≤ g.faults y → EndCause g y z f → IncrCause g tells o when (incr_site p b x) (incr_site r c z) (incr_fault f)
end_cause g tells o when p r b c x y z backup.NotEmpty le is = absurd is
end_cause g tells o when p r b c x y z (backup.WalFull k) le is = absurd is
end_cause g tells o when p r b c x y z (backup.StoreFailed which) le is = absurd is
end_cause g tells o when p r b c x y z backup.OutFailed le is = rose_later (g.faults x) (g.faults y) (g.faults z) le is
end_cause g tells o when p r b c x y z backup.NoMemory le is = tt

end_behind : {V : Type 0} (g : Ghosts V) (y z : V) (old new : IncrSite V) (f : BackupFault) → EndCause g y z f → LeavesBehind g old new (incr_fault f)
end_behind g y z old new backup.NotEmpty is = absurd is
end_behind g y z old new (backup.WalFull k) is = absurd is
end_behind g y z old new (backup.StoreFailed which) is = absurd is
end_behind g y z old new backup.OutFailed is = tt
end_behind g y z old new backup.NoMemory is = tt

as_incr : {V : Type 0} (g : Ghosts V) (whole : Type 0) (old new : V) (f : BackupFault) → LeavesManifest g whole old new f → LeavesIncrManifest g whole old new (incr_fault f)
as_incr g whole old new backup.NotEmpty left = left
as_incr g whole old new (backup.WalFull k) left = left
as_incr g whole old new (backup.StoreFailed which) left = left
as_incr g whole old new backup.OutFailed left = left
as_incr g whole old new backup.NoMemory left = left

-- what was done before the end: the checkpoint, the summary and the files
pub record IsDone (tells : Type 0) (o : Origin) (when : ℕ) (p q r : Seen) (files : Option Files) (m : Listing) (redo : Redo) (basis : Basis) (modified : List ℕ) (end : Lsn) (rows : List FileRow) : Type 0 where
  pub begun : HasBegun tells o when p q m redo basis
  pub sent : IsSentWhole tells o.settings.segment q r basis modified files redo end rows
  pub first : LooksOn 2 p q
  pub on : LooksOn 1 q r

backup_of : (tells : Type 0) (o : Origin) (when : ℕ) (p q r : Seen) (files : Option Files) (m : Listing) (redo : Redo) (basis : Basis) (modified : List ℕ) (end : Lsn) (rows : List FileRow) → IsDone tells o when p q r files m redo basis modified end rows
    → HasBackupAt p.worker (length p.list) r.list redo.redo.0 redo.at.0 end.0
backup_of tells o when p q r files m redo basis modified end rows d =
    has_backup p.worker q.worker p.list d.begun.mid d.sent.seen r.list redo end d.begun.flushed d.sent.flushed d.begun.checkpoint (prefix_trans d.begun.mid q.list d.sent.seen d.begun.behind d.sent.later) d.first.stays.worker d.sent.ends

-- what finish is given
pub can_finish_incr : (tells : Type 0) (o : Origin) (when : ℕ) (p q r : Seen) (files : Option Files) (m : Listing) (redo : Redo) (basis : Basis) (modified : List ℕ) (end : Lsn) (rows : List FileRow) (settings : StoreSettings) → settings ≡ o.settings
    → IsDone tells o when p q r files m redo basis modified end rows → CanFinish settings modified files redo end rows
can_finish_incr tells o when p q r files m redo basis modified end rows settings same d =
    let rises = start_below p.worker p.list d.begun.mid r.list redo d.begun.flushed end.0 d.begun.checkpoint (prefix_trans d.begun.mid q.list r.list d.begun.behind d.on.stays.seen) d.sent.placed.last in
    record {
      put = map file_of d.sent.sends.put;
      held = d.sent.sends.held;
      rises = rises;
      segment = subst (λ (x : StoreSettings). segment_number redo.redo.0 x.segment ≤ most_segments) (sym same) (in_segment o.settings.segment redo.redo.0 end.0 d.sent.size rises d.sent.placed.room);
    }

pub taken_incr : {V : Type 0} (g : Ghosts V) (tells : Type 0) (o : Origin) (name : List ℕ) (when : ℕ) (p q r : Seen) (b c x y z : V) (m : Listing) (redo : Redo) (basis : Basis) (modified : List ℕ) (end : Lsn) (rows : List FileRow) (start : Lsn) (count : ℕ) → IsLooked g o b x m
    → IsDone tells o when p q r (g.files y) m redo basis modified end rows → start ≡ record { 0 = m.start } → Finishes o.settings name when modified (g.files y) (g.files z) redo (Some start) end rows count
    → IsTakenIncr g tells o name when (incr_site p b x) (incr_site r c z) (record { start = redo.redo; end = end; files = count })
taken_incr g tells o name when p q r b c x y z m redo basis modified end rows start count l d start_is finishes =
    let h = d.begun in
    let prior : start ≡ record { 0 = basis.prior.start } = start_is ∙ ap (λ (k : Listing). record { 0 = k.start }) (sym h.prior) in
    record {
      checkpoint = redo.at.0;
      entries = backup_of tells o when p q r (g.files y) m redo basis modified end rows d;
      basis = basis;
      relseg = h.relseg;
      prior = subst (λ (k : Listing). IsPrior g o (incr_site p b x) k redo.redo.0) (sym h.prior) (record { told = has_listing (g.files b) o.settings.system m l.told; ours = l.ours; behind = h.apart });
      summed = subst (λ (k : Listing). IsSummedUp tells o when p r redo.redo.0 k.start (Ok basis.summary)) (sym h.prior)
          (summed_on tells o.found o.sums when o.limit p.worker (length p.list) q.list r.list redo.redo.0 m.start (Ok basis.summary) d.on.stays.seen h.summed);
      list = d.sent.sends.list;
      listed = forks_listed {modified = modified} tells q.worker redo.redo.0 d.sent.seen r.list redo.redo.0 end d.sent.flushed basis (g.files y) rows d.sent.ends d.sent.sends;
      files = d.sent.sends.put;
      sent = record {
        planned_are = d.sent.sends.planned_are;
        sent = files_sent tells q.worker redo.redo.0 d.sent.seen r.list redo.redo.0 end d.sent.flushed d.sent.sends.put d.sent.ends d.sent.sends.sent;
      };
      directory =
          subst (λ (at : Lsn). IsDirectory o.settings (λ begun. incr_label redo.redo redo.at at begun name) when (map file_of d.sent.sends.put) redo.redo end count (g.files z)) prior
          (finishes (map file_of d.sent.sends.put) d.sent.sends.held);
    }

pub finish_refused : {V : Type 0} (g : Ghosts V) (tells : Type 0) (o : Origin) (name : List ℕ) (when : ℕ) (p q r : Seen) (b c x w y z : V) (m : Listing) (redo : Redo) (basis : Basis) (modified : List ℕ) (end : Lsn) (rows : List FileRow) (start : Lsn) (f : BackupFault) → IsLooked g o b x m → IsSpared g x w
    → g.faults x ≤ g.faults w → SparesManifest g w y → IsDone tells o when p q r (g.files y) m redo basis modified end rows → start ≡ record { 0 = m.start } → EndCause g y z f
    → LeavesManifest g ((count : ℕ) × Finishes o.settings name when modified (g.files y) (g.files z) redo (Some start) end rows count) y z f → IsRefusedIncr g tells o name when (incr_site p b x) (incr_site r c z) (incr_fault f)
finish_refused g tells o name when p q r b c x w y z m redo basis modified end rows start f l spared le spares d start_is cause left =
    let old = incr_site p b x in
    let new = incr_site r c z in
    let later : g.faults x ≤ g.faults y = omega (arith, le, spares.faults) in
    record {
      cause = end_cause g tells o when p r b c x y z f later cause;
      judged = judged g o p b x m (incr_fault f) l;
      behind = end_behind g y z old new f cause;
      full = full_nothing (g.files x) (StandsStill g old new) l.nothing;
      manifest =
          as_incr g (IsTakenIncrWhole g tells o name when old new) x z f
          (leaves_behind g ((count : ℕ) × Finishes o.settings name when modified (g.files y) (g.files z) redo (Some start) end rows count) (IsTakenIncrWhole g tells o name when old new) x y z f
          (kept_on (g.files x) (g.files w) (g.files y) (kept_same (g.files x) (g.files w) spared.files) spares.manifest) later
          (λ done. (record { start = redo.redo; end = end; files = done.0 }, taken_incr g tells o name when p q r b c x y z m redo basis modified end rows start done.0 l d start_is done.1)) left);
    }

-- ---- the answers

pub err_answer : {V : Type 0} (g : Ghosts V) (tells : Type 0) (o : Origin) (name : List ℕ) (when : ℕ) (old new : IncrSite V) (r : Result Done IncrFault) (f : IncrFault) → IsErrAnd r (λ x. x ≡ f) → IsRefusedIncr g tells o name when old new f → IncrAnswers g tells o name when old new r
err_answer g tells o name when old new (Ok done) f is refused = absurd is
err_answer g tells o name when old new (Err x) f is refused = subst (IsRefusedIncr g tells o name when old new) (sym is) refused
