-- Steps of a backup, one behind the other.
use Rattle.std.proofs.Common.{◌≡◌, ℕ, ◌+◌, ◌≤◌, Result, refl, ◌∙◌, arith}
use Rattle.timeline.proofs.Prefixes.{prefix_refl, prefix_trans}
use Rattle.lsn_core.specs.Causes.{HasCause}
use Rattle.lsn_core.specs.declared.fault.MarkFault.{MarkFault}
use Rattle.lsn_core.specs.declared.fault.StoreArea.{StoreArea}
use Rattle.lsn_core.specs.declared.fault.StoreFault.{StoreFault}
use Rattle.lsn_core.specs.declared.fault.StoreFault.TheVariants as store
use Rattle.lsn_core.specs.declared.fault.AreaFault.{AreaFault}
use Rattle.lsn_core.specs.declared.fault.AreaFault.TheVariants as area
use Rattle.vault.specs.declared.area.Vault.{Ghosts}
use Rattle.store_locks.specs.Seen.{Seen, StaysBy, ShareRose, TakesFault}
use Rattle.shared_store.specs.Shared.{TakesFaults, TakesMarkFault}
use Rattle.store_locks.specs.Copied.{HasRedoPoint}
use Rattle.shared_store.proofs.Booked.{mark_stays, takes_rose, takes_stays}
use Rattle.store_locks.proofs.RedoPoints.{redo_stays}
use Rattle.backup_sending.specs.Backup.{LooksOn, Site, site_of}
use Rattle.backup_files.specs.Area.{SparesManifest}
use Rattle.backup_sending.specs.Inside.{CallCause, CopiesOn, CopyCause}
use Rattle.store_faults.specs.Giving.{area_fault, store_fault}
use Rattle.store_faults.specs.declared.backup_fault.BackupFault.{BackupFault}
use Rattle.store_faults.specs.declared.backup_fault.BackupFault.TheVariants as fault
use Rattle.backup_files.proofs.Kept.{err, rose_later}
use Rattle.backup_files.proofs.Kept.{spares_still, spares_on}

-- ---- the pass

pub stays_still : (seen : Seen) → StaysBy seen seen
stays_still seen = record { seen = prefix_refl seen.list; worker = refl }

pub stays_on : (a b c : Seen) → StaysBy a b → StaysBy b c → StaysBy a c
stays_on a b c x y = record { seen = prefix_trans a.list b.list c.list x.seen y.seen; worker = y.worker ∙ x.worker }

pub looks_still : (seen : Seen) → LooksOn 0 seen seen
looks_still seen = record { stays = stays_still seen; accepted = refl; marks = omega arith; shares = record { later = λ which. omega arith } }

pub looks_on : {m n : ℕ} (a b c : Seen) → LooksOn m a b → LooksOn n b c → LooksOn (m + n) a c
looks_on {m} {n} a b c x y = record {
  stays = stays_on a b c x.stays y.stays;
  accepted = y.accepted ∙ x.accepted;
  marks = omega (arith, x.marks, y.marks);
  shares = record { later = λ which. omega (arith, x.shares.later which, y.shares.later which) };
}

-- with fewer marks than may be
pub looks_less : {m : ℕ} (n : ℕ) (a b : Seen) → m ≤ n → LooksOn m a b → LooksOn n a b
looks_less {m} n a b le x = record { stays = x.stays; accepted = x.accepted; marks = omega (arith, x.marks, le); shares = x.shares }

pub redo_on : {m : ℕ} (p q : Seen) (from : ℕ) → LooksOn m p q → HasRedoPoint p.list from → HasRedoPoint q.list from
redo_on {m} p q from x has = redo_stays from p.list q.list has x.stays.seen

-- a share that rose behind others
pub share_later : {m : ℕ} (which : StoreArea) (a b c : Seen) → LooksOn m a b → ShareRose which b c → ShareRose which a c
share_later {m} which a b c x is = omega (arith, x.shares.later which, is)

-- ---- a call of the store

-- it books the fault that it answers
pub call_looks : {T : Type 0} (old new : Seen) (r : Result T StoreFault) → StaysBy old new → new.accepted ≡ old.accepted → new.marks ≡ old.marks → TakesFaults old new r → LooksOn 0 old new
call_looks old new r stays accepted marks takes = record { stays = stays; accepted = accepted; marks = omega (arith, marks); shares = takes_stays old new r takes }

pub call_cause : (old new : Seen) (why : StoreFault) → TakesFault old new why → CallCause old new why
call_cause old new (store.Failed which) takes = takes_rose which old new takes
call_cause old new store.NoMemory takes = tt

pub mark_looks : {T : Type 0} {most : ℕ} (old new : Seen) (r : Result T MarkFault) → StaysBy old new → new.accepted ≡ old.accepted → new.marks ≤ old.marks + most → TakesMarkFault old new r → LooksOn most old new
mark_looks old new r stays accepted marks takes = record { stays = stays; accepted = accepted; marks = marks; shares = mark_stays old new r takes }

-- one that publishes summaries too
pub call_later : {m : ℕ} (a b c : Seen) (why : StoreFault) → LooksOn m a b → CallCause b c why → CallCause a c why
call_later {m} a b c (store.Failed which) x is = share_later which a b c x is
call_later {m} a b c store.NoMemory x is = tt

-- ---- both

pub copies_on : {V : Type 0} (g : Ghosts V) (a b c : Site V) → CopiesOn g a b → CopiesOn g b c → CopiesOn g a c
copies_on g a b c x y = record {
  looks = looks_on a.seen b.seen c.seen x.looks y.looks;
  spares = spares_on g a.out b.out c.out x.spares y.spares;
}

-- a call of the store alone
pub copies_store : {V : Type 0} (g : Ghosts V) (was now : Seen) (out : V) → LooksOn 0 was now → CopiesOn g (site_of was out) (site_of now out)
copies_store g was now out looks = record { looks = looks; spares = spares_still g out }

-- a call on the area alone
pub copies_area : {V : Type 0} (g : Ghosts V) (seen : Seen) (old new : V) → SparesManifest g old new → CopiesOn g (site_of seen old) (site_of seen new)
copies_area g seen old new spares = record { looks = looks_still seen; spares = spares }

-- ---- causes

pub cause_behind : {V : Type 0} (g : Ghosts V) (a b c : Site V) (why : BackupFault) → CopiesOn g a b → CopyCause g b c why → CopyCause g a c why
cause_behind g a b c fault.NotEmpty x is = is
cause_behind g a b c (fault.WalFull n) x is = is
cause_behind g a b c (fault.StoreFailed which) x is = share_later which a.seen b.seen c.seen x.looks is
cause_behind g a b c fault.OutFailed x is = rose_later (g.faults a.out) (g.faults b.out) (g.faults c.out) x.spares.faults is
cause_behind g a b c fault.NoMemory x is = tt

-- a call of the store alone failed
pub store_cause : {V : Type 0} (g : Ghosts V) (a b : Site V) (why : StoreFault) → CallCause a.seen b.seen why → CopyCause g a b (store_fault why)
store_cause g a b (store.Failed which) is = is
store_cause g a b store.NoMemory is = tt

-- a call on the area alone failed
pub area_cause : {V T : Type 0} (g : Ghosts V) (seen : Seen) (old new : V) (why : AreaFault) → HasCause (g.faults old) (g.faults new) (err T why) → CopyCause g (site_of seen old) (site_of seen new) (area_fault why)
area_cause g seen old new area.Failed is = is.failed refl
area_cause g seen old new area.NoMemory is = tt
