-- Pages shown in the forks of an area that was empty, and what is restored into them.
use Rattle.std.proofs.Common.{◌≡◌, ℕ, ◌<◌, ◌≤◌, arith, List, Option, Some, None, IsSome, IfSome, Result, Ok, Err, ap, sym, subst, ◌∙◌}
use Rattle.std.specs.Ordering.{nat_cmp}
use Rattle.std.specs.Cmp.Lexicographic.{slice_cmp}
use Rattle.std.specs.FinMap.{empty, get, get-empty}
use Rattle.lsn_core.specs.byte_words.Told.{when_told}
use Rattle.lsn_core.specs.Causes.{Rose}
use Rattle.lsn_core.specs.Files.{Files}
use Rattle.lsn_core.specs.Segment.{StoreSettings}
use Rattle.lsn_core.specs.declared.lsn.Lsn.{Lsn}
use Rattle.lsn_core.specs.declared.pages.Pages.{Ghosts as Pages}
use Rattle.lsn_core.specs.Store.{Store, fork_cmp, files_of}
use Rattle.vault.specs.Area.{Related}
use Rattle.vault.specs.Frame.{AgreeBut, ChangesOnly}
use Rattle.vault.proofs.Changed.{changes_on}
use Rattle.vault.specs.declared.area.Vault.{Ghosts}
use Rattle.vault.specs.declared.lending.Held.{Held}
use Rattle.rel_files.specs.Forks.{IsForkPath, Holds, HasWholePages}
use Rattle.rel_files.specs.Shown.{AreFilesOf, HoldsStore, ShowsStore, KeepsOthers}
use Rattle.rel_files.specs.declared.forks.Forks.{Forks}
use Rattle.rel_files.proofs.WholeStores.{nothing_is_held, files_are_exact}
use Rattle.recovery.specs.declared.fault.RecoveryFault.{RecoveryFault}
use Rattle.recovery.specs.declared.fault.RecoveryFault.TheVariants as fault
use Rattle.recovery.specs.declared.reading.Beginning.TheVariants.{AtPlace}
use Rattle.recovery.specs.declared.replaying.Replayed.{Replayed}
use Rattle.recovery.specs.declared.tally.Tally.{Tally}
use Rattle.recovery.specs.Causes.{CauseOf}
use Rattle.recovery.specs.Onward.{replayed_to}
use Rattle.recovery.specs.Recovered.{IsRecovered, HasBadRedo, redo_causes}
use Rattle.chain_files.specs.Sources.{OfChain}
use Rattle.chain_files.specs.Told.{chain_told}
use Rattle.backup_restore.specs.declared.fault.RestoreFault.{RestoreFault}
use Rattle.backup_restore.specs.declared.fault.RestoreFault.TheVariants.{Backup, Wal, Out}
use Rattle.backup_restore.specs.Restored.{MakesOf, HasBadEntry, restore_causes}
use Rattle.backup_restore.specs.Inside.{IsShownIn, area_shows, IsCopied, CopiesStore, RedoesOver, areas_in, Restores}
use Rattle.backup_restore.proofs.Chains.{when_chain}

none_some : {X : Type 0} (x : X) → None ≡ Some x → ⊥
none_some x e = absurd cc

-- no fork of the empty store has a page that isn't whole
empty_whole : HasWholePages empty
empty_whole fork pages is = absurd (none_some pages (sym (get-empty fork_cmp fork) ∙ is))

-- forks that hold the empty store show it
pub empty_shown : {V : Type 0} (g : Ghosts V) (forks : Forks V) → HoldsStore g forks empty → ShowsStore g forks empty
empty_shown g forks held = record { holds = held; whole = empty_whole }

-- files without any hold the empty store
pub empty_held : (relseg : ℕ) (told : Option Files) → told ≡ Some empty → AreFilesOf relseg told empty
empty_held relseg told is = record { files = empty; are_told = is; hold = nothing_is_held relseg empty (λ path named. get-empty (slice_cmp nat_cmp) path) }

-- files that differ from none in segment files alone are just those of the store that they hold
only_forks : (new : Files) → AgreeBut IsForkPath empty new → (path : List ℕ) → (IsForkPath path → ⊥) → get new path ≡ None
only_forks new same path other = same path other ∙ get-empty (slice_cmp nat_cmp) path

related_to : (R : Files → Files → Type 0) (old new : Option Files) (m n : Files) → old ≡ Some m → new ≡ Some n → Related R old new → R m n
related_to R old new m n is now related = subst (λ (o : Option Files). Related R (Some m) o) now (subst (λ (o : Option Files). Related R o new) is related)

-- the files of an area that was empty, and in which only segment files changed since, are just those of
-- the store that its forks show, and hold it
pub record AreFilesOfStore (relseg : ℕ) (told : Option Files) (store : Store) : Type 0 where
  pub are : told ≡ Some (files_of relseg store)
  pub hold : Holds relseg (files_of relseg store) store

pub files_shown : {V : Type 0} (g : Ghosts V) (out : V) (new : Forks V) (relseg : ℕ) (store : Store) → 0 < relseg → new.relseg ≡ relseg → g.files out ≡ Some empty → ChangesOnly g IsForkPath out new.area → ShowsStore g new store
    → AreFilesOfStore relseg (g.files new.area) store
files_shown g out new relseg store some size none changes shown =
    let held = shown.holds.files in
    let same : Holds relseg held.files store = subst (λ (n : ℕ). Holds n held.files store) size held.hold in
    let agree : AgreeBut IsForkPath empty held.files = related_to (AgreeBut IsForkPath) (g.files out) (g.files new.area) empty held.files none held.are_told changes.files in
    let exact : held.files ≡ files_of relseg store = files_are_exact relseg held.files store some same (only_forks held.files agree) in
    record {
      are = held.are_told ∙ ap (λ (m : Files). Some m) exact;
      hold = subst (λ (m : Files). Holds relseg m store) exact same;
    }

pub told_empty : (told : Option Files) → IfSome told (λ m. m ≡ empty) → IsSome told → told ≡ Some empty
told_empty None clear some = absurd (cc)
told_empty (Some m) clear some = ap (λ (f : Files). Some f) clear

rose_later : (before mid now : ℕ) → before ≤ mid → Rose mid now → Rose before now
rose_later before mid now later rose = omega (arith, later, rose)

-- ---- a restore into the forks of an area

-- an area without files shows the empty store
pub nothing_shown : (relseg : ℕ) (told : Option Files) → told ≡ Some empty → IsShownIn relseg told empty
nothing_shown relseg told is = record { files = empty_held relseg told is; whole = empty_whole }

module _ {V : Type 0} (g : Ghosts V) (p : Pages (Forks V)) where
  -- a chain was copied into an area's files, and the WAL redone over the forks in them
  pub record Came (s : StoreSettings) (start : Lsn) (upto : Option Lsn) (places : List ℕ) (wal : V) (areas : List (Held V)) (out wal_now : V) (came : Result Replayed RestoreFault) : Type 0 where
    pub mid : V
    pub counted : Tally
    pub old : Forks V
    pub new : Forks V
    pub shows : (f : Forks V) (store : Store) → ShowsStore g f store → p.shows f store
    pub shown : (f : Forks V) (store : Store) → p.shows f store → ShowsStore g f store
    pub faults : (f : Forks V) → p.faults f ≡ g.faults f.area
    pub clear : IfSome (g.files out) (λ m. m ≡ empty)
    pub copied : CopiesStore (area_shows g s.relseg) s.relseg (chain_told g areas places) out mid counted
    pub changes : ChangesOnly g IsForkPath out mid
    pub relseg : old.relseg ≡ s.relseg
    pub some : 0 < s.relseg
    pub area : old.area ≡ mid
    pub held : (store : Store) → AreFilesOf s.relseg (g.files mid) store → HoldsStore g old store
    pub kept : KeepsOthers g old new
    pub redone : RedoesOver g p s start upto counted wal wal_now old new came

  module _ (s : StoreSettings) (start : Lsn) (upto : Option Lsn) (places : List ℕ) (wal : V) (areas : List (Held V)) (out wal_now : V) (came : Result Replayed RestoreFault) (c : Came s start upto places wal areas out wal_now came) where
    -- the copy that the pages show before the WAL is redone
    copy_in : IsSome (g.files out) → OfChain (chain_told g areas places) (λ m. IsCopied (p.shows c.old) s.relseg m c.counted)
    copy_in told =
        when_chain (chain_told g areas places) (λ m. IsCopied (area_shows g s.relseg c.mid) s.relseg m c.counted) (λ m. IsCopied (p.shows c.old) s.relseg m c.counted)
        (λ m copy. record {
          copy = copy.copy;
          held = copy.held;
          there = c.shows c.old copy.copy (record { holds = c.held copy.copy copy.there.files; whole = copy.there.whole });
          counted = copy.counted;
        }) (c.copied (nothing_shown s.relseg (g.files out) (told_empty (g.files out) c.clear told)))

    -- all that was changed since the area was empty
    all_changes : ChangesOnly g IsForkPath out c.new.area
    all_changes = changes_on g IsForkPath out c.mid c.new.area c.changes (subst (λ (v : V). ChangesOnly g IsForkPath v c.new.area) c.area c.kept.area)

    made_of : (r : Replayed) → (done : IsRecovered p s (g.files wal) (AtPlace start) upto c.counted c.old c.new r) → IsSome (g.files out)
        → OfChain (chain_told g areas places) (λ m. MakesOf s.relseg m done.entries (replayed_to upto r.tip) r (g.files c.new.area))
    made_of r done told =
        when_chain (chain_told g areas places) (λ m. IsCopied (p.shows c.old) s.relseg m c.counted) (λ m. MakesOf s.relseg m done.entries (replayed_to upto r.tip) r (g.files c.new.area))
        (λ m copy. let one = done.redone copy.copy copy.there in
        let shown = c.shown c.new one.next one.shown in
        let files = files_shown g out c.new s.relseg one.next c.some (c.kept.relseg ∙ c.relseg) (told_empty (g.files out) c.clear told) all_changes shown in record {
          copy = copy.copy;
          held = copy.held;
          store = one.next;
          redone = one.is;
          written = files.are;
          holds = files.hold;
          pages_whole = shown.whole;
          forks = one.forks copy.counted;
          pages = one.pages copy.counted;
        }) (copy_in told)

    bad_entry : (place : Lsn) → IfSome (g.files wal) (λ w. HasBadRedo (p.shows c.old) s w (AtPlace start) upto place) → IsSome (g.files out)
        → OfChain (chain_told g areas places) (λ b. IfSome (g.files wal) (λ w. HasBadEntry s w b start upto place))
    bad_entry place bad told =
        when_chain (chain_told g areas places) (λ m. IsCopied (p.shows c.old) s.relseg m c.counted) (λ b. IfSome (g.files wal) (λ w. HasBadEntry s w b start upto place))
        (λ b copy. when_told (g.files wal) (λ w. HasBadRedo (p.shows c.old) s w (AtPlace start) upto place) (λ w. HasBadEntry s w b start upto place)
        (λ w has. record {
          entries = has.entries;
          last = has.last;
          read = has.read;
          reached = has.reached;
          copy = copy.copy;
          held = copy.held;
          bad = has.bad copy.copy copy.there;
        }) bad) (copy_in told)

  refused : (s : StoreSettings) (start : Lsn) (upto : Option Lsn) (places : List ℕ) (wal : V) (areas : List (Held V)) (out wal_now : V) (came : Result Replayed RestoreFault) (c : Came s start upto places wal areas out wal_now came) (why : RecoveryFault)
      → CauseOf (redo_causes (p.shows c.old) s (AtPlace start) upto (g.files wal)) (g.faults wal) (g.faults wal_now) why
      → CauseOf (restore_causes s start upto (areas_in g places wal areas out)) (g.faults wal) (g.faults wal_now) why
  refused s start upto places wal areas out wal_now came c (fault.Damaged mib damage) cause = cause
  refused s start upto places wal areas out wal_now came c (fault.Short end target) cause = cause
  refused s start upto places wal areas out wal_now came c (fault.BadDelta place) cause = λ told. bad_entry s start upto places wal areas out wal_now came c place cause told
  refused s start upto places wal areas out wal_now came c fault.SettingsDamaged cause = absurd cause
  refused s start upto places wal areas out wal_now came c (fault.Timeline name) cause = absurd cause
  refused s start upto places wal areas out wal_now came c fault.NotInit cause = absurd cause
  refused s start upto places wal areas out wal_now came c fault.Failed cause = cause
  refused s start upto places wal areas out wal_now came c fault.NoMemory cause = cause

  pub restored_out : (s : StoreSettings) (start : Lsn) (upto : Option Lsn) (places : List ℕ) (wal : V) (areas : List (Held V)) (out wal_now : V) (areas_now : List (Held V)) (out_now : V) (came : Result Replayed RestoreFault) (c : Came s start upto places wal areas out wal_now came) → out_now ≡ c.new.area
      → Restores g s start upto places wal areas out wal_now areas_now out_now came
  restored_out s start upto places wal areas out wal_now areas_now out_now (Ok r) c same = record {
    entries = c.redone.entries;
    read = c.redone.read;
    end = c.redone.end;
    made = λ told. subst (λ (v : V). OfChain (chain_told g areas places) (λ m. MakesOf s.relseg m c.redone.entries (replayed_to upto r.tip) r (g.files v))) (sym same)
        (made_of s start upto places wal areas out wal_now (Ok r) c r c.redone told);
  }
  restored_out s start upto places wal areas out wal_now areas_now out_now (Err (Wal why)) c same = refused s start upto places wal areas out wal_now (Err (Wal why)) c why c.redone
  restored_out s start upto places wal areas out wal_now areas_now out_now (Err (Backup fault)) c same = absurd c.redone
  restored_out s start upto places wal areas out wal_now areas_now out_now (Err (Out why)) c same = λ failed.
      subst (λ (v : V). Rose (g.faults out) (g.faults v)) (sym same)
      (rose_later (g.faults out) (g.faults c.mid) (g.faults c.new.area) c.changes.faults
      (subst (λ (v : V). Rose (g.faults v) (g.faults c.new.area)) c.area
      (subst (λ (n : ℕ). Rose n (g.faults c.new.area)) (c.faults c.old) (subst (λ (n : ℕ). Rose (p.faults c.old) n) (c.faults c.new) (c.redone failed)))))
