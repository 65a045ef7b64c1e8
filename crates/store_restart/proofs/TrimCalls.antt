-- Calls on an archive's files, as what a trim does.
use Rattle.std.proofs.Common.{◌≡◌, ℕ, ◌<◌, ◌≤◌, ◌%◌, true, inr, List, Option, Some, None, Result, Err, OnOk, OnErr, refl, sym, subst, ◌∙◌, arith}
use Rattle.lsn_core.specs.Files.{Files}
use Rattle.lsn_core.specs.Names.{segment_name_bytes, segment_number}
use Rattle.lsn_core.specs.Segment.{segment_bytes}
use Rattle.lsn_core.specs.declared.fault.AreaFault.{AreaFault}
use Rattle.lsn_core.specs.declared.fault.AreaFault.TheVariants.{NoMemory}
use Rattle.vault.specs.declared.area.Vault.{Ghosts}
use Rattle.vault.specs.Area.{Related, Cuts, MayCut, Removes, MayRemove}
use Rattle.vault.specs.Stops.{Event, cut, removed, synced, noted, Notes, Tries}
use Rattle.vault.specs.Frame.{AgreeBut, Adds, ChangesOnly, IsAmong}
use Rattle.vault.proofs.Through.{adds_none, adds_by, adds_sync}
use Rattle.vault.proofs.Changed.{cut_agrees, remove_agrees}
use Rattle.wal_archive.specs.Archive.{is_segment}
use Rattle.wal_archive.specs.Scanning.{TellsSegment}
use Rattle.wal_archive.proofs.Writes.{segment_names_differ}
use Rattle.store_restart.specs.Trimmed.{IsArchiveFile, IsLaterFile, IsTrim}
use Rattle.store_restart.specs.Trimming.{DropsLater}

-- ---- only some files change

agree_none : (Among : List ℕ → Type 0) (x : Option Files) → Related (AgreeBut Among) x x
agree_none Among None = tt
agree_none Among (Some m) = λ q out. refl

-- what agrees but for one of some names agrees but for these
widened : (Among : List ℕ → Type 0) (name : List ℕ) (x y : Option Files) → Among name → Related (AgreeBut (λ q. q ≡ name)) x y → Related (AgreeBut Among) x y
widened Among name None None is agree = tt
widened Among name (Some a) (Some b) is agree = λ q out. agree q (λ e. out (subst Among (sym e) is))
widened Among name None (Some b) is agree = absurd agree
widened Among name (Some a) None is agree = absurd agree

-- a cut of one of some files, whatever it answers, changes only these
pub cut_changes : {V T : Type 0} (g : Ghosts V) (Among : List ℕ → Type 0) (name : List ℕ) (size : ℕ) (x y : V) (result : Result T AreaFault) → Among name
    → Cuts name size (g.files x) (g.files y) result → (result ≡ Err NoMemory → g.files y ≡ g.files x) → MayCut name size (g.files x) (g.files y) result
    → Notes (cut name size) (g.past x) (g.past y) result → Tries (cut name size) (g.past x) (g.past y) result → g.faults x ≤ g.faults y → ChangesOnly g Among x y
cut_changes g Among name size x y result is ok memory failed notes tries later = record {
  files = widened Among name (g.files x) (g.files y) is (cut_agrees name size (g.files x) (g.files y) result ok memory failed);
  past = adds_by (IsAmong Among) (cut name size) (g.past x) (g.past y) result is notes tries;
  faults = later;
}

-- and so does a removal
pub removal_changes : {V T : Type 0} (g : Ghosts V) (Among : List ℕ → Type 0) (name : List ℕ) (x y : V) (result : Result T AreaFault) → Among name
    → Removes name (g.files x) (g.files y) result → (result ≡ Err NoMemory → g.files y ≡ g.files x) → MayRemove name (g.files x) (g.files y) result
    → Notes (removed name) (g.past x) (g.past y) result → Tries (removed name) (g.past x) (g.past y) result → g.faults x ≤ g.faults y → ChangesOnly g Among x y
removal_changes g Among name x y result is ok memory failed notes tries later = record {
  files = widened Among name (g.files x) (g.files y) is (remove_agrees name (g.files x) (g.files y) result ok memory failed);
  past = adds_by (IsAmong Among) (removed name) (g.past x) (g.past y) result is notes tries;
  faults = later;
}

-- a sync changes no file
pub sync_changes : {V T : Type 0} (g : Ghosts V) (Among : List ℕ → Type 0) (x y : V) (result : Result T AreaFault) → g.files y ≡ g.files x
    → OnOk result (g.past y ≡ noted (synced (g.files x)) (g.past x)) → OnErr result (g.past y ≡ g.past x) → g.faults x ≤ g.faults y → ChangesOnly g Among x y
sync_changes g Among x y result same ok err later = record {
  files = subst (Related (AgreeBut Among) (g.files x)) (sym same) (agree_none Among (g.files x));
  past = adds_sync (IsAmong Among) (g.files x) (g.past x) (g.past y) result tt ok err;
  faults = later;
}

-- and where nothing is called nothing changes
pub same_changes : {V : Type 0} (g : Ghosts V) (Among : List ℕ → Type 0) (x y : V) → g.files y ≡ g.files x → g.past y ≡ g.past x → g.faults x ≤ g.faults y → ChangesOnly g Among x y
same_changes g Among x y files past later = record {
  files = subst (Related (AgreeBut Among) (g.files x)) (sym files) (agree_none Among (g.files x));
  past = adds_none (IsAmong Among) (g.past x) (g.past y) past;
  faults = later;
}

-- ---- a file of a segment behind this one

pub archive_file : (mib s : ℕ) (name : List ℕ) → TellsSegment mib name (Some s) → IsArchiveFile mib name
archive_file mib s name tells = record { seg = s; there = tells.0; named = tells.1 }

pub later_file : (mib own s : ℕ) (name : List ℕ) → TellsSegment mib name (Some s) → own < s → IsLaterFile mib own name
later_file mib own s name tells later = record { seg = s; there = tells.0; later = later; named = tells.1 }

-- a name is told as that of one segment only
pub not_later : (mib own s : ℕ) (name : List ℕ) → TellsSegment mib name (Some s) → s ≤ own → IsLaterFile mib own name → ⊥
not_later mib own s name tells le is =
    let same = segment_names_differ mib is.seg s is.there tells.0 (sym is.named ∙ tells.1) in
    let late = is.later in
    omega (arith, same, le, late)

pub stays : (mib own : ℕ) (name : List ℕ) (x : Option Files) → (IsLaterFile mib own name → ⊥) → DropsLater mib own name x x
stays mib own name x not = inr (not, refl)

-- a removal of it is one of the events of a trim
pub removal_added : {T : Type 0} (mib own : ℕ) (name : List ℕ) (x y : Option (List Event)) (result : Result T AreaFault) → IsLaterFile mib own name → Notes (removed name) x y result → Tries (removed name) x y result
    → (end : ℕ) → own ≡ segment_number end mib → Adds (IsTrim mib end) x y
removal_added mib own name x y result is notes tries end e =
    adds_by (IsTrim mib end) (removed name) x y result (subst (λ (s : ℕ). IsLaterFile mib s name) e is) notes tries

-- ---- the file of the segment that has a place

pub cut_added : {T : Type 0} (mib end : ℕ) (name : List ℕ) (size : ℕ) (x y : Option (List Event)) (result : Result T AreaFault) → is_segment (segment_number end mib) ≡ true
    → name ≡ segment_name_bytes (segment_number end mib) mib → size ≡ end % segment_bytes mib → Notes (cut name size) x y result → Tries (cut name size) x y result → Adds (IsTrim mib end) x y
cut_added mib end name size x y result one named at notes tries = adds_by (IsTrim mib end) (cut name size) x y result (one, (named, at)) notes tries
